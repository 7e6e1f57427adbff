-- After i turns the first i bytes are written.
use Rattle.lock.proofs.Library.{ℕ, length}
use Rattle.text.proofs.Lines.{Sofar}
use Rattle.hex_text.specs.Hex.{hex_byte}
use Rattle.hex_text.proofs.put_bytes.Given as goal

abbrev pub invariant-loop-byte : goal.invariant-loop-byte
invariant-loop-byte l =
    Sofar (λ (i : ℕ). hex_byte) l.initial.page (length l.bytes) l.bytes l.page l.byte-index
