-- After i turns the first i bytes are written.
use Rattle.lock.proofs.Library.{ℕ, arith, take-length}
use Rattle.text.proofs.Lines.{none, all, room-line, more}
use Rattle.hex_text.specs.Hex.{hex_byte}
use Rattle.hex_text.proofs.put_bytes.Goals as goal

pub loop-byte-init : goal.loop-byte-init
loop-byte-init c = none (λ (i : ℕ). hex_byte) (omega arith) (rw take-length c.requires)

pub put_hex-requires : goal.put_hex-requires
put_hex-requires c = room-line (λ (i : ℕ). hex_byte) c.loop-byte.invariant 0 c.loop-byte-test.true

pub loop-byte-preserved : goal.loop-byte-preserved
loop-byte-preserved c =
    more (λ (i : ℕ). hex_byte) c.loop-byte.invariant 0 c.loop-byte-test.true c.put_hex.ensures
