-- A line of bytes: its parts, and how long it is at most.
use Rattle.lock.proofs.Library.{ℕ, ◌+◌, ◌*◌, ◌≤◌, ◌≡◌, refl, List, ◌++◌, arith, length, length-append, take}
use Rattle.lock.proofs.Library.{length-take}
use Rattle.lock.specs.Text.{text}
use Rattle.text.specs.Writing.{Room}
use Rattle.text.proofs.Lines.{lines-length}
use Rattle.hex_text.specs.Hex.{hex_byte, hex_bytes, bytes_line}

-- the definition, opened by one step
pub line-is : (label bs : List ℕ) → bytes_line label bs ≡ (label ++ hex_bytes bs) ++ text "\n"
unfolding bytes_line
line-is label bs = refl

hex-length : (bs : List ℕ) → length (hex_bytes bs) ≤ length bs * 3
hex-length bs = lines-length (λ (i : ℕ). hex_byte) 3 (λ i b. omega arith) 0 bs

pub line-length : (label bs : List ℕ) → length (bytes_line label bs) ≤ length label + length bs * 3 + 1
unfolding text
line-length label bs = rw (line-is label bs) (simp length-append (omega (arith, hex-length bs)))

-- a line of at most 8,197 bytes, the longest schedule, fits 32,768
pub short-line : (b label bs : List ℕ)
    → length b ≡ 32768 → length label ≡ 5 → length bs ≤ 8197 → Room b 0 (bytes_line label bs)
short-line b label bs x y z = record { fits = omega (arith, line-length label bs) }

pub short-part : (n : ℕ) (xs : List ℕ) → n ≤ 8197 → length (take n xs) ≤ 8197
short-part n xs h = omega (arith, length-take n xs)
