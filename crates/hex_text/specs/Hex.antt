-- Bytes in hexadecimal.
use Rattle.std.specs.Prelude.{ℕ, ◌+◌, ◌/◌, ◌%◌, List, [], ◌∷◌, ◌++◌, ltb}
use Rattle.std.specs.Prelude.{if◌then◌else◌}
use Rattle.lock.specs.Sheet.{lines}
use Rattle.lock.specs.Text.{text}

-- the last hexadecimal digit of n as a byte: 0 to 9, then a to f
unfoldable pub hex_digit : ℕ → ℕ
hex_digit n = let d = n % 16 in if ltb d 10 then 48 + d else 87 + d

-- the byte b as a space and two digits
abbrev pub hex_byte : ℕ → List ℕ
hex_byte b = 32 ∷ hex_digit (b / 16) ∷ hex_digit b ∷ []

-- bytes, one after the other
abbrev pub hex_bytes : List ℕ → List ℕ
hex_bytes bs = lines (λ (i : ℕ). hex_byte) 0 bs

-- bytes behind a label, on one line
unfoldable pub bytes_line : List ℕ → List ℕ → List ℕ
bytes_line label bs = label ++ hex_bytes bs ++ text "\n"
