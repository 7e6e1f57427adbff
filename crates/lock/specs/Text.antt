-- Text as bytes, and numbers in decimal.
use Rattle.std.specs.Prelude.{ℕ, zero, suc, ◌+◌, ◌/◌, ◌%◌, List, [], ◌∷◌, ◌++◌, ltb}
use Prim.Native.String.{String, [], ◌∷◌}
use Prim.Native.Char.{code}
use Rattle.std.specs.Prelude.{if◌then◌else◌}

-- the bytes of an ASCII text
unfoldable pub text : String → List ℕ
text [] = []
text (c ∷ s) = code c ∷ text s

-- the digit d as a byte
abbrev pub digit : ℕ → ℕ
digit d = 48 + d

-- the last k decimal digits of n, without leading zeros
unfoldable pub digits : ℕ → ℕ → List ℕ
digits zero n = []
digits (suc k) n = (if ltb n 10 then [] else digits k (n / 10)) ++ digit (n % 10) ∷ []

-- n in decimal. Ten digits hold every number that a run can print (docs/DECISIONS.md, 9), and bound every sheet's
-- length
unfoldable pub decimal : ℕ → List ℕ
unfolding digits
decimal n = digits 10 n
