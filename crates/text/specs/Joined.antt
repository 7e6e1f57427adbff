-- Two names put together.
use Rattle.std.specs.Prelude.{ℕ, ◌≤◌, ◌≡◌, List, ◌∷◌, ◌++◌, length, drop, ltb, Option, None, Some, unwrap_or}
use Rattle.std.specs.Prelude.{if◌then◌else◌}

-- two names with a space between them
abbrev pub joined : List ℕ → List ℕ → List ℕ
joined x y = x ++ 32 ∷ y

-- The two names were asked for with a buffer that was t₀ and is t now; where they do not fit, no length is given and
-- nothing is written. `within` follows from the others.
pub record Joined (x y t₀ t : List ℕ) (len : Option ℕ) : Type 0 where
  pub buffer : t ≡ (if ltb (length t₀) (length (joined x y)) then t₀ else joined x y ++ drop (length (joined x y)) t₀)
  pub long : len ≡ (if ltb (length t₀) (length (joined x y)) then None else Some (length (joined x y)))
  pub within : unwrap_or len 0 ≤ length t
