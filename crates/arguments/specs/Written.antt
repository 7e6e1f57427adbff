-- What a program writes of the bytes that it reads.
use Rattle.std.specs.Prelude.{ℕ, ◌≡◌, List, length, take, Option}
use Rattle.std.specs.Io.KnownBytes.{Appends, Consumes}
use denote.Ref.{Bor, MutBor}

-- a function that is given the bytes b and a buffer of 8,192 bytes may say n and leave t in the buffer
abbrev pub GivesSheet : (Bor (List ℕ) → MutBor (List ℕ) → ℕ → MutBor (List ℕ) → Type 0) → List ℕ → ℕ → List ℕ → Type 0
GivesSheet post b n t =
    (file : Bor (List ℕ)) × (before : MutBor (List ℕ)) × (after : MutBor (List ℕ)) × post file before n after
    × (file.now ≡ b) × (length before.now ≡ 8192) × (after.now ≡ t)

-- A function was given the bytes that a source lost, and a buffer. It said how many bytes of the buffer are the sheet,
-- and these were written.
pub record WritesSheet (post : Bor (List ℕ) → MutBor (List ℕ) → ℕ → MutBor (List ℕ) → Type 0)
    (lost₀ lost wrote₀ wrote : Option (List ℕ)) : Type 0 where
  pub file : List ℕ
  pub len : ℕ
  pub sheet : List ℕ
  pub given : GivesSheet post file len sheet
  pub read : Consumes lost₀ lost file
  pub written : Appends wrote₀ wrote (take len sheet)
