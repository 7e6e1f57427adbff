-- What asking for the sheet of a file gives, with a till or without one.
use Rattle.std.specs.Prelude.{◌≡◌, Bool, true, false, ℕ, List, [], length, Option, None, Some}
use Rattle.std.specs.Borrow.{Bor}
use Rattle.pair.specs.File as file
use Rattle.pair.specs.Sheet as pair
use Rattle.text.specs.Asked.{Asked}
use Rattle.bench.specs.Bench.{Promises}
use Rattle.credit_model.specs.File.{credit, journal_after}
use Rattle.credit_model.specs.Sheet.{sheet}
use Rattle.credit.specs.Runner.{Promised}

-- the bytes of a till file that may be there
abbrev pub bytes_of : Option (Bor (List ℕ)) → List ℕ
bytes_of None = []
bytes_of (Some till) = till.now

-- "where there is no such file there is no till and no such line": then it is the bench's
abbrev pub sheet_if : Bool → List ℕ → List ℕ → ℕ → List ℕ
sheet_if true b c j = sheet b c j
sheet_if false b c j = pair.sheet b j

abbrev pub journal_if : Bool → List ℕ → List ℕ → List ℕ → List ℕ
journal_if true b c j = journal_after b c j
journal_if false b c j = file.journal_after b j

-- all that is claimed of the caller's journal j, and of the state that the sheet prints, with a journal of n bytes
abbrev pub PromisedIf : Bool → List ℕ → List ℕ → List ℕ → ℕ → Type 0
PromisedIf true b c j n = Promised b c j (credit b c n)
PromisedIf false b c j n = Promises 0 b j (file.bench b n)

-- The file b was run with the till file c, if it is there, and a journal that was j₀ and is j now, and its sheet was
-- asked for with a buffer that was t₀ and is t now.
pub record SheetedIf (there : Bool) (b c j₀ j t₀ t : List ℕ) (len : ℕ) : Type 0 where
  pub journal : j ≡ journal_if there b c j₀
  pub asked : Asked (sheet_if there b c (length j₀)) t₀ t len
  pub promised : PromisedIf there b c j (length j₀)

abbrev pub Sheeted : List ℕ → List ℕ → List ℕ → List ℕ → List ℕ → List ℕ → ℕ → Type 0
Sheeted b c j₀ j t₀ t len = SheetedIf true b c j₀ j t₀ t len
