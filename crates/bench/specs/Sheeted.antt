-- What asking the bench for the sheet of a file gives.
use Rattle.std.specs.Prelude.{◌≡◌, ℕ, List, length}
use Rattle.lock.specs.declared.Ran.{Ran}
use Rattle.pair.specs.Pair.{first, second}
use Rattle.pair.specs.File.{bench, journal_after}
use Rattle.pair.specs.Sheet.{sheet}
use Rattle.text.specs.Asked.{Asked}
use Rattle.report.specs.declared.Numbers.{Numbers}
use Rattle.report.specs.Report.{numbers_of, sheet_of_numbers}
use Rattle.turn.specs.Turn.{cells_of}
use Rattle.bench.specs.Bench.{Promises}

-- the sheet of a run that came to these numbers and left the locks ls
abbrev pub sheet_left : Numbers → List (List ℕ) → List ℕ
sheet_left n ls = sheet_of_numbers n (cells_of first ls) (cells_of second ls)

abbrev pub run_sheet : Ran → List (List ℕ) → List ℕ
run_sheet r ls = sheet_left (numbers_of r) ls

-- The file b was run with a journal that was j₀ and is j now, and its sheet was asked for with a buffer that was t₀ and
-- is t now. All is promised of the caller's journal and of the state that the sheet prints that a run promises.
pub record Sheeted (b j₀ j t₀ t : List ℕ) (len : ℕ) : Type 0 where
  pub journal : j ≡ journal_after b j₀
  pub asked : Asked (sheet b (length j₀)) t₀ t len
  pub promises : Promises 0 b j (bench b (length j₀))
