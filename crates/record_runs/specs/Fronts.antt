-- What holding a record in two pieces came to, its sheet, and what is written of a record.
use Rattle.std.specs.Prelude.{ℕ, ◌≤◌, ◌≡◌, List, ◌++◌, length, take, Option}
use Rattle.std.specs.Io.KnownBytes.{Appends}
use Rattle.lock.specs.File.{sizes_of}
use Rattle.lock.specs.Text.{text}
use Rattle.arguments.specs.Runs.{run_text}
use Rattle.record_model.specs.Record.{Told, verdict}
use Rattle.record_model.specs.Sheet.{record_sheet}
use Rattle.record_hold.specs.Holds.{HoldsRecord}
use Rattle.record_report.specs.Sheeted.{SheetsRecord}

-- What is told, and the locks ls, are those of the first bytes of the record b; of all of them where the answer is 0.
pub record HoldsFront (b : List ℕ) (ls : List (List ℕ)) (r : Told) : Type 0 where
  pub front : ℕ
  pub before : List (List ℕ)
  pub sizes : sizes_of b ≡ sizes_of (take front b)
  pub holds : HoldsRecord (take front b) before ls r
  pub whole : r.answer ≡ 0 → length b ≤ front

-- The sheet asked for is that of the first bytes of the record b; of all of them where the answer is 0.
pub record SheetsFront (b t₀ t : List ℕ) (len : ℕ) : Type 0 where
  pub front : ℕ
  pub sheets : SheetsRecord (take front b) t₀ t len
  pub whole : (verdict (take front b)).told.answer ≡ 0 → length b ≤ front

-- `run` and the name, the sheet of the record b, a line, and the sheet of the first bytes of b, of all of them where
-- its answer is 0.
pub record WritesSheets (name b : List ℕ) (wrote₀ wrote : Option (List ℕ)) : Type 0 where
  pub front : ℕ
  pub written : Appends wrote₀ wrote
      (run_text name (record_sheet b) ++ text "in two pieces\n" ++ record_sheet (take front b))
  pub whole : (verdict (take front b)).told.answer ≡ 0 → length b ≤ front
