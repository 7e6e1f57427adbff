-- What the sheet program writes.
use Rattle.std.specs.Prelude.{ℕ, Bool, List, Option}
use Rattle.std.specs.Io.KnownBytes.{Appends, Consumes}
use Rattle.credit.specs.Sheeted.{sheet_if}

-- The sheet of the schedule file that the source lost was written: with the till, where there is one. A journal of 8,192
-- bytes has room for every file.
pub record WritesSheet (lost₀ lost wrote₀ wrote : Option (List ℕ)) : Type 0 where
  pub file : List ℕ
  pub there : Bool
  pub till : List ℕ
  pub read : Consumes lost₀ lost file
  pub written : Appends wrote₀ wrote (sheet_if there file till 8192)
