-- The sheet of a file with a till: "The sheet ends with a line per room: `room`, number, balance".
use Rattle.std.specs.Prelude.{ℕ, List, [], ◌++◌}
use Rattle.std.proofs.Math.Option.{Option, none, some}
use Rattle.lock.specs.declared.Sizes.{Sizes}
use Rattle.lock.specs.File.{sizes_of}
use Rattle.pair.specs.Pair.{Pair}
use Rattle.pair.specs.Sheet.{sheet_of}
use Rattle.till.specs.Rooms.{room_lines}
use Rattle.credit_model.specs.Credit.{Credit}
use Rattle.credit_model.specs.File.{credit}

abbrev pub locks_if : Option Credit → Option Pair
locks_if none = none
locks_if (some s) = some s.locks

-- "For refusals 1 to 4 only the first line", and for 10
abbrev pub room_lines_if : Option Credit → List ℕ
room_lines_if none = []
room_lines_if (some s) = room_lines s.ledger

-- the bench's sheet of a run's answer, rows taken and locks, and behind it the rooms
unfoldable pub credit_sheet_of : Sizes → ℕ → ℕ → Option Credit → List ℕ
credit_sheet_of z answer taken s = sheet_of z answer taken (locks_if s) ++ room_lines_if s

-- the sheet of the file b and the till file c, run with a journal of j bytes
unfoldable pub sheet : List ℕ → List ℕ → ℕ → List ℕ
unfolding credit_sheet_of credit
sheet b c j = let r = credit b c j in credit_sheet_of (sizes_of b) r.answer r.taken r.state
