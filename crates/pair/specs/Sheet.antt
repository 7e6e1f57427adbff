-- The sheet of a file: "The sheet prints the second lock's lines after the first's, without an answer line."
use Rattle.std.specs.Prelude.{ℕ, List, [], ◌++◌}
use Rattle.std.proofs.Math.Option.{Option, none, some}
use Rattle.lock.specs.declared.Sizes.{Sizes}
use Rattle.lock.specs.File.{sizes_of}
use Rattle.lock.specs.Sheet.{answer_line, state_lines}
use Rattle.pair.specs.Pair.{Pair}
use Rattle.pair.specs.File.{bench}

unfoldable pub pair_lines : Sizes → Pair → List ℕ
unfolding state_lines
pair_lines z s = state_lines z s.one ++ state_lines z s.two

-- "For refusals 1 to 4 only the first line, with `at 0`."
abbrev pub pair_lines_if : Sizes → Option Pair → List ℕ
unfolding pair_lines
pair_lines_if z none = []
pair_lines_if z (some s) = pair_lines z s

-- the sheet of a run of the sizes z: its answer, rows taken and state, if it has one
unfoldable pub sheet_of : Sizes → ℕ → ℕ → Option Pair → List ℕ
unfolding answer_line pair_lines
sheet_of z answer taken s = answer_line answer taken ++ pair_lines_if z s

-- the sheet of the file b, run with a journal of j bytes
unfoldable pub sheet : List ℕ → ℕ → List ℕ
unfolding sheet_of bench
sheet b j = let r = bench b j in sheet_of (sizes_of b) r.answer r.taken r.state
