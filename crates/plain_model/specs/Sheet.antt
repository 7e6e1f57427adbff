-- The plain engine's file and sheet. "It reads a file of the same form … Its sheet has no node lines and `-` for each
-- ticket. It refuses by 1 to 3, 5 to 7 and 9".
use Rattle.std.specs.Prelude.{ℕ, List, [], ◌++◌, take}
use Rattle.std.proofs.Math.Option.{Option, none, some}
use Rattle.lock.specs.Queue.{groups}
use Rattle.lock.specs.declared.Standing.{Standing}
use Rattle.lock.specs.declared.Thread.{Thread}
use Rattle.lock.specs.Phase.{standing}
use Rattle.lock.specs.declared.Sizes.{Sizes}
use Rattle.lock.specs.Machine.{GivenOf, given_by}
use Rattle.lock.specs.File.{sizes_of, rows_of, file_refusal}
use Rattle.lock.specs.Text.{text, decimal}
use Rattle.lock.specs.Sheet.{answer_line, closed_field, queue_line, standing_name, lines}
use Rattle.plain_model.specs.Root.{Root, is_shut}
use Rattle.plain_model.specs.Plain.{Plain, plain_fresh, plain_run}

-- "by 1 to 3": no journal is lent
unfoldable pub plain_bench : List ℕ → GivenOf Plain (Unit {0})
unfolding plain_run
plain_bench b = given_by (file_refusal b) (plain_run (sizes_of b) plain_fresh (rows_of b))

-- "`-` for each ticket"; the failures are 0: a whole call meets nobody, and its swaps do not fail
unfoldable pub plain_standing : Standing → List ℕ
unfolding text standing_name
plain_standing x = standing_name x ++ text " - 0\n"

unfoldable pub plain_thread_line : ℕ → Thread → List ℕ
unfolding text decimal standing plain_standing
plain_thread_line t h = text "thread " ++ decimal t ++ plain_standing (standing h.phase)

-- "the plain engine's one number as before"
unfoldable pub plain_root_line : Root → List ℕ
unfolding text decimal
plain_root_line v = text "root " ++ decimal v.count ++ closed_field (is_shut v)

-- "Its sheet has no node lines"
abbrev pub plain_lines : Sizes → Option Plain → List ℕ
unfolding plain_root_line queue_line lines plain_thread_line
plain_lines z none = []
plain_lines z (some p) = plain_root_line p.root ++ queue_line none
    (groups p.queue) p.queue.waiting ++ lines plain_thread_line 0 (take z.threads p.threads)

-- the sheet of a run of the sizes z: its answer, calls taken and state, if it has one
unfoldable pub plain_sheet_of : Sizes → ℕ → ℕ → Option Plain → List ℕ
unfolding answer_line plain_root_line queue_line lines plain_thread_line
plain_sheet_of z answer taken s = answer_line answer taken ++ plain_lines z s

unfoldable pub plain_sheet : List ℕ → List ℕ
unfolding plain_bench plain_sheet_of
plain_sheet b = let r = plain_bench b in plain_sheet_of (sizes_of b) r.answer r.taken r.state
