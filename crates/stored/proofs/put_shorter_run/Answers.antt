-- The run with a byte less, or nothing where there are no rows (proofs/Outcome `adds_nothing`).
use Rattle.lock.proofs.Library.{lt-ltb, le-ltb, arith}
use Rattle.stored.specs.Runs.{shorter_run}
use Rattle.stored.proofs.Outcome.{adds_nothing}
use Rattle.stored.proofs.put_shorter_run.Goals as goal

pub put_blank_run-requires : goal.put_blank_run-requires
unfolding shorter_run
put_blank_run-requires c =
    (rw (lt-ltb 0 _ c.if-schedule-gt0.true) at c.requires.0, omega arith, omega arith)

pub returns-then-schedule-gt0 : goal.returns-then-schedule-gt0
unfolding shorter_run
returns-then-schedule-gt0 c =
    rw (lt-ltb 0 _ c.if-schedule-gt0.true) c.put_blank_run.ensures

pub returns-else-schedule-gt0 : goal.returns-else-schedule-gt0
unfolding shorter_run
returns-else-schedule-gt0 c =
    adds_nothing (rw (le-ltb 0 _ c.if-schedule-gt0.false)) c.requires.0
