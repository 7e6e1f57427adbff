-- The run with two bytes more, or nothing where there are more rows (proofs/Outcome `adds_nothing`).
use Rattle.lock.proofs.Library.{lt-ltb, le-ltb, arith}
use Rattle.stored.specs.Runs.{longer_run}
use Rattle.stored.proofs.Outcome.{adds_nothing}
use Rattle.stored.proofs.put_longer_run.Goals as goal

pub put_blank_run-requires : goal.put_blank_run-requires
unfolding longer_run
put_blank_run-requires c =
    (rw (le-ltb 1024 _ c.if-schedule-le1024.true) at c.requires, omega arith, omega arith)

pub returns-then-schedule-le1024 : goal.returns-then-schedule-le1024
unfolding longer_run
returns-then-schedule-le1024 c =
    rw (le-ltb 1024 _ c.if-schedule-le1024.true) c.put_blank_run.ensures

pub returns-else-schedule-le1024 : goal.returns-else-schedule-le1024
unfolding longer_run
returns-else-schedule-le1024 c =
    adds_nothing (rw (lt-ltb 1024 _ c.if-schedule-le1024.false)) c.requires
