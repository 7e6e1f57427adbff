-- The cell of a thread that there is, and 0 of any other.
use Rattle.lock.proofs.Library.{arith}
use Rattle.cells.proofs.Parts.{thread-is, no-thread}
use Rattle.cells.proofs.failures_of.Goals as goal

pub returns-then-t-ge64 : goal.returns-then-t-ge64
returns-then-t-ge64 c =
    rw (no-thread c.args.l.now c.args.t c.if-t-ge64.true)

pub returns-else-t-ge64 : goal.returns-else-t-ge64
returns-else-t-ge64 c =
    rw (thread-is c.args.l.now c.args.t (omega (arith, c.if-t-ge64.false)))
