-- Outside calls by what it wants; inside one it is able, and asleep it is not.
use Rattle.dispatch_step.proofs.Hand.{outside-able, by-pc}
use Rattle.dispatch_step.proofs.able_in.Goals as goal

pub returns-then-pc-lt-LOOK : goal.returns-then-pc-lt-LOOK
returns-then-pc-lt-LOOK c =
    outside-able _ _ c.if-pc-lt-LOOK.true

pub returns : goal.returns
returns c =
    by-pc _ _ c.if-pc-lt-LOOK.false
