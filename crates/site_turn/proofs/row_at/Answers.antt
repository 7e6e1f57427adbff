-- Order 0 goes on with the call, any other begins one: either is the step of the definitions.
use Rattle.lock.specs.Call.{obey}
use Rattle.step.proofs.Reach.{stepped}
use Rattle.step.proofs.Orders.{step-there}
use Rattle.site_turn.proofs.row_at.Goals as goal

pub returns-then-order-eq0 : goal.returns-then-order-eq0
unfolding obey
returns-then-order-eq0 c =
    rw c.if-order-eq0.true (stepped _ (rw (step-there c.args.z c.args.l.now c.args.t 0
    c.requires.0.range.threads c.requires.1) c.go_on.ensures))

pub returns : goal.returns
returns c =
    stepped _ (rw (step-there c.args.z c.args.l.now c.args.t c.args.order
    c.requires.0.range.threads c.requires.1) c.begin.ensures)
