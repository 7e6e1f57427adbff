-- Thread t itself, one ahead of it, or from thread 0 on.
use Rattle.dispatch_model.proofs.Round.{pick-here, pick_low, pick-ahead}
use Rattle.dispatch_step.proofs.pick_from.Goals as goal

pub returns-then-ahead-eq1 : goal.returns-then-ahead-eq1
returns-then-ahead-eq1 c =
    pick-here _ _ c.if-ahead-eq1.true

pub returns-then-ahead-eq0 : goal.returns-then-ahead-eq0
returns-then-ahead-eq0 c =
    pick_low _ _ _ c.if-ahead-eq0.true c.lowest.ensures

pub returns : goal.returns
returns c =
    pick-ahead _ _ _ c.if-ahead-eq0.false c.lowest-2.ensures
