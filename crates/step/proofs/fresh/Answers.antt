-- The numbers are those of the fresh lock.
use Rattle.step.proofs.Reach.{begun}
use Rattle.step.proofs.fresh.Goals as goal

pub returns : goal.returns
returns c =
    begun _ c.fresh.ensures
