-- Each of the two has the numbers of the fresh lock.
use Rattle.lock.proofs.Library.{refl}
use Rattle.step.proofs.Reach.{begun}
use Rattle.turn.proofs.Both.{begins}
use Rattle.turn.proofs.fresh_locks.Goals as goal

pub returns : goal.returns
returns c =
    begins refl (begun _ c.fresh-l.ensures) (begun _ c.fresh-l.ensures)
