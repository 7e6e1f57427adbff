-- The front goes on by one, and the count is one less (proofs/Stores).
use Rattle.lock.proofs.Library.{refl}
use Rattle.queue.proofs.Stores.{longest-out}
use Rattle.queue.proofs.longest_leaves.Goals as goal

pub returns : goal.returns
returns c =
    longest-out c.args.l.now c.requires.0 _ _ c.requires.1 c.behind.ensures.0 refl
