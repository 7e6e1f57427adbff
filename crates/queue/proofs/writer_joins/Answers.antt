-- The number is put behind the last, and counted (proofs/Stores).
use Rattle.lock.proofs.Library.{refl}
use Rattle.queue.proofs.Stores.{writer-put}
use Rattle.queue.proofs.writer_joins.Goals as goal

pub returns : goal.returns
returns c =
    writer-put c.args.l.now c.requires.0 c.args.t _ _ c.requires.2 c.requires.1 c.behind-at.ensures.0
    c.behind-at.ensures.1 refl
