-- The set of readers is stored to (proofs/Stores).
use Rattle.queue.proofs.Stores.{readers-put}
use Rattle.queue.proofs.write_readers.Goals as goal

pub returns : goal.returns
returns c =
    readers-put c.args.l.now c.requires c.args.b
