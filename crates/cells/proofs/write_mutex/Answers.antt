-- The mutex is stored to (proofs/Stores).
use Rattle.cells.proofs.Stores.{mutex-put}
use Rattle.cells.proofs.write_mutex.Goals as goal

pub returns : goal.returns
returns c =
    mutex-put c.args.l.now c.args.m c.requires
