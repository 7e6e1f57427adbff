-- The set of readers is stored to.
use Rattle.cells.proofs.Parts.{readers-are}
use Rattle.queue.proofs.reader_joins.Goals as goal

pub returns : goal.returns
returns c =
    rw (readers-are c.args.l.now) (rw c.bit.ensures at c.write_readers.ensures)
