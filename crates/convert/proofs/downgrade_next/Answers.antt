-- Two stores, one after the other.
use Rattle.lock.specs.Call.{op}
use Rattle.rows.proofs.Rows.{comes, takes-readers}
use Rattle.convert.proofs.downgrade_next.Goals as goal

pub returns : goal.returns
returns c =
    unfold op in comes (takes-readers _ _ _ _)
    (rw c.write_readers.ensures.state at c.goes_with.ensures)
    c.did.ensures
