-- Two stores, one after the other.
use Rattle.rows.proofs.Rows.{comes, frees}
use Rattle.rows.proofs.releases.Goals as goal

pub returns : goal.returns
returns c =
    comes (frees _ _ _ _)
    (rw c.goes_to.ensures.state at c.write_mutex.ensures) c.did.ensures
