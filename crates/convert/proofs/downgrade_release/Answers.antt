-- By whether there is someone to wake.
use Rattle.lock.proofs.Library.{eq-eqb, ne_eqb}
use Rattle.lock.specs.Call.{op}
use Rattle.rows.proofs.Rows.{comes, frees}
use Rattle.convert.proofs.downgrade_release.Goals as goal

pub returns-then-l-t-eq0 : goal.returns-then-l-t-eq0
returns-then-l-t-eq0 c =
    unfold op in rw (eq-eqb _ 0 c.if-l-t-eq0.true) (comes (frees _ _ _ _)
    (rw c.goes_reading.ensures.state at c.write_mutex.ensures) c.did.ensures)

pub returns-else-l-t-eq0 : goal.returns-else-l-t-eq0
returns-else-l-t-eq0 c =
    unfold op in rw (ne_eqb _ 0 c.if-l-t-eq0.false) c.releases.ensures
