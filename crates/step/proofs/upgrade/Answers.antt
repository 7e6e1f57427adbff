-- A thread with another program counter does not read.
use Rattle.lock.proofs.Library.{ne_eqb}
use Rattle.lock.specs.Phase.{standing}
use Rattle.lock.specs.Call.{obey}
use Rattle.std.proofs.lemmas.Result.{err_from_is_err_and}
use Rattle.step.proofs.Phases.{starts, not-reading}
use Rattle.step.proofs.upgrade.Goals as goal
use Rattle.step.proofs.upgrade.Goals.{then-l-t-eq0, else-l-t-eq0}

pub returns-in_err-suits : goal.returns-in_err-suits
unfolding obey standing
returns-in_err-suits c =
    let p = err_from_is_err_and c.from_residual.result c.from_residual.ensures.1 in
    let e = c.in_err-suits.ensures.elsewhere in
    rw (p.1, p.2, e.0) (not-reading _ _ c.requires.0 e.1)

pub returns : goal.returns
unfolding obey standing
returns c =
    let reads = c.in_ok-suits.ensures.there in
    elim c.if-l-t-eq0.branch [
      | then-l-t-eq0 w ↦
          rw w.l-is (starts _ _ (rw (reads, w.if-l-t-eq0.true)) w.goes_to.ensures c.did.ensures)
      | else-l-t-eq0 w ↦
          rw w.l-is (starts _ _ (rw (reads, ne_eqb _ 0 w.if-l-t-eq0.false)) w.goes_to-else-l-t-eq0.ensures c.did.ensures)
    ]
