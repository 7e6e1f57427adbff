-- A thread with another program counter is not idle.
use Rattle.lock.specs.Phase.{standing}
use Rattle.lock.specs.Call.{obey}
use Rattle.std.proofs.lemmas.Result.{err_from_is_err_and}
use Rattle.step.proofs.Phases.{starts, not-idle}
use Rattle.step.proofs.read_lock.Goals as goal

pub returns-in_err-suits : goal.returns-in_err-suits
unfolding obey standing
returns-in_err-suits c =
    let p = err_from_is_err_and c.from_residual.result c.from_residual.ensures.1 in
    let e = c.in_err-suits.ensures.elsewhere in
    rw (p.1, p.2, e.0) (not-idle _ _ c.requires.0 _ e.1)

pub returns : goal.returns
unfolding obey standing
returns c =
    starts _ _ (rw c.in_ok-suits.ensures.there) c.goes_by.ensures c.did.ensures
