-- A thread with another program counter does not write.
use Rattle.lock.specs.Phase.{standing}
use Rattle.lock.specs.Call.{obey}
use Rattle.std.proofs.lemmas.Result.{err_from_is_err_and}
use Rattle.lock.specs.State.{perform}
use Rattle.rows.proofs.Rows.{comes, stays}
use Rattle.step.proofs.Phases.{not-booking}
use Rattle.step.proofs.book.Goals as goal

pub returns-in_err-suits : goal.returns-in_err-suits
unfolding obey standing
returns-in_err-suits c =
    let p = err_from_is_err_and c.from_residual.result c.from_residual.ensures.1 in
    let e = c.in_err-suits.ensures.elsewhere in
    rw (p.1, p.2, e.0) (not-booking _ _ c.requires.0 e.1)

pub returns : goal.returns
unfolding obey standing
returns c =
    unfold perform in comes (rw c.in_ok-suits.ensures.there) (stays c.requires.0) c.did.ensures
