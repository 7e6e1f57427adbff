-- A store, whoever is queued.
use Rattle.lock.proofs.Library.{refl}
use Rattle.lock.specs.Call.{op}
use Rattle.rows.proofs.Rows.{comes, stores}
use Rattle.writers.proofs.unlock_open.Goals as goal

pub returns : goal.returns
returns c =
    unfold op in comes (stores _ _ _ _ _ _ refl)
    (rw c.goes_to.ensures.state at c.write_word.ensures) c.did.ensures
