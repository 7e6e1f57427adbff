-- The writer who has waited longest.
use Rattle.lock.proofs.Library.{refl, true}
use Rattle.lock.specs.Call.{op}
use Rattle.rows.proofs.Rows.{comes, next-longest}
use Rattle.writers.proofs.last_next.Goals as goal

pub returns : goal.returns
returns c =
    unfold op in comes (next-longest _ _ _ true _ refl) c.takes_longest.ensures c.did.ensures
