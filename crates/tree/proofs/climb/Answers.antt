-- A read of the node.
use Rattle.lock.proofs.Library.{refl}
use Rattle.lock.specs.Call.{op}
use Rattle.rows.proofs.Rows.{comes, reads}
use Rattle.tree.proofs.climb.Goals as goal

pub returns : goal.returns
returns c =
    unfold op in comes (reads _ _ _ _ _ _ c.requires.0.inside refl) c.after_climb.ensures
    c.did.ensures
