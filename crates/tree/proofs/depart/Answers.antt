-- A read of the node.
use Rattle.lock.proofs.Library.{refl}
use Rattle.lock.specs.Call.{op}
use Rattle.rows.proofs.Rows.{comes, reads}
use Rattle.tree.proofs.depart.Goals as goal

pub returns : goal.returns
returns c =
    unfold op in let a = c.requires in
    comes (reads _ _ _ _ _ _ a.0.inside refl) (rw (a.1.swaps _ _ _ _) at c.reads.ensures.left)
    c.reads.ensures.is
