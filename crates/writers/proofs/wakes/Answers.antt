-- The group in the thread's hand wakes.
use Rattle.lock.specs.Call.{op}
use Rattle.cells.specs.View.{seen}
use Rattle.rows.proofs.Rows.{comes, wakens, members-are}
use Rattle.writers.proofs.wakes.Goals as goal

pub returns : goal.returns
returns c =
    unfold op in let a = c.args in
    comes (wakens _ _ _ _ _ (members-are a.pc (seen a.l.now a.t))) c.hands_over.ensures
    c.did.ensures
