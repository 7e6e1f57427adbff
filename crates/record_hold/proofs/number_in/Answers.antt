-- The root as it lies there; of a node the count.
use Rattle.lock.proofs.Library.{◌∙◌}
use Rattle.record_hold.proofs.Values.{root-number, node-number}
use Rattle.record_hold.proofs.number_in.Goals as goal

pub returns-then-w-eq0 : goal.returns-then-w-eq0
returns-then-w-eq0 c =
    root-number _ _ c.requires c.if-w-eq0.true

pub returns-else-w-eq0 : goal.returns-else-w-eq0
returns-else-w-eq0 c =
    c.tree_of.ensures ∙ node-number _ _ c.requires c.if-w-eq0.false
