-- A swap of the node.
use Rattle.lock.proofs.Library.{refl}
use Rattle.lock.specs.Call.{op}
use Rattle.rows.proofs.Words.{raised}
use Rattle.rows.proofs.Rows.{at-node, swap-done, swap-missed}
use Rattle.tree.proofs.again_swap.Goals as goal

pub returns-then-v-old : goal.returns-then-v-old
unfolding op
returns-then-v-old c =
    swap-done _ (at-node c.requires.0) refl c.if-v-old.true (raised _ _ c.if-v-old.true)
    c.after_settle.ensures c.swapped.ensures

pub returns-else-v-old : goal.returns-else-v-old
unfolding op
returns-else-v-old c =
    swap-missed _ (at-node c.requires.0) refl c.if-v-old.false refl
    c.tries_again.ensures
