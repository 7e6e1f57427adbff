-- A swap of the node.
use Rattle.lock.proofs.Library.{refl}
use Rattle.lock.specs.Call.{op}
use Rattle.rows.proofs.Words.{raised}
use Rattle.rows.proofs.Rows.{at-node, may-count, swap-done, swap-failed}
use Rattle.tree.proofs.climb_swap.Goals as goal

pub returns-then-v-old : goal.returns-then-v-old
unfolding op
returns-then-v-old c =
    swap-done _ (at-node c.requires.0) refl c.if-v-old.true (raised _ _ c.if-v-old.true)
    c.after_arrival.ensures c.swapped.ensures

pub failed-requires : goal.failed-requires
unfolding op
failed-requires c =
    may-count (at-node c.requires.0) _
    c.after_climb.ensures

pub returns-else-v-old : goal.returns-else-v-old
unfolding op
returns-else-v-old c =
    swap-failed _ (at-node c.requires.0) refl c.if-v-old.false refl
    c.after_climb.ensures c.failed.ensures
