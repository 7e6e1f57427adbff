-- A swap of the root.
use Rattle.lock.proofs.Library.{refl}
use Rattle.lock.specs.Call.{op}
use Rattle.rows.proofs.Words.{raised-direct}
use Rattle.rows.proofs.Rows.{at-root, may-count, swap-done, swap-failed}
use Rattle.tree.proofs.enter.Goals as goal

pub returns-then-v-old : goal.returns-then-v-old
unfolding op
returns-then-v-old c =
    swap-done _ (at-root c.requires) refl c.if-v-old.true
    (raised-direct _ _ c.if-v-old.true c.requires.room.direct)
    c.goes_by.ensures c.swapped.ensures

pub failed-requires : goal.failed-requires
unfolding op
failed-requires c =
    may-count (at-root c.requires) _
    c.after_look.ensures

pub returns-else-v-old : goal.returns-else-v-old
unfolding op
returns-else-v-old c =
    swap-failed _ (at-root c.requires) refl c.if-v-old.false refl
    c.after_look.ensures c.failed.ensures
