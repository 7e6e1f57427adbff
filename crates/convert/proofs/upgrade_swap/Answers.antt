-- A swap of the root to (0, 0, closed).
use Rattle.lock.proofs.Library.{refl}
use Rattle.lock.specs.Call.{op}
use Rattle.rows.proofs.Rows.{at-root, may-count, swap-done, swap-failed}
use Rattle.convert.proofs.upgrade_swap.Goals as goal

pub returns-then-v-old : goal.returns-then-v-old
unfolding op
returns-then-v-old c =
    swap-done _ (at-root c.requires) refl c.if-v-old.true refl
    c.goes_to.ensures c.swapped.ensures

pub failed-requires : goal.failed-requires
unfolding op
failed-requires c =
    may-count (at-root c.requires) _
    c.after_upgrade_look.ensures

pub returns-else-v-old : goal.returns-else-v-old
unfolding op
returns-else-v-old c =
    swap-failed _ (at-root c.requires) refl c.if-v-old.false refl
    c.after_upgrade_look.ensures c.failed.ensures
