-- A swap of the root, from (0, open).
use Rattle.lock.proofs.Library.{refl}
use Rattle.lock.specs.Call.{op}
use Rattle.rows.proofs.Rows.{at-root, may-count, swap-done, swap-failed}
use Rattle.writers.proofs.write_enter.Goals as goal

pub returns-then-v-eq-OPEN : goal.returns-then-v-eq-OPEN
unfolding op
returns-then-v-eq-OPEN c =
    swap-done _ (at-root c.requires) refl c.if-v-eq-OPEN.true refl c.goes_to.ensures
    c.swapped.ensures

pub failed-requires : goal.failed-requires
unfolding op
failed-requires c =
    may-count (at-root c.requires) _
    c.after_write_look.ensures

pub returns-else-v-eq-OPEN : goal.returns-else-v-eq-OPEN
unfolding op
returns-else-v-eq-OPEN c =
    swap-failed _ (at-root c.requires) refl c.if-v-eq-OPEN.false refl
    c.after_write_look.ensures c.failed.ensures
