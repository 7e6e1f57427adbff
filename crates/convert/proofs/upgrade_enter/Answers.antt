-- A swap of the root: one more arrives directly.
use Rattle.lock.proofs.Library.{refl}
use Rattle.lock.specs.Call.{op}
use Rattle.rows.proofs.Words.{raised-direct}
use Rattle.rows.proofs.Rows.{at-root, swap-done, swap-missed}
use Rattle.convert.proofs.upgrade_enter.Goals as goal

pub returns-then-v-old : goal.returns-then-v-old
unfolding op
returns-then-v-old c =
    swap-done _ (at-root c.requires) refl c.if-v-old.true
    (raised-direct _ _ c.if-v-old.true c.requires.room.direct) c.goes_at.ensures
    c.swapped.ensures

pub returns-else-v-old : goal.returns-else-v-old
unfolding op
returns-else-v-old c =
    swap-missed _ (at-root c.requires) refl c.if-v-old.false refl
    c.tries_again.ensures
