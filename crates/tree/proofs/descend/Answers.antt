-- A swap of the node, from 0.
use Rattle.lock.proofs.Library.{refl}
use Rattle.lock.specs.Call.{op}
use Rattle.rows.proofs.Rows.{at-node, swap-done, swap-missed}
use Rattle.tree.proofs.descend.Goals as goal

pub returns-then-l-c-eq-OPEN : goal.returns-then-l-c-eq-OPEN
unfolding op
returns-then-l-c-eq-OPEN c =
    swap-done _ (at-node c.requires.0) refl c.if-l-c-eq-OPEN.true refl
    c.after_arrival.ensures c.swapped.ensures

pub returns-else-l-c-eq-OPEN : goal.returns-else-l-c-eq-OPEN
unfolding op
returns-else-l-c-eq-OPEN c =
    swap-missed _ (at-node c.requires.0) refl c.if-l-c-eq-OPEN.false refl
    c.tries_again.ensures
