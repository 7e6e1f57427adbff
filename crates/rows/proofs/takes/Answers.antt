-- By the test on the mutex.
use Rattle.rows.proofs.Rows.{comes, stays, locks-free, locks-held}
use Rattle.rows.proofs.takes.Goals as goal

pub returns-then-l-eq-FREE : goal.returns-then-l-eq-FREE
returns-then-l-eq-FREE c =
    comes (locks-free _ _ _ _ c.if-l-eq-FREE.true c.requires.1)
    (rw c.goes_to.ensures.state at c.write_mutex.ensures) c.did.ensures

pub returns-else-l-eq-FREE : goal.returns-else-l-eq-FREE
returns-else-l-eq-FREE c =
    comes (locks-held _ _ _ _ c.if-l-eq-FREE.false) (stays c.requires.0)
    c.did-else-l-eq-FREE.ensures
