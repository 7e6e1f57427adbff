-- The invariant is `Waking`; the rest of the group is the measure, since a bit goes at each look.
use Rattle.lock.proofs.Library.{◌<◌, arith, rules}
use Rattle.waking.proofs.Waking.{none-woken, one-woken, all-woken}
use Rattle.waking.proofs.wake_all.Goals as goal

pub loop-rest-init : goal.loop-rest-init
loop-rest-init c =
    none-woken _ _ _ (search rules)

pub loop-rest-preserved : goal.loop-rest-preserved
loop-rest-preserved c =
    let some : 0 < c.loop-rest.rest = let t = c.loop-rest-test.true in omega arith in
    rw c.lowest-t.ensures (one-woken c.loop-rest.invariant some)

pub returns : goal.returns
returns c =
    all-woken c.loop-rest.invariant c.loop-rest-test.false
