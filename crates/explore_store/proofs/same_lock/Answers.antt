-- Of every number passed it is known that they are equal, unless `differ` has a bit.
use Rattle.lock.proofs.Library.{arith, eqb-true}
use Rattle.explore_store.proofs.Store.{compared, equal-whole}
use Rattle.explore_store.proofs.same_lock.Goals as goal

pub loop-j-preserved : goal.loop-j-preserved
loop-j-preserved c =
    let a = c.args in compared a.a.now a.b.now c.loop-j.j c.loop-j.differ c.loop-j.invariant

pub returns : goal.returns
returns c e =
    equal-whole c.args.a.now c.args.b.now 512 c.loop-j.j c.requires.0 c.requires.1
    (omega arith) (c.loop-j.invariant (eqb-true _ _ e))
