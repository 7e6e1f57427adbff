-- The invariant is `Sofar`, and each way through the body is one of its laws (proofs/Going).
use Rattle.lock.proofs.Library.{arith, ◌<◌, length-take, get_or-take}
use Rattle.settling.proofs.Going.{begun, more, finish}
use Rattle.settling.proofs.settle.Goals as goal

pub loop-i-init : goal.loop-i-init
loop-i-init c =
    begun _ _ _ _ _ c.requires.good c.«open».ensures

pub loop-i-preserved : goal.loop-i-preserved
loop-i-preserved c =
    let inside : c.loop-i.i < c.args.taken = omega (arith, simp length-take at c.loop-i-test.true) in
    more c.requires c.loop-i.invariant inside (rw get_or-take at c.settle_row.ensures)

pub returns : goal.returns
returns c =
    finish c.requires c.loop-i.invariant (omega (arith, c.requires.orders, simp length-take at c.loop-i-test.false))
