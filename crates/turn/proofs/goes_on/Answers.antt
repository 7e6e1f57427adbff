-- The invariant is `Sofar`, and each way through the body is one of its laws (proofs/Going).
use Rattle.lock.proofs.Library.{arith}
use Rattle.turn.proofs.Going.{begun, next-ready, takes, denies, neither-takes}
use Rattle.turn.proofs.goes_on.Goals as goal

pub loop-side-init : goal.loop-side-init
loop-side-init c =
    begun _ _ _

pub go_on-requires : goal.go_on-requires
go_on-requires c =
    next-ready _ _ _ c.requires.0 c.requires.1 c.loop-side.invariant c.loop-side-test.true

pub overflow_add-result : goal.overflow_add-result
overflow_add-result c =
    let k = takes _ _ _ c.requires.0 c.requires.1 c.loop-side.invariant c.loop-side-test.true
    c.go_on.ensures c.in-Ok.is in
    record { fits = omega (arith, k.0, k.1) }

pub returns-in-Ok : goal.returns-in-Ok
returns-in-Ok c =
    (takes _ _ _ c.requires.0 c.requires.1 c.loop-side.invariant c.loop-side-test.true
    c.go_on.ensures c.in-Ok.is).2

pub loop-side-preserved : goal.loop-side-preserved
loop-side-preserved c =
    denies _ _ _ c.requires.0 c.requires.1 c.loop-side.invariant c.loop-side-test.true
    c.go_on.ensures c.in_default.is

pub returns : goal.returns
returns c =
    neither-takes _ _ _ c.requires.0 c.requires.1 c.loop-side.invariant c.loop-side-test.false
