-- The invariant is `Sofar`, and each way through the body is one of its laws (proofs/Loop).
use Rattle.lock.proofs.Library.{refl}
use Rattle.std.specs.Prelude.{Ok, Err}
use Rattle.file.proofs.Checks.{not-zero}
use Rattle.plain_engine.proofs.Loop.{begun, stop, more, finish}
use Rattle.plain_engine.proofs.run_calls.Goals as goal

pub loop-i-init : goal.loop-i-init
loop-i-init c =
    begun _ _ _ _ c.requires.range c.fresh.ensures

pub returns-in-Err : goal.returns-in-Err
returns-in-Err c =
    rw c.after.ensures
    (stop c.loop-i.invariant c.requires c.loop-i-test.true (Err c.in-Err.refusal)
    (rw (c.in-Err.is, c.from.ensures) at c.call.ensures) (not-zero _))

pub loop-i-preserved : goal.loop-i-preserved
loop-i-preserved c =
    more c.loop-i.invariant c.requires c.loop-i-test.true (Ok tt)
    (rw (c.in_default.is, c.from.ensures) at c.call.ensures) refl

pub returns : goal.returns
returns c =
    rw c.after-2.ensures (finish c.loop-i.invariant c.loop-i-test.false)
