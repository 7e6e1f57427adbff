-- The invariant is `Sofar`; each way through the body is one of its laws (proofs/Loop).
use Rattle.lock.proofs.Library.{arith}
use Rattle.site_run.proofs.Loop.{begins, ended, turnable, more, stop}
use Rattle.site_run.proofs.run_turns.Goals as goal

pub loop-i-init : goal.loop-i-init
loop-i-init c = begins c.requires

pub at_turn-requires : goal.at_turn-requires
at_turn-requires c = turnable c.requires c.loop-i.invariant c.loop-i-test.true c.measure_if.ensures

pub returns-in-Err : goal.returns-in-Err
returns-in-Err c =
    stop c.requires c.loop-i.invariant c.loop-i-test.true c.measure_if.ensures c.from.ensures
    c.in-Err.ensures c.measure_if-in-Err.ensures

pub loop-i-preserved : goal.loop-i-preserved
loop-i-preserved c =
    more c.requires c.loop-i.invariant c.loop-i-test.true c.measure_if.ensures c.from.ensures c.in_default.ensures

pub returns : goal.returns
returns c = ended c.requires c.loop-i.invariant (omega (arith, c.loop-i-test.false)) c.measure_if-2.ensures
