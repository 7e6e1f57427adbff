-- The invariant is `Sofar`, and each way through the body is one of its laws (proofs/Loop).
use Rattle.plain_engine.proofs.Loop.{Sofar}
use Rattle.plain_engine.proofs.run_calls.Given as goal

abbrev pub invariant-loop-i : goal.invariant-loop-i
invariant-loop-i l =
    Sofar l.z l.threads l.orders l.l l.i
