-- The invariant is `Sofar`; each way through the body is one of its laws (proofs/Loop).
use Rattle.site_run.proofs.Loop.{Sofar}
use Rattle.site_run.proofs.run_turns.Given as goal

abbrev pub invariant-loop-i : goal.invariant-loop-i
invariant-loop-i l = Sofar l.plan l.turns l.state l.i
