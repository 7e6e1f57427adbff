-- The invariant is `Sofar`, and each way through the body is one of its laws (proofs/Going).
use Rattle.turn.proofs.Going.{Sofar}
use Rattle.turn.proofs.goes_on.Given as goal

abbrev pub invariant-loop-side : goal.invariant-loop-side
invariant-loop-side l =
    Sofar l.z l.t l.initial.locks l.locks l.side l.add
