-- The invariant is `Sofar`, and each way through the body is one of its laws (proofs/Going).
use Rattle.settling.proofs.Going.{Sofar}
use Rattle.settling.proofs.settle.Given as goal

abbrev pub invariant-loop-i : goal.invariant-loop-i
invariant-loop-i l =
    Sofar l.till l.orders l.taken l.initial.journal l.journal l.ledger l.i
