-- The invariant is `Waking`; the rest of the group is the measure, since a bit goes at each look.
use Rattle.waking.proofs.Waking.{Waking}
use Rattle.waking.proofs.wake_all.Given as goal

abbrev pub invariant-loop-rest : goal.invariant-loop-rest
invariant-loop-rest l =
    Waking l.pc l.initial.l l.l l.initial.rest l.rest l.looks

abbrev pub decreases-loop-rest : goal.decreases-loop-rest
decreases-loop-rest l =
    l.rest
