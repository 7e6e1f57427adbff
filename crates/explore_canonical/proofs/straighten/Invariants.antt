-- Place by place (proofs/Ring `Turning`).
use Rattle.explore_canonical.proofs.Ring.{Turning}
use Rattle.explore_canonical.proofs.straighten.Given as goal

abbrev pub invariant-loop-k : goal.invariant-loop-k
invariant-loop-k l = Turning l.old l.l l.at l.k
