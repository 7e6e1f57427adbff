-- The orders tried so far: none changed anything (proofs/Blocking).
use Rattle.turn.specs.Turn.{pair_in}
use Rattle.explore_subject.proofs.Growing.{Upto, row_of}
use Rattle.explore_pair.specs.Both.{order_in}
use Rattle.explore_stuck.specs.Stuck.{Stays}
use Rattle.explore_stuck.proofs.stays.Given as goal

abbrev pub invariant-loop-k : goal.invariant-loop-k
invariant-loop-k l = Stays l.z (Upto (row_of (order_in l.z) l.t) l.k) (pair_in l.initial.ls) l.ls
