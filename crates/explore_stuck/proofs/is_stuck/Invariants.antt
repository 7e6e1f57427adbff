-- The threads tried so far: no row of theirs changed anything (proofs/Blocking).
use Rattle.turn.specs.Turn.{pair_in}
use Rattle.explore_subject.proofs.Growing.{Threads}
use Rattle.explore_pair.specs.Both.{order_in, orders_of}
use Rattle.explore_stuck.specs.Stuck.{Stays}
use Rattle.explore_stuck.proofs.is_stuck.Given as goal

abbrev pub invariant-loop-t : goal.invariant-loop-t
invariant-loop-t l = Stays l.z (Threads (order_in l.z) (orders_of l.z) l.t) (pair_in l.initial.ls) l.ls
