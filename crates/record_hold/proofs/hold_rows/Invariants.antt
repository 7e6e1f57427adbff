-- The invariant is `Sofar`; each way through the body is one of its laws (proofs/Loop).
use Rattle.lock.proofs.Library.{length, ◌/◌}
use Rattle.record_hold.proofs.Loop.{Sofar}
use Rattle.record_hold.proofs.hold_rows.Given as goal

abbrev pub invariant-loop-i : goal.invariant-loop-i
invariant-loop-i l =
    Sofar l.z l.piece (length l.piece / 8) l.before l.initial.locks l.locks l.i
