-- The invariant is `Sofar`, with the next row's thread; each way through the body is one of its laws (proofs/Loop).
use Rattle.lock.proofs.Library.{◌<◌, ◌≡◌, get_or, take, drop}
use Rattle.bench.proofs.Loop.{Sofar}
use Rattle.bench.proofs.run_rows.Given as goal

abbrev pub invariant-loop-i : goal.invariant-loop-i
invariant-loop-i l =
    Sofar l.z (take l.rows l.bytes) (drop l.rows l.bytes) l.initial.journal l.journal l.locks l.i × (l.i < l.rows → l.next ≡ get_or l.bytes l.i 0)
