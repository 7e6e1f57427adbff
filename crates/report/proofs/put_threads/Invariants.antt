-- After t lines those of the first t threads are written; the loop ends at n, or at 64 where n is more.
use Rattle.lock.specs.Sheet.{thread_line}
use Rattle.cells.specs.View.{state_of}
use Rattle.text.proofs.Lines.{Sofar}
use Rattle.report.proofs.put_threads.Given as goal

abbrev pub invariant-loop-t : goal.invariant-loop-t
invariant-loop-t l = Sofar thread_line l.initial.own l.end (state_of l.l).threads l.own l.t
