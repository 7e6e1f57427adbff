-- After t lines those of the first t threads are written; the loop ends at n, or at 64 where n is more.
use Rattle.ticket_model.specs.Sheet.{thread_line}
use Rattle.text.proofs.Lines.{Sofar}
use Rattle.ticket_report.proofs.put_threads.Given as goal

abbrev pub invariant-loop-t : goal.invariant-loop-t
invariant-loop-t l = Sofar (thread_line l.grant) l.initial.page l.end l.threads l.page l.t
