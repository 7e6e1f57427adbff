-- The lines of the threads before this one are written.
use Rattle.text.proofs.Lines.{Sofar}
use Rattle.site_model.specs.Sheet.{thread_line}
use Rattle.site_report.proofs.put_threads.Given as goal

abbrev pub invariant-loop-t : goal.invariant-loop-t
invariant-loop-t l =
    Sofar (thread_line l.state.failed) l.initial.page l.n l.state.done l.page l.t
