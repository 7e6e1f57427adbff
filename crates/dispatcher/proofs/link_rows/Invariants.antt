-- The rows from i on are linked.
use Rattle.dispatch_model.specs.Code.{Linked}
use Rattle.dispatcher.proofs.link_rows.Given as goal

abbrev pub invariant-loop-i : goal.invariant-loop-i
invariant-loop-i l =
    Linked l.threads l.heads l.later l.i
