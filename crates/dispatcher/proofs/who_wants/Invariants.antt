-- The threads below t are marked.
use Rattle.dispatch_model.specs.Code.{Marked}
use Rattle.dispatcher.proofs.who_wants.Given as goal

abbrev pub invariant-loop-t : goal.invariant-loop-t
invariant-loop-t l =
    Marked l.t l.set l.heads l.rows
