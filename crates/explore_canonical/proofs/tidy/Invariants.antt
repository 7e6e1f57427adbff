-- Thread by thread, column by column: the state stays.
use Rattle.cells.specs.View.{state_of, Leaves}
use Rattle.explore_canonical.proofs.tidy.Given as goal

abbrev pub invariant-loop-t : goal.invariant-loop-t
invariant-loop-t l = Leaves l.l (state_of l.initial.l)
