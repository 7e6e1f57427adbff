-- The numbers of a fresh thread are 0, and so are those of the array before they are stored (proofs/Begin).
use Rattle.lock.proofs.Library.{◌≡◌}
use Rattle.cells.specs.View.{fresh_cells}
use Rattle.cells.proofs.fresh.Given as goal

abbrev pub invariant-loop-t : goal.invariant-loop-t
invariant-loop-t l =
    l.l ≡ fresh_cells
