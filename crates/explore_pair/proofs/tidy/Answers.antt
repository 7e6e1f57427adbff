-- One lock after the other (proofs/Pairs `tidied-both`).
use Rattle.lock.proofs.Library.{sym, subst}
use Rattle.pair.specs.Pair.{first, second}
use Rattle.cells.specs.View.{Shaped}
use Rattle.turn.proofs.Both.{stored}
use Rattle.explore_pair.proofs.tidy.Goals as goal

pub normal-requires : goal.normal-requires
normal-requires c =
    (c.requires.1 first, c.requires.2)

pub normal-requires-2 : goal.normal-requires-2
normal-requires-2 c =
    let e = (stored first c.args.ls.now c.normal.new.l c.requires.0).rest in
    (subst Shaped (sym e) (c.requires.1 second), c.requires.2)
