-- Columns 2, 3 and 5, program counter, node and node below, are stored to.
use Rattle.lock.proofs.Library.{refl, [], ◌∷◌}
use Rattle.cells.proofs.Threads.{goes-storing}
use Rattle.cells.proofs.goes_under.Goals as goal

pub returns : goal.returns
returns c =
    goes-storing ((2, c.args.pc) ∷ (3, c.args.c) ∷ (5, c.args.b) ∷ []) refl c.requires.0 c.args.t
    c.requires.1 refl
