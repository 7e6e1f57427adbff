-- Columns 2 and 3, program counter and node, are stored to.
use Rattle.lock.proofs.Library.{refl, [], ◌∷◌}
use Rattle.cells.proofs.Threads.{goes-storing}
use Rattle.cells.proofs.goes_at.Goals as goal

pub returns : goal.returns
returns c =
    goes-storing ((2, c.args.pc) ∷ (3, c.args.c) ∷ []) refl c.requires.0 c.args.t c.requires.1 refl
