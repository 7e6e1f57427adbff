-- Columns 2 and 4, program counter and route, are stored to.
use Rattle.lock.proofs.Library.{refl, [], ◌∷◌}
use Rattle.cells.proofs.Threads.{goes-storing}
use Rattle.cells.proofs.goes_by.Goals as goal

pub returns : goal.returns
returns c =
    goes-storing ((2, c.args.pc) ∷ (4, c.args.n) ∷ []) refl c.requires.0 c.args.t c.requires.1 refl
