-- Columns 2 and 6, program counter and word seen, are stored to.
use Rattle.lock.proofs.Library.{refl, [], ◌∷◌}
use Rattle.cells.proofs.Threads.{goes-storing}
use Rattle.cells.proofs.goes_with.Goals as goal

pub returns : goal.returns
returns c =
    goes-storing ((2, c.args.pc) ∷ (6, c.args.v) ∷ []) refl c.requires.0 c.args.t c.requires.1 refl
