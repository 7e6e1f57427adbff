-- Column 2, the program counter, is stored to.
use Rattle.lock.proofs.Library.{refl, [], ◌∷◌}
use Rattle.cells.proofs.Threads.{goes-storing}
use Rattle.cells.proofs.goes_to.Goals as goal

pub returns : goal.returns
returns c =
    goes-storing ((2, c.args.pc) ∷ []) refl c.requires.0 c.args.t c.requires.1 refl
