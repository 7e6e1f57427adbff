-- By the program counter (proofs/Which `busy-is`).
use Rattle.turn.proofs.Which.{busy-is}
use Rattle.turn.proofs.is_busy.Goals as goal

pub returns : goal.returns
returns c =
    busy-is c.args.l.now c.args.t c.requires
