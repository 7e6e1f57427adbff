-- A word is stored to (proofs/Stores).
use Rattle.cells.proofs.Stores.{word-put}
use Rattle.cells.proofs.write_word.Goals as goal

pub returns : goal.returns
returns c =
    word-put c.args.w c.args.l.now c.args.v c.requires.0 c.requires.1
