-- The writer is read from the ring before it leaves.
use Rattle.rows.proofs.Rows.{front-lt}
use Rattle.rows.proofs.longest_taken.Goals as goal

pub bit-requires : goal.bit-requires
bit-requires c =
    front-lt c.args.l.now c.requires.0
