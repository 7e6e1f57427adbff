-- The count of ones is the set's size, and 64 bits have at most 64.
use Rattle.lock.proofs.Library.{refl}
use Rattle.lock.specs.Queue.{size}
use lib.Count.{ones-le}
use Rattle.rows.proofs.group_size.Goals as goal

pub returns : goal.returns
returns c =
    unfold size in (refl, ones-le 64 c.args.b c.ranges.b.fits)
