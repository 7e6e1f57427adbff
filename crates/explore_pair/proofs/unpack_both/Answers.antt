-- One lock after the other.
use Rattle.explore_pair.proofs.Pairs.{unpacked-both}
use Rattle.explore_pair.proofs.unpack_both.Goals as goal

pub returns : goal.returns
returns c =
    unpacked-both c.args.ls.now c.args.r.one c.args.r.two c.requires c.unpack.ensures c.unpack-2.ensures
