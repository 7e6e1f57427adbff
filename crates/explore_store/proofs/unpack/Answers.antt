-- The lock, then pair after pair: each call leaves 512 numbers.
use Rattle.explore_store.proofs.Store.{unpacked}
use Rattle.explore_store.proofs.unpack.Goals as goal

pub returns : goal.returns
returns c =
    unpacked _ c.put_lock.ensures c.put_pair.ensures c.put_pair-2.ensures
    c.put_pair-3.ensures c.put_pair-4.ensures
