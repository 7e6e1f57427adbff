-- A store of one more than the group's size.
use Rattle.lock.specs.Call.{op}
use Rattle.convert.proofs.downgrade_store.Goals as goal

pub returns : goal.returns
unfolding op
returns c =
    rw c.group_size-n.ensures.0 at c.stores.ensures
