-- The lock's own number, at the lock that is meant (proofs/Counted).
use Rattle.pair.specs.Pair.{first, second}
use Rattle.bench.proofs.Counted.{failures-are}
use Rattle.bench.proofs.failures.Goals as goal

pub returns-then-second : goal.returns-then-second
returns-then-second c =
    rw c.if-second.true (failures-are second _ _ _ c.failures_of.ensures)

pub returns : goal.returns
returns c =
    rw c.if-second.false (failures-are first _ _ _ c.failures_of-2.ensures)
