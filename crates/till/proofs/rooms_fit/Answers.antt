-- The items are looked at one by one (proofs/Checks `Looked`).
use Rattle.till.proofs.Checks.{looked-none, looked-more}
use Rattle.till.proofs.rooms_fit.Goals as goal

pub loop-e-init : goal.loop-e-init
loop-e-init c =
    looked-none _ _ _ c.items_of-items.ensures.0

pub loop-e-preserved : goal.loop-e-preserved
loop-e-preserved c =
    looked-more c.loop-e.invariant c.loop-e-test.true c.byte_at.ensures.0 c.if-rooms-byte_at.false
