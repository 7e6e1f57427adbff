-- Place by place (proofs/Ring `Turning`).
use Rattle.explore_canonical.proofs.Ring.{turning-more, turned}
use Rattle.explore_canonical.proofs.straighten.Goals as goal

pub loop-k-preserved : goal.loop-k-preserved
loop-k-preserved c =
    turning-more c.next_place-at.result c.ring_at.result c.loop-k.invariant c.loop-k-test.true c.ring_at.ensures c.next_place-at.ensures.0 c.next_place-at.ensures.1

pub returns : goal.returns
returns c =
    turned c.requires c.loop-k.invariant c.loop-k-test.false
