-- Each way out is one law of proofs/Over.
use Rattle.site_turn.proofs.Over.{inside-ends, over-ends}
use Rattle.site_turn.proofs.SiteState.finish.Goals as goal

pub returns-then-pc-ge-LOOK : goal.returns-then-pc-ge-LOOK
returns-then-pc-ge-LOOK c =
    inside-ends _ _ c.args.u c.requires.1.waiting c.requires.0 c.if-pc-ge-LOOK.true

pub returns : goal.returns
returns c =
    over-ends _ _ c.args.u c.requires.1.waiting c.requires.0 c.if-order-eq0.false c.if-pc-ge-LOOK.false
    c.pause_at.ensures c.call_over.ensures c.set_order.ensures.is c.set_order.ensures.waiting
