-- The threads below t are marked.
use Rattle.dispatch_model.proofs.Sets.{marked_more}
use Rattle.dispatcher.proofs.who_wants.Goals as goal

pub loop-t-preserved : goal.loop-t-preserved
loop-t-preserved c =
    let l = c.loop-t in
    rw (c.replace-set.ensures, c.bit.ensures, c.only_if-own.ensures, c.from.ensures) (marked_more l.t l.set _ _ l.invariant)
