-- The threads below u are done; each way through the body is one law of proofs/Over.
use Rattle.lock.proofs.Library.{◌<◌, arith}
use Rattle.site_turn.proofs.Over.{none_yet, next-finishable, one_more}
use Rattle.site_turn.proofs.SiteState.finish_all.Goals as goal

pub loop-u-init : goal.loop-u-init
loop-u-init c = none_yet _ _ c.requires.1.waiting

pub finish-requires : goal.finish-requires
finish-requires c =
    let near : _ < 64 = omega (arith, c.loop-u-test.true, c.requires.0) in
    (near, next-finishable _ _ _ c.loop-u.invariant near c.requires.1)

pub loop-u-preserved : goal.loop-u-preserved
loop-u-preserved c = one_more _ _ _ c.loop-u.invariant c.finish.ensures
