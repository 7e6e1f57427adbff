-- The orders before this one are counted.
use Rattle.lock.proofs.Library.{refl, arith, get_or}
use Rattle.site_model.specs.Tally.{is_call}
use Rattle.site_model.proofs.Counts.{one-le}
use Rattle.site_turn.proofs.Over.{one-is}
use Rattle.site_report.proofs.Sheet.{calls-more}
use Rattle.site_report.proofs.calls_in.Goals as goal

pub loop-own-preserved : goal.loop-own-preserved
loop-own-preserved c =
    let is = one-is c.from-calls.ensures refl in
    let own = get_or c.args.order.now c.loop-own.own-index 0 in (
      omega (arith, is, one-le (is_call own)),
      calls-more _ _ _ _ (omega arith) c.loop-own.invariant.1 is,
    )
