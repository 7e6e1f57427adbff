-- The orders tried so far: none changed anything (proofs/Blocking).
use Rattle.lock.proofs.Library.{ℕ, ap}
use Rattle.explore_subject.proofs.Growing.{upto-more}
use Rattle.explore_stuck.proofs.Blocking.{held, stays-more}
use Rattle.explore_stuck.proofs.stays.Goals as goal
use Rattle.explore_stuck.proofs.stays.Goals.{in-Ok+else-entry-ne-HELD_UP, in_default}

pub loop-k-preserved : goal.loop-k-preserved
loop-k-preserved c =
    stays-more c.loop-k.invariant c.row.ensures (elim c.match-row.branch [
      | in-Ok+else-entry-ne-HELD_UP w ↦ held w.in-Ok.is w.if-entry-ne-HELD_UP.false
      | in_default w ↦ λ e q. absurd (w.in_default.not-Ok e q)
    ]) (upto-more (ap (λ (o : ℕ). record { thread = c.args.t; order = o }) c.order_in.ensures))
