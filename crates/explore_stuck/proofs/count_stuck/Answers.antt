-- The numbers looked at so far (proofs/Blocking).
use Rattle.lock.proofs.Library.{arith}
use Rattle.explore_stuck.proofs.Blocking.{decides-none, decides-stuck, decides-free}
use Rattle.explore_stuck.proofs.count_stuck.Goals as goal
use Rattle.explore_stuck.proofs.count_stuck.Goals.{then-stuck_at, else-stuck_at}

pub loop-i-init : goal.loop-i-init
loop-i-init c = (decides-none, tt, omega arith)

pub loop-i-preserved : goal.loop-i-preserved
loop-i-preserved c =
    let v = c.loop-i.invariant in
    elim c.if-stuck_at.branch [
      | then-stuck_at w ↦ rw (w.count-is, w.first-is, w.unwrap_or.ensures)
          (decides-stuck v.0 (c.stuck_at.ensures.yes w.if-stuck_at.true), omega (arith, v.0.within), omega (arith, v.2))
      | else-stuck_at w ↦ (
          let d = decides-free c.loop-i.first v.1 v.0 (c.stuck_at.ensures.no w.if-stuck_at.false) in
          rw (w.count-is, w.first-is) (d.0, d.1, omega (arith, v.2)))
    ]
