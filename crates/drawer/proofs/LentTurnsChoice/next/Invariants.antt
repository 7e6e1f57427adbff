-- Those that were passed over change nothing.
use Rattle.lock.proofs.Library.{length}
use Rattle.drawer.proofs.Drawing.{Over}
use Rattle.drawer.proofs.LentTurnsChoice.next.Given as goal

abbrev pub invariant-loop-turn : goal.invariant-loop-turn
invariant-loop-turn l =
    Over l.threads l.able l.initial.self.left.now l.self.left.now

abbrev pub decreases-loop-turn : goal.decreases-loop-turn
decreases-loop-turn l =
    length l.self.left.now
