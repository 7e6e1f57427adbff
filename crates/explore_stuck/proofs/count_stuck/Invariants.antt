-- The numbers looked at so far (proofs/Blocking).
use Rattle.lock.proofs.Library.{◌≤◌}
use Rattle.std.specs.Prelude.{unwrap_or}
use Rattle.explore_pair.specs.Both.{seen_of}
use Rattle.explore_stuck.specs.Stuck.{StuckAt, Decides}
use Rattle.explore_stuck.proofs.Blocking.{Below}
use Rattle.explore_stuck.proofs.count_stuck.Given as goal

abbrev pub invariant-loop-i : goal.invariant-loop-i
invariant-loop-i l =
    Decides (StuckAt l.z (seen_of l.states)) l.i l.count (unwrap_or l.first l.i) × Below l.first l.i × (l.count ≤ l.i)
