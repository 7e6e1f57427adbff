-- A record whose bytes were read stands there. A piece that is held and full adds 4,096 rows, of which there are not
-- more than `most_steps`.
use Rattle.lock.proofs.Library.{◌-◌}
use Rattle.lock.specs.Bound.{most_steps}
use Rattle.record_hold.specs.Holds.{StandsSomewhere}
use Rattle.record.proofs.hold_rest.Given as goal

abbrev pub invariant-loop-next : goal.invariant-loop-next
invariant-loop-next g l = StandsSomewhere l.z l.held l.locks

abbrev pub decreases-loop-next : goal.decreases-loop-next
decreases-loop-next g l = most_steps - l.held
