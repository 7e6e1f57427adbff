-- The locking claims at each lock: all that requests Six to Eight claim of a list of rows (`laws` specs/Locking), of
-- the lock's own rows, and of each state of both.
use Rattle.std.specs.Prelude.{ℕ, ◌≢◌, List, take}
use Rattle.lock.specs.declared.Sizes.{Sizes}
use Rattle.lock.specs.Machine.{Row}
use Rattle.lock.specs.File.{InRange}
use Rattle.laws.specs.Exclusion.{Locks}
use Rattle.laws.specs.Departing.{Departs}
use Rattle.laws.specs.Late.{row_at}
use Rattle.laws.specs.Restoring.{Restored, Ends}
use Rattle.laws.specs.Sleeping.{Remembers}
use Rattle.laws.specs.Waiting.{Tallied}
use Rattle.laws.specs.Locking.{Locking}
use Rattle.pair.specs.Pair.{Side, Pair, lock_of, fresh_pair, run}
use Rattle.pair.specs.Apart.{own_rows}

-- of one state of both locks
pub record LocksAt (z : Sizes) (x : Side) (s : Pair) : Type 0 where
  -- exclusion, and what resting states show
  pub locks : Locks (lock_of x s)
  pub departs : Departs (lock_of x s)
  pub ends : Ends z (lock_of x s)
  pub remembers : Remembers (lock_of x s)
  pub tallied : Tallied (lock_of x s)

pub record LockingAt (z : Sizes) (x : Side) (rs : List Row) : Type 0 where
  -- after the first i rows of both locks, for every i
  pub each : (i : ℕ) → LocksAt z x (run z fresh_pair (take i rs)).state
  -- the claims that go by rows, the late arrival among them: of the lock's own rows, which lead it through the same
  -- states (specs/Apart)
  pub own : Locking z (own_rows x rs (run z fresh_pair rs).entries)
  -- Eight, of the rows of both locks as they stand: what a thread does between its upgrade and its downgrade may be at
  -- the other lock too, or a booking
  pub restored : Restored (λ i. lock_of x (run z fresh_pair (take i rs)).state) (row_at z rs)
      (run z fresh_pair rs).taken
  pub unused : (run z fresh_pair rs).answer ≢ 8

abbrev pub LockingOf : Type 0
LockingOf = (z : Sizes) → InRange z → (x : Side) (rs : List Row) → LockingAt z x rs
