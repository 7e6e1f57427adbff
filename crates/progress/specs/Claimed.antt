-- All that is claimed of rows of two locks, put together: what whoever runs them promises.
use Rattle.std.specs.Prelude.{ℕ, List, take}
use Rattle.lock.specs.declared.Entry.{Entry}
use Rattle.lock.specs.declared.Sizes.{Sizes}
use Rattle.lock.specs.Machine.{Row}
use Rattle.pair.specs.Pair.{Side, Pair, fresh_pair, run}
use Rattle.pair.specs.Apart.{Apart}
use Rattle.pair.specs.Calls.{OneCall}
use Rattle.pair.specs.Demand.{CountedAt}
use Rattle.pair.specs.Locking.{LocksAt, LockingAt}
use Rattle.progress.specs.Progress.{ProgressAt}
use Rattle.progress.specs.LockOrder.{Ordered}

-- Of the rows rs from two fresh locks, after each of them, at each lock.
pub record RowsClaimed (z : Sizes) (rs : List Row) : Type 0 where
  -- document 02, Five to Eight
  pub locking : (x : Side) → LockingAt z x rs
  -- neither lock taken alone ever gets stuck, and both do not where threads take them in one order
  pub progress : (x : Side) → ProgressAt z x rs
  pub ordered : (x : Side) → Ordered z x rs
  -- Ten: each lock's rows are apart from the other's, and a thread is in one call at a time
  pub apart : (x : Side) → Apart z x rs (run z fresh_pair rs)
  pub one_call : (i : ℕ) → OneCall (run z fresh_pair (take i rs)).state

-- Of the state s that the rows rs, all taken, left, with the journal entries es: the one that a sheet prints, and that
-- a run leaves in the caller's locks.
pub record StateClaimed (z : Sizes) (rs : List Row) (es : List Entry) (s : Pair) : Type 0 where
  -- demand 3 at each lock
  pub counted : (x : Side) → CountedAt z x rs es s
  -- document 02, Five and Six: nobody holds a lock beside a writer, and it does not show free where it is held; the
  -- stored number is the number of writers queued
  pub locks : (x : Side) → LocksAt z x s
  -- Ten: a thread is in one call at a time
  pub one_call : OneCall s
