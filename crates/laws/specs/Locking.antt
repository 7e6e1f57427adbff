-- Document 02, Six: "Say that the lock locks. Prove it for all runs from a fresh lock." All of it, and what Eight adds,
-- of one list of rows: of the state after the first i rows for every i, and of every row taken.
use Rattle.std.specs.Prelude.{ℕ, ◌≢◌, List}
use Rattle.lock.specs.declared.Sizes.{Sizes}
use Rattle.lock.specs.State.{fresh}
use Rattle.lock.specs.Run.{Row, run}
use Rattle.laws.specs.Exclusion.{Locks}
use Rattle.laws.specs.Departing.{Departs}
use Rattle.laws.specs.Late.{state_at, row_at, InTime}
use Rattle.laws.specs.Success.{Arrives, WokenWithout, AtMostOnce}
use Rattle.laws.specs.Holding.{HoldsOn}
use Rattle.laws.specs.Restoring.{Restored, Ends}
use Rattle.laws.specs.Sleeping.{Remembers}

pub record Locking (z : Sizes) (rs : List Row) : Type 0 where
  -- "No state has a writing thread and any other holder", and what states show where every thread is idle, holding or
  -- asleep
  pub locks : (i : ℕ) → Locks (state_at z rs i)
  -- and who holds, holds until it unlocks
  pub holds_on : HoldsOn z rs
  -- "A read-lock that succeeds by the tree either succeeds while the root is open, or …", and which read-locks succeed
  -- so
  pub in_time : InTime z rs
  pub arrives : Arrives z rs
  pub woken : WokenWithout z rs
  pub once : AtMostOnce z rs
  -- "Refusal 8 then never occurs and leaves the table, its number unused": what it stood for does not happen
  pub departs : (i : ℕ) → Departs (state_at z rs i)
  pub unused : (run z fresh rs).answer ≢ 8
  -- Eight: "the root word after both is the one that swap found", and the downgrade does come to its end
  pub restored : Restored (state_at z rs) (row_at z rs) (run z fresh rs).taken
  pub ends : (i : ℕ) → Ends z (state_at z rs i)
  -- no sleeper is forgotten
  pub remembers : (i : ℕ) → Remembers (state_at z rs i)
