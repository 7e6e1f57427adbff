-- A call by its order, in the lock in place.
use Rattle.std.specs.Prelude.{ℕ, ◌<◌, ◌≡◌, List, length}
use Rattle.std.proofs.Math.Option.{Option}
use Rattle.lock.specs.declared.Sizes.{Sizes}
use Rattle.lock.specs.Phase.{standing}
use Rattle.lock.specs.Call.{Order}
use Rattle.lock.specs.Machine.{Row, state_after, answer_of, RefusedAsRow}
use Rattle.lock.specs.File.{InRange}
use Rattle.cells.specs.View.{phase_at, state_of}
use Rattle.plain_model.specs.Plain.{plain_fresh, PlainOutcome, ordered, plain_step, plain_run}
use Rattle.plain_calls.specs.View.{plain_of, Stands}

-- calls, all taken, have led from the fresh lock to this one
pub record Reached (z : Sizes) (l : List ℕ) : Type 0 where
  pub range : InRange z
  pub rows : List Row
  pub all : (plain_run z plain_fresh rows).taken ≡ length rows
  pub stands : Stands l (plain_run z plain_fresh rows).state

-- a call came to c: the lock l became l', and n is its answer
pub record Comes (l l' : List ℕ) (n : ℕ) (c : PlainOutcome) : Type 0 where
  pub left : Stands l' (state_after (plain_of (state_of l)) c)
  pub is : n ≡ answer_of c
  pub fair : RefusedAsRow c

-- the call of a row was made
pub record Calls (z : Sizes) (r : Row) (l l' : List ℕ) (n : ℕ) : Type 0 where
  pub comes : Comes l l' n (plain_step z (plain_of (state_of l)) r)
  pub keeps : Reached z l → Reached z l'

-- thread t obeyed an order
abbrev pub Obeys : ℕ → Option Order → List ℕ → List ℕ → ℕ → Type 0
Obeys t o l l' n = Comes l l' n (ordered (plain_of (state_of l)) t (standing (phase_at l t)) o)

-- thread t is there
pub record Ready (z : Sizes) (l : List ℕ) (t : ℕ) : Type 0 where
  pub reached : Reached z l
  pub mine : t < z.threads
