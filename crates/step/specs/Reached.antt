-- Locks that rows have led to from the fresh lock: what a row may take for granted, and what every row keeps.
use Rattle.std.specs.Prelude.{ℕ, suc, ◌≤◌, ◌<◌, ◌≡◌, List, length, Result}
use Rattle.std.proofs.Math.Option.{Option}
use Rattle.lock.specs.Bound.{most_steps}
use Rattle.lock.specs.declared.Sizes.{Sizes}
use Rattle.lock.specs.declared.Entry.{Entry}
use Rattle.lock.specs.declared.Refusal.{Refusal}
use Rattle.lock.specs.Call.{Order, obey}
use Rattle.lock.specs.State.{fresh, perform}
use Rattle.lock.specs.Run.{Row, step, run}
use Rattle.lock.specs.File.{InRange}
use Rattle.cells.specs.View.{phase_at, state_of, Shaped, fresh_cells}
use Rattle.rows.specs.Outcome.{Comes}

-- at most n rows, all taken, have led from the fresh lock to this one
pub record Reached (z : Sizes) (n : ℕ) (l : List ℕ) : Type 0 where
  pub shaped : Shaped l
  pub range : InRange z
  pub rows : List Row
  pub few : length rows ≤ n
  pub all : (run z fresh rows).taken ≡ length rows
  pub there : (run z fresh rows).state ≡ state_of l

-- the fresh lock: no row has been made
pub record Begun (l : List ℕ) : Type 0 where
  pub cells : l ≡ fresh_cells
  pub state : state_of l ≡ fresh
  pub reached : (z : Sizes) → InRange z → Reached z 0 l

-- the row r was made
pub record Steps (z : Sizes) (r : Row) (l l' : List ℕ) (m : Result Entry Refusal) : Type 0 where
  pub comes : Comes l l' m (step z (state_of l) r)
  pub keeps : (n : ℕ) → Reached z n l → Reached z (suc n) l'

-- ---- within a step

-- thread t is there
pub record Ready (z : Sizes) (l : List ℕ) (t : ℕ) : Type 0 where
  pub reached : Reached z most_steps l
  pub mine : t < z.threads

-- thread t obeyed an order
abbrev pub Obeys : Sizes → ℕ → Option Order → List ℕ → List ℕ → Result Entry Refusal → Type 0
Obeys z t o l l' m = Comes l l' m (perform z (state_of l) t (obey z.fan (phase_at l t) o))

-- the order o is above 2 and names no node
pub record Later (o : ℕ) : Type 0 where
  pub past : 2 < o
  pub nodeless : 64 ≤ o → 95 < o
