-- One row of two locks in place.
use Rattle.std.specs.Prelude.{ℕ, suc, ◌≡◌, List, [], eqb, length, get_or, Result}
use Rattle.std.specs.Prelude.{if◌then◌else◌}
use Rattle.lock.specs.declared.Sizes.{Sizes}
use Rattle.lock.specs.declared.Entry.{Entry}
use Rattle.lock.specs.declared.Refusal.{Refusal}
use Rattle.lock.specs.Machine.{Row}
use Rattle.lock.specs.State.{State}
use Rattle.lock.specs.Run.{row_refusal}
use Rattle.cells.specs.View.{state_of}
use Rattle.step.specs.Reached.{Reached, Begun}
use Rattle.journal.specs.Came.{Came}
use Rattle.pair.specs.Pair.{Side, first, second, Pair, written, turn_at, turn}
use Rattle.pair.specs.Calls.{OneCall}

-- ---- the two locks: a list of two lists of numbers

abbrev pub place_of : Side → ℕ
place_of first = 0
place_of second = 1

-- the numbers of the lock x
abbrev pub cells_of : Side → List (List ℕ) → List ℕ
cells_of x ls = get_or ls (place_of x) []

abbrev pub pair_in : List (List ℕ) → Pair
pair_in ls = record { one = state_of (get_or ls 0 []); two = state_of (get_or ls 1 []) }

-- both are fresh
pub record Begins (ls : List (List ℕ)) : Type 0 where
  pub long : length ls ≡ 2
  pub each : (x : Side) → Begun (cells_of x ls)

-- at most n rows have led to either, and each thread is in one call at a time
pub record Place (z : Sizes) (ls : List (List ℕ)) (n : ℕ) : Type 0 where
  pub long : length ls ≡ 2
  pub reached : (x : Side) → Reached z n (cells_of x ls)
  pub calls : OneCall (pair_in ls)

-- ---- the refusal of a new call, of a thread that is in a call of the other lock or asleep there: 7, after 5 and 6
abbrev pub refused_new : Sizes → Row → ℕ
refused_new z r = if eqb (row_refusal z r) 0 then 7 else row_refusal z r

-- ---- the row

-- the lock x, and the other one
abbrev pub sided : Side → State → State → Pair
sided first l m = record { one = l; two = m }
sided second l m = record { one = m; two = l }

-- the row r was made at the lock x
pub record Turns (z : Sizes) (x : Side) (r : Row) (l m l' : List ℕ) (w : Result Entry Refusal) : Type 0 where
  pub comes : Came written (sided x (state_of l) (state_of m))
      (sided x (state_of l') (state_of m)) w (turn_at z (sided x (state_of l) (state_of m)) x r)
  pub keeps : (n : ℕ) → Reached z n l → Reached z (suc n) l'

-- The row r was made on the locks ls, which are ls' now: the turn of the definitions came about. At most one row more
-- has led to either lock.
pub record Turned (z : Sizes) (r : Row) (ls ls' : List (List ℕ)) (w : Result Entry Refusal) : Type 0 where
  pub comes : Came written (pair_in ls) (pair_in ls') w (turn z (pair_in ls) r)
  pub keeps : (n : ℕ) → Place z ls n → Place z ls' (suc n)
