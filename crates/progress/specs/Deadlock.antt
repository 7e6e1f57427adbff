-- Deadlock: two threads that take the two locks in opposite orders are stuck for good.
use Rattle.std.specs.Prelude.{ℕ, ◌≡◌, List, [], ◌∷◌, ◌++◌}
use Rattle.lock.specs.Journal.{held_up}
use Rattle.lock.specs.declared.Sizes.{Sizes}
use Rattle.lock.specs.Machine.{Row, OutcomeOf, taken, refused}
use Rattle.lock.specs.Examples.{by}
use Rattle.lock.specs.File.{InRange}
use Rattle.pair.specs.Pair.{Side, first, Pair, fresh_pair, Note, turn, run}
use Rattle.progress.specs.LockOrder.{LockOrder}

-- ---- stuck

-- A row is refused, or it is held up and the state is as before. A booking that is taken changes no lock either, but is
-- not held up.
abbrev pub Blocked : Pair → OutcomeOf Pair Note → Type 0
Blocked s (taken s' m) = (s' ≡ s) × (m.entry ≡ held_up)
Blocked s (refused n) = Unit {0}

-- no row, of whatever thread and with whatever order, changes anything
abbrev pub Stuck : Sizes → Pair → Type 0
Stuck z s = (r : Row) → Blocked s (turn z s r)

pub record StuckStates (z : Sizes) : Type 0 where
  -- a stuck state stays, whatever rows follow
  pub for_good : (s : Pair) → Stuck z s → (rs : List Row) → (run z s rs).state ≡ s
  -- rows in lock order lead to no such state
  pub not_in_order : InRange z → (x : Side) (rs : List Row) → LockOrder z x rs → Stuck z (run z fresh_pair rs).state → ⊥

-- ---- the example

-- two threads, one node, and a till of E items
abbrev pub two_threads : ℕ → Sizes
two_threads E = record { nodes = 1; fan = 1; threads = 2; items = E }

-- Thread 0 writes the first lock and thread 1 the second. Thread 0 asks for the second, and sleeps.
abbrev pub in_order : List Row
in_order = by 0 (1 ∷ 0 ∷ 0 ∷ []) ++ by 1 (129 ∷ 0 ∷ 0 ∷ []) ++ by 0 (129 ∷ 0 ∷ 0 ∷ 0 ∷ 0 ∷ 0 ∷ [])

-- then thread 1 asks for the first, and sleeps
abbrev pub crossed : List Row
crossed = in_order ++ by 1 (1 ∷ 0 ∷ 0 ∷ 0 ∷ 0 ∷ 0 ∷ [])

pub record Crossed (E : ℕ) : Type 0 where
  -- so far the first lock is taken first
  pub ordered : LockOrder (two_threads E) first in_order
  -- with the last six rows neither is
  pub unordered : (x : Side) → LockOrder (two_threads E) x crossed → ⊥
  pub answer : (run (two_threads E) fresh_pair crossed).answer ≡ 0
  pub stuck : Stuck (two_threads E) (run (two_threads E) fresh_pair crossed).state
