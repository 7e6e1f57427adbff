-- "Demand 3 and the locking claims read per lock, a thread's failures at a lock being its entries of kind 3 on that
-- lock's words."
use Rattle.std.specs.Prelude.{ℕ, zero, suc, ◌+◌, ◌≤◌, ◌<◌, ◌≡◌, Bool, not, ◌&&◌, List, ltb, take}
use Rattle.lock.specs.declared.Entry.{Entry}
use Rattle.lock.specs.declared.Sizes.{Sizes}
use Rattle.lock.specs.Machine.{Row}
use Rattle.lock.specs.State.{thread_at}
use Rattle.lock.specs.File.{InRange}
use Rattle.lock.specs.Demand.{tally, is_failure, is_by, failed_swap, others_change, failure}
use Rattle.pair.specs.Pair.{Side, first, second, Pair, lock_of, fresh_pair, run, base, journal}

-- is a journal entry on a word of the lock x?
abbrev pub is_at : Side → Entry → Bool
is_at first e = ltb e.word 64
is_at second e = not (ltb e.word 64)

-- an entry of kind 3 at the lock x where the row's thread is t, and where it is whoever's; a row at the lock of another
-- thread than t
abbrev pub failure_at : Side → ℕ → Row → Entry → Bool
failure_at x t r e = failure t r e && is_at x e

abbrev pub any_failure_at : Side → Row → Entry → Bool
any_failure_at x r e = is_failure e && is_at x e

abbrev pub others_at : Side → ℕ → Row → Entry → Bool
others_at x t r e = not (is_by t r) && is_at x e

-- the others' changes of the first n words of the lock x, summed
abbrev pub others_changes : Side → ℕ → ℕ → List Row → List Entry → ℕ
others_changes x t zero rs es = 0
others_changes x t (suc n) rs es = others_changes x t n rs es + tally (others_change t (n + base x)) rs es

-- Demand 3 at the lock x, of rows of both locks that were taken, their journal entries and the state after them.
pub record CountedAt (z : Sizes) (x : Side) (rs : List Row) (es : List Entry) (s : Pair) : Type 0 where
  -- "the first number is at most the second, for each t below T and each w that is the root or a node"
  pub bounded : (t w : ℕ) → t < z.threads
      → w < z.nodes → tally (failed_swap t (w + base x)) rs es ≤ tally (others_change t (w + base x)) rs es
  -- "t's failures in the state, which the sheet prints", at each lock
  pub printed : (t : ℕ) → t < z.threads → (thread_at (lock_of x s) t).failures ≡ tally (failure_at x t) rs es
  -- so a thread's failures at the lock are at most the others' changes, summed over the lock's words
  pub summed : (t : ℕ) → t < z.threads → tally (failure_at x t) rs es ≤ others_changes x t z.nodes rs es
  -- if all rows at the lock are one thread's, none of their entries is of kind 3
  pub alone : (t : ℕ) → tally (others_at x t) rs es ≡ 0 → tally (any_failure_at x) rs es ≡ 0

-- "After the first i rows taken, for every i from 0 to all of them", of one list of rows, over the one journal
abbrev pub CountedOf : Sizes → Side → List Row → Type 0
CountedOf z x rs =
    (i : ℕ) → i ≤ (run z fresh_pair rs).taken
    → CountedAt z x (take i rs)
    (take i (journal (run z fresh_pair rs).entries)) (run z fresh_pair (take i rs)).state

abbrev pub Demand3 : Type 0
Demand3 = (z : Sizes) → InRange z → (x : Side) (rs : List Row) → CountedOf z x rs
