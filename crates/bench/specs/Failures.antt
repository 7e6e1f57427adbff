-- A thread's failures as a number: "equal to the kind 3 entries that the step definition gives for that thread, and
-- bounded" (document 01, "Forms to use in the code").
use Rattle.std.specs.Prelude.{ℕ, ◌≤◌, ◌<◌, ◌≡◌, Bool, true, false, List, length, take}
use Rattle.lock.specs.declared.Entry.{Entry}
use Rattle.lock.specs.declared.Ran.{Ran}
use Rattle.lock.specs.Refusal.{answer_number}
use Rattle.lock.specs.Machine.{Row}
use Rattle.lock.specs.State.{thread_at}
use Rattle.lock.specs.Demand.{tally}
use Rattle.lock.specs.File.{sizes_of, row_count, rows_of, stateless}
use Rattle.lock.specs.Journal.{entries_in}
use Rattle.pair.specs.Pair.{Side, first, second, lock_of}
use Rattle.pair.specs.Demand.{failure_at, others_changes}
use Rattle.turn.specs.Turn.{pair_in}
use Rattle.bench.specs.Bench.{BenchesWith}

abbrev pub side_if : Bool → Side
side_if false = first
side_if true = second

-- n is the number of thread t's failures at the lock x, of a run that took the rows rs, N nodes wide, with the entries
-- es
pub record Bounded (x : Side) (t N : ℕ) (rs : List Row) (es : List Entry) (n : ℕ) : Type 0 where
  -- the thread's entries of kind 3 at that lock
  pub counted : n ≡ tally (failure_at x t) rs es
  -- at most the rows taken, and at most the others' changes, summed over the lock's words
  pub few : n ≤ length rs
  pub summed : n ≤ others_changes x t N rs es

-- n is thread t's number in the locks ls, which the sheet prints; where a run left them, it is that of the entries of
-- the caller's journal j.
pub record FailuresOf (x : Side) (t : ℕ) (ls : List (List ℕ)) (n : ℕ) : Type 0 where
  pub printed : n ≡ (thread_at (lock_of x (pair_in ls)) t).failures
  pub left : (E : ℕ) (b j₀ j : List ℕ) (ls₀ : List (List ℕ)) (r : Ran) → BenchesWith E b j₀ j ls₀ ls r
      → stateless (answer_number r.answer) ≡ false → t < (sizes_of b).threads
      → Bounded x t (sizes_of b).nodes (take r.taken (rows_of b)) (entries_in (row_count b) r.taken j) n
