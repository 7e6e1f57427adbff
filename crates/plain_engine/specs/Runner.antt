-- What a run of calls leaves, and what the plain engine promises of a file.
use Rattle.std.specs.Prelude.{ℕ, ◌≡◌, true, false, List, length}
use Rattle.std.proofs.Math.Option.{Option, none, some}
use Rattle.std.specs.Prelude.{if◌then◌else◌}
use Rattle.lock.specs.declared.Sizes.{Sizes}
use Rattle.lock.specs.declared.Ran.{Ran}
use Rattle.lock.specs.Refusal.{answer_number}
use Rattle.lock.specs.File.{InRange, sizes_of, row_count, paired, stateless}
use Rattle.cells.specs.View.{state_of}
use Rattle.plain_model.specs.Plain.{Plain, plain_fresh, plain_run}
use Rattle.plain_model.specs.Sheet.{plain_bench}
use Rattle.plain_calls.specs.View.{lock_of, plain_of}

-- what the checks of a file have shown where its calls are run
pub record Runnable (z : Sizes) (ts os : List ℕ) : Type 0 where
  pub range : InRange z
  pub matched : length os ≡ length ts

-- the run of the calls with thread numbers ts and orders os gives r, and leaves the lock l
pub record Runs (z : Sizes) (ts os l : List ℕ) (r : Ran) : Type 0 where
  pub answer : answer_number r.answer ≡ (plain_run z plain_fresh (paired ts os)).answer
  pub taken : r.taken ≡ (plain_run z plain_fresh (paired ts os)).taken
  pub sizes : r.sizes ≡ z
  pub whole : answer_number r.answer ≡ 0 → r.taken ≡ length ts
  pub late : stateless (answer_number r.answer) ≡ false
  pub state : state_of l ≡ lock_of (plain_run z plain_fresh (paired ts os)).state

-- the plain state that a run with this answer left: "leave no state" after refusals of the file
abbrev pub plain_left : ℕ → List ℕ → Option Plain
plain_left answer l = if stateless answer then none else some (plain_of (state_of l))

-- the file b was run, on a lock that was l₀ and is l now
pub record PlainBenches (b l₀ l : List ℕ) (r : Ran) : Type 0 where
  pub answer : answer_number r.answer ≡ (plain_bench b).answer
  pub taken : r.taken ≡ (plain_bench b).taken
  pub sizes : r.sizes ≡ sizes_of b
  pub state : plain_left (answer_number r.answer) l ≡ (plain_bench b).state
  -- the array left has that state and nothing else: word 0 is (count, 0, state), the other words are 0, the mutex is
  -- free
  pub array : stateless (answer_number r.answer) ≡ false → state_of l ≡ lock_of (plain_of (state_of l))
  -- "0 means all rows were taken"
  pub whole : answer_number r.answer ≡ 0 → r.taken ≡ row_count b
  -- a file that is refused leaves the array as it was
  pub untouched : stateless (answer_number r.answer) ≡ true → l ≡ l₀
