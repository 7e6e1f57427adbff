-- What the dispatcher's loop leaves of rows that passed the checks.
use Rattle.std.specs.Prelude.{ℕ, ◌≤◌, ◌≡◌, List, map, length}
use Rattle.lock.specs.declared.Entry.{Entry}
use Rattle.lock.specs.Journal.{entry, journal_bytes}
use Rattle.lock.specs.declared.Sizes.{Sizes}
use Rattle.lock.specs.declared.Ran.{Ran}
use Rattle.lock.specs.Refusal.{answer_number}
use Rattle.lock.specs.Run.{Row}
use Rattle.lock.specs.File.{InRange, paired}
use Rattle.pair.specs.Single.{beside}
use Rattle.turn.specs.Turn.{pair_in}
use Rattle.dispatch_model.specs.Dispatch.{Dispatched}
use Rattle.dispatch_model.specs.File.{first_refusal}

-- a step as two bytes, its thread and its order, kept as a journal keeps an entry
abbrev pub as_entry : Row → Entry
as_entry r = entry r.thread r.order

-- what the checks have shown
pub record Dispatchable (z : Sizes) (ts os j : List ℕ) : Type 0 where
  pub range : InRange z
  pub few : length ts ≤ 4096
  pub matched : length os ≡ length ts
  pub room : 8192 ≤ length j
  pub known : first_refusal z (paired ts os) ≡ 0

-- All that was given is in two arrays of 4,096 bytes, that were j₀ and are j now, and led to the locks ls, of which the
-- second is fresh.
pub record Dispatches (all : Dispatched) (z : Sizes) (j₀ j : List ℕ) (ls : List (List ℕ)) (r : Ran) : Type 0 where
  pub answer : answer_number r.answer ≡ all.answer
  pub taken : r.taken ≡ length all.steps
  pub sizes : r.sizes ≡ z
  pub state : pair_in ls ≡ beside all.state
  pub steps : j ≡ journal_bytes 4096 (map as_entry all.steps) j₀
