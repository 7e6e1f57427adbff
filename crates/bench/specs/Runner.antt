-- What the runner leaves of a run on two fresh locks.
use Rattle.std.specs.Prelude.{◌≡◌, ℕ, false, List, length}
use Rattle.lock.specs.Journal.{journal_bytes}
use Rattle.lock.specs.declared.Sizes.{Sizes}
use Rattle.lock.specs.declared.Ran.{Ran}
use Rattle.lock.specs.Refusal.{answer_number}
use Rattle.lock.specs.File.{paired, stateless}
use Rattle.pair.specs.Pair.{fresh_pair, run, journal}
use Rattle.turn.specs.Turn.{pair_in}

-- The run of the rows with thread numbers ts and orders os gives r, takes the caller's journal from j₀ to j, and leaves
-- the locks ls.
pub record Runs (z : Sizes) (ts os j₀ j : List ℕ) (ls : List (List ℕ)) (r : Ran) : Type 0 where
  pub answer : answer_number r.answer ≡ (run z fresh_pair (paired ts os)).answer
  pub taken : r.taken ≡ (run z fresh_pair (paired ts os)).taken
  pub sizes : r.sizes ≡ z
  pub late : stateless (answer_number r.answer) ≡ false
  pub state : pair_in ls ≡ (run z fresh_pair (paired ts os)).state
  pub journal : j ≡ journal_bytes (length ts) (journal (run z fresh_pair (paired ts os)).entries) j₀
