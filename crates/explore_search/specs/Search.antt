-- What an exploration of one lock finds.
use Rattle.std.specs.Prelude.{ℕ, ◌-◌, ◌*◌, ◌<◌, ◌≤◌, ◌≡◌, List, ltb, length}
use Rattle.std.specs.Prelude.{if◌then◌else◌}
use Rattle.lock.specs.declared.Sizes.{Sizes}
use Rattle.explore_model.specs.Closed.{Closed, Complete, Leads}
use Rattle.explore_store.specs.Store.{depth_at, state_at}
use Rattle.explore_subject.specs.Search.{Figures}
-- the rows that the records name, and the sizes of a lock without a till
unfoldable pub use Rattle.explore_subject.specs.Search.{path_in, path_to}
pub use Rattle.explore_subject.specs.Search.{sizes_for}

-- what the exploration says of the lock with the sizes z
pub record Explores (z : Sizes) (st : List ℕ) (r : Figures) : Type 0 where
  -- 0 complete, 1 too little room, 2 a size out of range
  pub known : r.answer ≤ 2
  pub room : 8 * r.count ≤ length st
  -- each record is a state that rows lead to: those that the records name, as many as its depth
  pub leads : (i : ℕ) → i < r.count → Leads z (path_to st i) (state_at st i)
  pub depth : (i : ℕ) → i < r.count → length (path_to st i) ≡ depth_at st i
  pub ordered : (i j : ℕ) → i ≤ j → j < r.count → depth_at st i ≤ depth_at st j
  -- the last is the deepest
  pub deepest : r.depth ≡ (if ltb 0 r.count then depth_at st (r.count - 1) else 0)
  -- answer 0: no row leads out of them, so they are all: every state that rows of any number lead to is one of them
  -- but for failures, no deeper than there are rows
  pub closed : r.answer ≡ 0 → Closed z (state_at st) (depth_at st) r.count
  pub complete : r.answer ≡ 0 → Complete z (state_at st) (depth_at st) r.count
