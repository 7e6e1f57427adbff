-- Which of the states found are stuck: no row changes anything.
use Rattle.std.specs.Prelude.{ℕ, suc, ◌<◌, ◌≤◌, ◌≡◌, Bool, true, false, List, length, unwrap_or}
use Rattle.lock.specs.Bound.{steps_before}
use Rattle.lock.specs.declared.Sizes.{Sizes}
use Rattle.lock.specs.Machine.{Row}
use Rattle.pair.specs.Pair.{Pair, fresh_pair, turn, run}
use Rattle.progress.specs.Deadlock.{Blocked, Stuck}
use Rattle.turn.specs.Turn.{pair_in, Place}
use Rattle.explore_machine.specs.Locks.{Kept, CompleteIn}
use Rattle.explore_store.specs.Store.{depth_at}
use Rattle.explore_subject.specs.Search.{state_at, halt_number, Explores}
use Rattle.explore_pair.specs.Both.{locks_at, RoomBoth, both}
use Rattle.explore_stuck.specs.declared.ExploredLocks.{ExploredLocks}

-- ---- of one state

-- whether it is stuck
pub record Tells (z : Sizes) (s : Pair) (b : Bool) : Type 0 where
  pub yes : b ≡ true → Stuck z s
  pub no : b ≡ false → Stuck z s → ⊥

-- the locks are in place, as they were, and none of the rows R changes anything
pub record Stays (z : Sizes) (R : Row → Type 0) (s : Pair) (ls : List (List ℕ)) : Type 0 where
  pub same : pair_in ls ≡ s
  pub place : Place z ls steps_before
  pub blocked : (r : Row) → R r → Blocked s (turn z s r)

-- rows tried in place
pub record Tested (z : Sizes) (R : Row → Type 0) (s : Pair) (ls : List (List ℕ)) (b : Bool) : Type 0 where
  pub yes : b ≡ true → Stays z R s ls
  pub no : b ≡ false → Stuck z s → ⊥

-- ---- of all

-- k of the numbers below n are such that P
pub data Counted (P : ℕ → Type 0) : ℕ → ℕ → Type 0 where
  none : Counted P 0 0
  more : (n k : ℕ) → Counted P n k → P n → Counted P (suc n) (suc k)
  same : (n k : ℕ) → Counted P n k → (P n → ⊥) → Counted P (suc n) k

-- number i is stuck
abbrev pub StuckAt : Sizes → List ℕ × List ℕ → ℕ → Type 0
StuckAt z x i = Stuck z (pair_in (locks_at x i))

-- so many of the first n are stuck, and which is the first; n where none is
pub record Decides (P : ℕ → Type 0) (n count first : ℕ) : Type 0 where
  pub counted : Counted P n count
  pub least : (i : ℕ) → i < n → i < first → P i → ⊥
  pub met : first < n → P first
  pub within : first ≤ n

-- the records are such that rows may be tried
pub record Ready (z : Sizes) (x : List ℕ × List ℕ) (n : ℕ) : Type 0 where
  pub room : RoomBoth x n
  pub place : (i : ℕ) → i < n → Place z (locks_at x i) steps_before

-- ---- the answer

-- what an exploration came to, in numbers: the answer, the number of states found, the depth of the deepest, how many of
-- them are stuck, and the number of the first; where none is, the number of states
pub record FiguresOfLocks : Type 0 where
  pub answer : ℕ
  pub count : ℕ
  pub depth : ℕ
  pub stuck : ℕ
  pub first : ℕ

abbrev pub figures_of_locks : ExploredLocks → FiguresOfLocks
figures_of_locks r = record {
  answer = halt_number r.explored.answer;
  count = r.explored.count;
  depth = r.explored.depth;
  stuck = r.blocks.count;
  first = unwrap_or r.blocks.first r.explored.count;
}

-- two locks of the sizes z, with any rows, or, where o is true, with those in lock order
pub record ExploresLocks (o : Bool) (z : Sizes) (x : List ℕ × List ℕ) (r : FiguresOfLocks) : Type 0 where
  pub explores : Explores (both o z) x (record { answer = r.answer; count = r.count; depth = r.depth })
  pub decides : Decides (StuckAt z x) r.count r.stuck r.first
  -- answer 0: every state that such a schedule leads to is among them but for failures, no deeper than it has rows
  pub complete : r.answer ≡ 0 → CompleteIn o z (state_at (both o z) x) (depth_at x.0) r.count
  -- and a schedule that leads to a stuck state has at least as many rows as the first stuck number is deep; where none
  -- is stuck, there is no such schedule
  pub shortest : r.answer ≡ 0 → (rs : List Row) → Kept o z rs → Stuck z (run z fresh_pair rs).state
      → (r.first < r.count) × (depth_at x.0 r.first ≤ length rs)
