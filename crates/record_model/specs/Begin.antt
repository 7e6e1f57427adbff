-- Where a record may begin: where every thread is idle at both locks, these are as they were made, but for failures. So
-- a record that begins at such a moment is one from two fresh locks.
use Rattle.std.specs.Prelude.{ℕ, ◌≡◌, List}
use Rattle.lock.specs.declared.Sizes.{Sizes}
use Rattle.lock.specs.declared.Phase.TheVariants.{Idle}
use Rattle.lock.specs.File.{InRange}
use Rattle.lock.specs.Machine.{Row}
use Rattle.lock.specs.State.{thread_at}
use Rattle.laws.specs.Forget.{forget}
use Rattle.pair.specs.Pair.{Side, lock_of, Pair, fresh_pair, run}
use Rattle.record_model.specs.Record.{Recorded, Holding, hold}

-- every thread is idle at both locks
abbrev pub NobodyIn : Pair → Type 0
NobodyIn s = (x : Side) (t : ℕ) → (thread_at (lock_of x s) t).phase ≡ Idle

-- both locks with every thread's failures at 0
abbrev pub forget_both : Pair → Pair
forget_both s = record { one = forget s.one; two = forget s.two }

-- the same verdict: the answer, the rows held and what the bench gives; and the same state but for failures
pub record SameVerdict (h h' : Holding) : Type 0 where
  pub told : h.told ≡ h'.told
  pub state : forget_both h.state ≡ forget_both h'.state

-- where rows led to, if nobody is in a lock there
pub record Begins (z : Sizes) (s : Pair) : Type 0 where
  -- both locks are as they were made, but for failures
  pub made : forget_both s ≡ fresh_pair
  -- and a record is held from there as it is from two fresh locks
  pub same : (rs : List Recorded) → SameVerdict (hold z s rs) (hold z fresh_pair rs)

abbrev pub MayBegin : Type 0
MayBegin =
    (z : Sizes) → InRange z → (rs : List Row) → NobodyIn (run z fresh_pair rs).state
    → Begins z (run z fresh_pair rs).state
