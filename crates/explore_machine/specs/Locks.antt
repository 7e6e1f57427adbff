-- Two locks that are explored, with any rows or with those in lock order.
use Rattle.std.specs.Prelude.{ℕ, ◌<◌, ◌≡◌, Bool, true, false, not, ◌&&◌, List, length}
use Rattle.std.specs.Prelude.{if◌then◌else◌}
use Rattle.lock.specs.declared.Sizes.{Sizes}
use Rattle.lock.specs.declared.Standing.{Standing}
use Rattle.lock.specs.Phase.{standing}
use Rattle.lock.specs.Machine.{Row, OutcomeOf, refused}
use Rattle.lock.specs.State.{thread_at}
use Rattle.laws.specs.Forget.{forget}
use Rattle.pair.specs.Pair.{first, Pair, fresh_pair, Note, turn, run}
use Rattle.progress.specs.LockOrder.{asks_for, LockOrder}
use Rattle.progress.specs.Deadlock.{Stuck}
use Rattle.explore_machine.specs.Closed.{Machine, Has}

-- two locks without their threads' failures
abbrev pub forget_pair : Pair → Pair
forget_pair s = record { one = forget s.one; two = forget s.two }

abbrev pub stands_idle : Standing → Bool
stands_idle Standing.Idle = true
stands_idle (Standing.Reading k) = false
stands_idle Standing.Writing = false
stands_idle Standing.Calling = false
stands_idle Standing.Asleep = false

-- the row asks for the first lock, and its thread is not idle at the second: it holds that, or is in a call of it
abbrev pub out_of_order : Sizes → Pair → Row → Bool
out_of_order z s r = asks_for z first s r && not (stands_idle (standing (thread_at s.two r.thread).phase))

-- a row of two locks; where o is true, one that is out of lock order is not made
abbrev pub turn_in : Bool → Sizes → Pair → Row → OutcomeOf Pair Note
turn_in o z s r = if o && out_of_order z s r then refused 7 else turn z s r

abbrev pub two_locks : Bool → Sizes → Machine Pair Note
two_locks o z = record { step = turn_in o z; start = fresh_pair; forget = forget_pair }

-- ---- what follows for schedules of two locks: any, or where o is true those in lock order

abbrev pub Kept : Bool → Sizes → List Row → Type 0
Kept o z rs = o ≡ true → LockOrder z first rs

-- n states have every state that such schedules lead to, no deeper than there are rows
abbrev pub CompleteIn : Bool → Sizes → (ℕ → Pair) → (ℕ → ℕ) → ℕ → Type 0
CompleteIn o z f d n =
    (rs : List Row) → Kept o z rs → Has (two_locks o z) f d n (length rs) (run z fresh_pair rs).state

-- so where none of them is stuck, nobody ever is
abbrev pub NeverStuck : Bool → Sizes → (ℕ → Pair) → ℕ → Type 0
NeverStuck o z f n = ((i : ℕ) → i < n → Stuck z (f i) → ⊥)
    → (rs : List Row) → Kept o z rs → Stuck z (run z fresh_pair rs).state → ⊥
