-- Document 02, Ten: two locks of the same N and F, "used by the same threads and written to the same journal". A row is
-- one lock's `step`.
use Rattle.std.specs.Prelude.{ℕ, ◌+◌, ◌-◌, Bool, true, false, not, ◌&&◌, List, map, eqb, ltb}
use Rattle.std.specs.Prelude.{if◌then◌else◌}
use Rattle.lock.specs.declared.Entry.{Entry}
use Rattle.lock.specs.Journal.{entry}
use Rattle.lock.specs.declared.Sizes.{Sizes}
use Rattle.lock.specs.declared.Standing.{Standing}
use Rattle.lock.specs.Phase.{standing}
use Rattle.lock.specs.Machine.{Row, OutcomeOf, taken, refused, ResultOf, runs}
use Rattle.lock.specs.State.{State, fresh, thread_at, Outcome}
use Rattle.lock.specs.Run.{step}

-- which of the two locks
pub data Side : Type 0 where
  first second : Side

pub record Pair : Type 0 where
  pub one : State
  pub two : State

abbrev pub lock_of : Side → Pair → State
lock_of first s = s.one
lock_of second s = s.two

abbrev pub with_lock : Side → State → Pair → Pair
with_lock first l s = record { one = l; two = s.two }
with_lock second l s = record { one = s.one; two = l }

abbrev pub other : Side → Side
other first = second
other second = first

-- two fresh locks
abbrev pub fresh_pair : Pair
fresh_pair = record { one = fresh; two = fresh }

-- ---- which lock a row is for

-- "in a call … or asleep", of a thread's standing at one lock
abbrev pub engaged : Standing → Bool
engaged Standing.Idle = false
engaged (Standing.Reading k) = false
engaged Standing.Writing = false
engaged Standing.Calling = true
engaged Standing.Asleep = true

abbrev pub busy : State → ℕ → Bool
busy s t = engaged (standing (thread_at s t).phase)

-- "Orders with 128 added are for the second lock …, 0 goes on with the call under way"; a thread that is in none is
-- refused by either lock alike
abbrev pub side_of : Pair → Row → Side
side_of s r =
    if eqb r.order 0 then (if busy s.two r.thread then second else first)
    else if ltb 128 r.order then second else first

-- The order that the row's lock gets. "128 alone is a 6", and so is "a booking with 128 added", which would be 96 or
-- more: these stay as they are, and no lock has them
abbrev pub lowered : ℕ → ℕ
lowered o = if ltb 128 o && ltb o 224 then o - 128 else o

abbrev pub own_row : Row → Row
own_row r = record { thread = r.thread; order = lowered r.order }

-- "It refuses a new call under 7 while the thread is in a call of either lock or asleep", and so a booking, which is by
-- a thread "in no call and not asleep": of the row's own lock, x, its `step` says so
abbrev pub barred : Pair → Side → Row → Bool
barred s x r = not (eqb r.order 0) && busy (lock_of (other x) s) r.thread

-- ---- one row

-- what a row did: at which lock, with which entry of that lock
pub record Note : Type 0 where
  pub side : Side
  pub entry : Entry

-- a new call that is barred is refused with 7, after 5 and 6
abbrev pub turned : Pair → Side → Bool → Outcome → OutcomeOf Pair Note
turned s x false (taken l e) = taken (with_lock x l s) (record { side = x; entry = e })
turned s x true (taken l e) = refused 7
turned s x b (refused n) = refused n

-- a row at the lock x
abbrev pub turn_at : Sizes → Pair → Side → Row → OutcomeOf Pair Note
turn_at z s x r = turned s x (barred s x r) (step z (lock_of x s) (own_row r))

unfoldable pub turn : Sizes → Pair → Row → OutcomeOf Pair Note
turn z s r = turn_at z s (side_of s r) r

unfoldable pub run : Sizes → Pair → List Row → ResultOf Pair Note
unfolding turn runs
run z s rs = runs (turn z) s rs

-- ---- the journal

-- "words in the second lock's journal entries have 64 added, 33 included"
abbrev pub base : Side → ℕ
base first = 0
base second = 64

abbrev pub written : Note → Entry
written m = entry m.entry.kind (m.entry.word + base m.side)

abbrev pub journal : List Note → List Entry
journal ms = map written ms
