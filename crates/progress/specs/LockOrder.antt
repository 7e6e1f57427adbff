-- Lock order: where all threads take the two locks in one order, nobody is ever stuck. After any rows there are further
-- rows, all taken, that leave every thread idle and both locks as they were made.
use Rattle.std.specs.Prelude.{ℕ, ◌+◌, ◌≤◌, ◌<◌, ◌≡◌, ◌⊎◌, Bool, true, false, ◌&&◌, List, ◌++◌, length, take}
use Rattle.std.proofs.Math.Option.{Option, none, some}
use Rattle.lock.specs.declared.Then.TheVariants.{Leaving, Upgrading, Inside}
use Rattle.lock.specs.declared.Phase.{Phase}
use Rattle.lock.specs.declared.Phase.TheVariants.{Idle, Writing, Asleep, Reading, Look, Enter, Climb, ClimbSwap}
use Rattle.lock.specs.declared.Phase.TheVariants.{Descend, Again, AgainSwap, Depart, DepartSwap, Leave, LeaveSwap}
use Rattle.lock.specs.declared.Phase.TheVariants.{QueueTake, QueueRead, QueueBack, QueueJoin, Sleep, WriteLook}
use Rattle.lock.specs.declared.Phase.TheVariants.{WriteEnter, WriteTake, WriteRead, WriteClose, WriteHold, WriteJoin}
use Rattle.lock.specs.declared.Phase.TheVariants.{UnlockTake, UnlockNext, UnlockOpen, UnlockEnd, UnlockStore, LastTake}
use Rattle.lock.specs.declared.Phase.TheVariants.{LastNext, HandRelease, HandWake, UpgradeTrade, UpgradeEnter}
use Rattle.lock.specs.declared.Phase.TheVariants.{UpgradeLook, UpgradeSwap, DowngradeTake, DowngradeNext}
use Rattle.lock.specs.declared.Phase.TheVariants.{DowngradeStore, DowngradeRelease, DowngradeWake}
use Rattle.lock.specs.declared.Sizes.{Sizes}
use Rattle.lock.specs.Machine.{Row}
use Rattle.lock.specs.Call.{Order, go_on, write_lock, unlock, upgrade, downgrade, read_lock, book, decode}
use Rattle.lock.specs.State.{thread_at}
use Rattle.lock.specs.File.{InRange}
use Rattle.lock.specs.Demand.{All}
use Rattle.laws.specs.Late.{row_at}
use Rattle.laws.specs.Sleeping.{Free}
use Rattle.pair.specs.Pair.{Side, Pair, lock_of, other, fresh_pair, side_of, lowered, run}
use Rattle.pair.specs.Apart.{is}
use Rattle.progress.specs.Progress.{enough_rows}

-- ---- both locks come free

-- a row that goes on with a call or begins an unlock of either lock
abbrev pub GoesOnOrUnlocksOne : Row → Type 0
GoesOnOrUnlocksOne r = (r.order ≡ 0) ⊎ (r.order ≡ 2) ⊎ (r.order ≡ 130)

-- The rows rs, from the state s, are all taken and leave both locks free.
pub record FreesBoth (z : Sizes) (s : Pair) (rs : List Row) : Type 0 where
  pub answer : (run z s rs).answer ≡ 0
  pub taken : (run z s rs).taken ≡ length rs
  pub idle : (x : Side) (t : ℕ) → (thread_at (lock_of x (run z s rs).state) t).phase ≡ Idle
  pub free : (x : Side) → Free (lock_of x (run z s rs).state)

-- after the rows taken of rs both locks can be freed, in no more rows than each by itself
pub record DeadlockFreePair (z : Sizes) (rs : List Row) : Type 0 where
  pub more : List Row
  pub orders : All GoesOnOrUnlocksOne more
  pub few : length more ≤ enough_rows z + enough_rows z
  pub frees : FreesBoth z fresh_pair (take (run z fresh_pair rs).taken rs ++ more)

-- ---- lock order, of the rows

-- a read-lock or a write-lock: the calls that may sleep
abbrev pub is_lock_call : Option Order → Bool
is_lock_call none = false
is_lock_call (some go_on) = false
is_lock_call (some write_lock) = true
is_lock_call (some unlock) = false
is_lock_call (some upgrade) = false
is_lock_call (some downgrade) = false
is_lock_call (some (read_lock n)) = true
is_lock_call (some (book e)) = false

-- the row asks for the lock x: it begins a read-lock or a write-lock there
abbrev pub asks_for : Sizes → Side → Pair → Row → Bool
asks_for z x s r = is x (side_of s r) && is_lock_call (decode z (lowered r.order))

-- the state of both locks after the first i rows
abbrev pub pair_at : Sizes → List Row → ℕ → Pair
pair_at z rs i = (run z fresh_pair (take i rs)).state

-- Threads take the lock x first: who asks for it, in a row that is taken, is idle at the other lock. So nobody asks for
-- the first lock while it holds the second or waits for it.
abbrev pub LockOrder : Sizes → Side → List Row → Type 0
LockOrder z x rs = (i : ℕ) → i < (run z fresh_pair rs).taken → asks_for z x (pair_at z rs i) (row_at z rs i) ≡ true
    → (thread_at (lock_of (other x) (pair_at z rs i)) (row_at z rs i).thread).phase ≡ Idle

-- ---- and of a state

-- is the thread acquiring the lock: in a read-lock, in a write-lock, or asleep?
unfoldable pub acquires : Phase → Bool
acquires Idle = false
acquires Writing = false
acquires Asleep = true
acquires (Reading k) = false
acquires (Look n) = true
acquires (Enter v) = true
acquires (Climb c n) = true
acquires (ClimbSwap c n v) = true
acquires (Descend c n) = true
acquires (Again c n) = true
acquires (AgainSwap c n v) = true
acquires (Depart d Leaving) = false
acquires (Depart d Upgrading) = false
acquires (Depart d (Inside n c)) = true
acquires (DepartSwap d Leaving v) = false
acquires (DepartSwap d Upgrading v) = false
acquires (DepartSwap d (Inside n c) v) = true
acquires Leave = false
acquires (LeaveSwap v) = false
acquires (QueueTake n) = true
acquires (QueueRead n) = true
acquires (QueueBack n) = true
acquires QueueJoin = true
acquires Sleep = true
acquires WriteLook = true
acquires WriteEnter = true
acquires WriteTake = true
acquires WriteRead = true
acquires (WriteClose v) = true
acquires WriteHold = true
acquires WriteJoin = true
acquires UnlockTake = false
acquires UnlockNext = false
acquires UnlockOpen = false
acquires UnlockEnd = false
acquires (UnlockStore b) = false
acquires LastTake = false
acquires LastNext = false
acquires (HandRelease g) = false
acquires (HandWake g) = false
acquires (UpgradeTrade n) = false
acquires (UpgradeEnter n v) = false
acquires UpgradeLook = false
acquires (UpgradeSwap v) = false
acquires DowngradeTake = false
acquires DowngradeNext = false
acquires (DowngradeStore b) = false
acquires (DowngradeRelease b) = false
acquires (DowngradeWake b) = false

-- Who is not idle at the other lock is not acquiring the lock x: there it is idle, holds, or is in an unlock, an
-- upgrade or a downgrade, none of which ever sleeps.
abbrev pub InOrder : Side → Pair → Type 0
InOrder x s = (t : ℕ)
    → ((thread_at (lock_of (other x) s) t).phase ≡ Idle) ⊎ (acquires (thread_at (lock_of x s) t).phase ≡ false)

-- ---- the claims

pub record Ordered (z : Sizes) (x : Side) (rs : List Row) : Type 0 where
  -- rows in lock order keep every state in order
  pub kept : LockOrder z x rs → (i : ℕ) → i ≤ (run z fresh_pair rs).taken → InOrder x (pair_at z rs i)
  -- from a state in order both locks come free, whatever rows led to it
  pub comes_free : InOrder x (run z fresh_pair rs).state → DeadlockFreePair z rs
  -- so if threads take the locks in one order, nobody is ever stuck
  pub deadlock_free : LockOrder z x rs → DeadlockFreePair z rs

-- of every list of rows of two locks, with either lock as the first
abbrev pub OrderedOf : Type 0
OrderedOf = (z : Sizes) → InRange z → (x : Side) (rs : List Row) → Ordered z x rs
