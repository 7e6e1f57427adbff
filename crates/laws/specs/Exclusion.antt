-- That the lock locks, of one state: who holds it, and what the root shows of that.
use Rattle.std.specs.Prelude.{ℕ, ◌<◌, ◌≡◌, ◌≢◌, ◌↔◌, true, length}
use Rattle.lock.specs.Word.{closed, is_closed, total}
use Rattle.lock.specs.declared.Then.TheVariants.{Leaving, Upgrading, Inside}
use Rattle.lock.specs.declared.Phase.{Phase}
use Rattle.lock.specs.declared.Phase.TheVariants.{Idle, Writing, Asleep, Reading, Look, Enter, Climb, ClimbSwap}
use Rattle.lock.specs.declared.Phase.TheVariants.{Descend, Again, AgainSwap, Depart, DepartSwap, Leave, LeaveSwap}
use Rattle.lock.specs.declared.Phase.TheVariants.{QueueTake, QueueRead, QueueBack, QueueJoin, Sleep, WriteLook}
use Rattle.lock.specs.declared.Phase.TheVariants.{WriteEnter, WriteTake, WriteRead, WriteClose, WriteHold, WriteJoin}
use Rattle.lock.specs.declared.Phase.TheVariants.{UnlockTake, UnlockNext, UnlockOpen, UnlockEnd, UnlockStore, LastTake}
use Rattle.lock.specs.declared.Phase.TheVariants.{LastNext, HandRelease, HandWake, UpgradeTrade, UpgradeEnter}
use Rattle.lock.specs.declared.Phase.TheVariants.{UpgradeLook, UpgradeSwap, DowngradeTake, DowngradeNext}
use Rattle.lock.specs.declared.Phase.TheVariants.{DowngradeStore, DowngradeRelease, DowngradeWake}
use Rattle.lock.specs.declared.Standing.{Standing}
use Rattle.lock.specs.Phase.{standing}
use Rattle.lock.specs.State.{State, word_at, thread_at}

-- ---- what a thread counts as for exclusion

pub data Part : Type 0 where
  as_nobody as_reader as_writer : Part

-- "A thread holds only between calls", but for two calls. Upgrade: "A thread inside this call still counts as a reader
-- for exclusion." Downgrade: "For exclusion it is a writer until its store and a reader from then on."
unfoldable pub counts_as : Phase → Part
counts_as Idle = as_nobody
counts_as Writing = as_writer
counts_as Asleep = as_nobody
counts_as (Reading k) = as_reader
counts_as (Look n) = as_nobody
counts_as (Enter v) = as_nobody
counts_as (Climb c n) = as_nobody
counts_as (ClimbSwap c n v) = as_nobody
counts_as (Descend c n) = as_nobody
counts_as (Again c n) = as_nobody
counts_as (AgainSwap c n v) = as_nobody
counts_as (Depart d Leaving) = as_nobody
counts_as (Depart d Upgrading) = as_reader
counts_as (Depart d (Inside n c)) = as_nobody
counts_as (DepartSwap d Leaving v) = as_nobody
counts_as (DepartSwap d Upgrading v) = as_reader
counts_as (DepartSwap d (Inside n c) v) = as_nobody
counts_as Leave = as_nobody
counts_as (LeaveSwap v) = as_nobody
counts_as (QueueTake n) = as_nobody
counts_as (QueueRead n) = as_nobody
counts_as (QueueBack n) = as_nobody
counts_as QueueJoin = as_nobody
counts_as Sleep = as_nobody
counts_as WriteLook = as_nobody
counts_as WriteEnter = as_nobody
counts_as WriteTake = as_nobody
counts_as WriteRead = as_nobody
counts_as (WriteClose v) = as_nobody
counts_as WriteHold = as_nobody
counts_as WriteJoin = as_nobody
counts_as UnlockTake = as_nobody
counts_as UnlockNext = as_nobody
counts_as UnlockOpen = as_nobody
counts_as UnlockEnd = as_nobody
counts_as (UnlockStore b) = as_nobody
counts_as LastTake = as_nobody
counts_as LastNext = as_nobody
counts_as (HandRelease g) = as_nobody
counts_as (HandWake g) = as_nobody
counts_as (UpgradeTrade n) = as_reader
counts_as (UpgradeEnter n v) = as_reader
counts_as UpgradeLook = as_reader
counts_as (UpgradeSwap v) = as_reader
counts_as DowngradeTake = as_writer
counts_as DowngradeNext = as_writer
counts_as (DowngradeStore b) = as_writer
counts_as (DowngradeRelease b) = as_reader
counts_as (DowngradeWake b) = as_reader

-- ---- the claims

-- "a state where every thread is idle, holding or asleep"
abbrev pub Resting : State → Type 0
Resting s = (t : ℕ) → standing (thread_at s t).phase ≢ Standing.Calling

-- "someone reads", "someone writes"
pub record Reads (s : State) : Type 0 where
  pub thread : ℕ
  pub ticket : ℕ
  pub reads : (thread_at s thread).phase ≡ Reading ticket

pub record Writes (s : State) : Type 0 where
  pub thread : ℕ
  pub writes : (thread_at s thread).phase ≡ Writing

pub record Locks (s : State) : Type 0 where
  -- "No state has a writing thread and any other holder": no other that counts as a writer, and none that counts as a
  -- reader
  pub alone : (t u : ℕ) → t ≢ u
      → counts_as (thread_at s t).phase ≡ as_writer → counts_as (thread_at s u).phase ≢ as_writer
  pub unread : (t u : ℕ) → counts_as (thread_at s t).phase ≡ as_writer → counts_as (thread_at s u).phase ≢ as_reader
  -- the root of a lock that is held is not (0, open), whoever is in a call
  pub reading : (t : ℕ) → counts_as (thread_at s t).phase ≡ as_reader → 0 < total (word_at s 0)
  pub writing : (t : ℕ) → counts_as (thread_at s t).phase ≡ as_writer → word_at s 0 ≡ closed 0 0
  -- "the root's count is above 0 exactly when someone reads"
  pub counted : Resting s → (0 < total (word_at s 0)) ↔ Reads s
  -- "it is (0, closed) exactly when someone writes", both counts being 0
  pub shut : Resting s → (word_at s 0 ≡ closed 0 0) ↔ Writes s
  -- "and closed with a count above 0 only when a writer is queued"
  pub awaited : Resting s → is_closed (word_at s 0) ≡ true → 0 < total (word_at s 0) → 0 < length s.queue.writers
