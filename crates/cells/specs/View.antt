-- The lock as the code holds it, 512 numbers, and the state of the definitions that they stand for. Which number is
-- where is said in specs/Layout.
use Rattle.std.specs.Prelude.{ℕ, zero, suc, ◌+◌, ◌/◌, ◌%◌, ◌≡◌, List, [], ◌∷◌, length, get_or, set, replicate, take, drop}
use Rattle.lock.specs.declared.Word.{Word}
use Rattle.lock.specs.declared.Then.TheVariants.{Leaving, Upgrading, Inside}
use Rattle.lock.specs.declared.Phase.{Phase}
use Rattle.lock.specs.declared.Thread.{Thread}
use Rattle.lock.specs.Queue.{readers, writer}
use Rattle.lock.specs.State.{State}
use Rattle.cells.specs.Layout.{MUTEX, FREE, READERS, FIRST, WRITERS, RING, PLACES}
use Rattle.cells.specs.Layout.{PC, NODE, ROUTE, BELOW, SEEN, FAILURES, IDLE}
use Rattle.cells.specs.declared.ThreadCells.{ThreadCells}
use Rattle.cells.specs.Kept.{Queue, Kept, holder, waiters_of}

-- a word: 1 where closed, twice the direct arrivals, 131,072 times the arrivals from nodes
abbrev pub word_of : ℕ → Word
word_of v = record { direct = v / 2 % 65536; tree = v / 131072; closed = v % 2 }

-- The phases by program counter, which stands at each line; c is the node, n the route, b the node below, v what was
-- seen. No thread is ever at `Again` (docs/DECISIONS.md, 14), so it has no number.
abbrev pub phases : ℕ → ℕ → ℕ → ℕ → List Phase
phases c n b v =
    Phase.Idle  -- 0
    ∷ Phase.Writing  -- 1
    ∷ Phase.Reading n  -- 2
    ∷ Phase.Look n  -- 3
    ∷ Phase.Enter (word_of v)  -- 4
    ∷ Phase.Climb c n  -- 5
    ∷ Phase.ClimbSwap c n (word_of v)  -- 6
    ∷ Phase.Descend c n  -- 7
    ∷ Phase.AgainSwap c n (word_of v)  -- 8
    ∷ Phase.Depart c Leaving  -- 9
    ∷ Phase.DepartSwap c Leaving (word_of v)  -- 10
    ∷ Phase.Depart c (Inside n b)  -- 11
    ∷ Phase.DepartSwap c (Inside n b) (word_of v)  -- 12
    ∷ Phase.Depart c Upgrading  -- 13
    ∷ Phase.DepartSwap c Upgrading (word_of v)  -- 14
    ∷ Phase.Leave  -- 15
    ∷ Phase.LeaveSwap (word_of v)  -- 16
    ∷ Phase.QueueRead n  -- 17
    ∷ Phase.QueueBack n  -- 18
    ∷ Phase.QueueJoin  -- 19
    ∷ Phase.Sleep  -- 20
    ∷ Phase.WriteLook  -- 21
    ∷ Phase.WriteEnter  -- 22
    ∷ Phase.WriteRead  -- 23
    ∷ Phase.WriteClose (word_of v)  -- 24
    ∷ Phase.WriteHold  -- 25
    ∷ Phase.WriteJoin  -- 26
    ∷ Phase.UnlockNext  -- 27
    ∷ Phase.UnlockOpen  -- 28
    ∷ Phase.UnlockEnd  -- 29
    ∷ Phase.UnlockStore v  -- 30
    ∷ Phase.LastNext  -- 31
    ∷ Phase.HandRelease (readers v)  -- 32
    ∷ Phase.HandWake (readers v)  -- 33
    ∷ Phase.HandRelease (writer v)  -- 34
    ∷ Phase.HandWake (writer v)  -- 35
    ∷ Phase.UpgradeTrade n  -- 36
    ∷ Phase.UpgradeEnter n (word_of v)  -- 37
    ∷ Phase.UpgradeLook  -- 38
    ∷ Phase.UpgradeSwap (word_of v)  -- 39
    ∷ Phase.DowngradeNext  -- 40
    ∷ Phase.DowngradeStore v  -- 41
    ∷ Phase.DowngradeRelease v  -- 42
    ∷ Phase.DowngradeWake v  -- 43
    ∷ Phase.QueueTake n  -- 44
    ∷ Phase.WriteTake  -- 45
    ∷ Phase.UnlockTake  -- 46
    ∷ Phase.LastTake  -- 47
    ∷ Phase.DowngradeTake  -- 48
    ∷ Phase.Asleep  -- 49
    ∷ []

-- Any other number stands for a look by node 32, which no lock has: no rows lead there, so that no row may write one.
abbrev pub phase_of : ℕ → ℕ → ℕ → ℕ → ℕ → Phase
phase_of pc c n b v = get_or (phases c n b v) pc (Phase.Look 32)

-- ---- a thread's cells

abbrev pub pc : List ℕ → ℕ → ℕ
pc l t = get_or l (PC + t) 0

abbrev pub node : List ℕ → ℕ → ℕ
node l t = get_or l (NODE + t) 0

abbrev pub route : List ℕ → ℕ → ℕ
route l t = get_or l (ROUTE + t) 0

abbrev pub below : List ℕ → ℕ → ℕ
below l t = get_or l (BELOW + t) 0

abbrev pub seen : List ℕ → ℕ → ℕ
seen l t = get_or l (SEEN + t) 0

abbrev pub failures : List ℕ → ℕ → ℕ
failures l t = get_or l (FAILURES + t) 0

abbrev pub phase_at : List ℕ → ℕ → Phase
phase_at l t = phase_of (pc l t) (node l t) (route l t) (below l t) (seen l t)

abbrev pub thread_of : List ℕ → ℕ → Thread
thread_of l t = record { phase = phase_at l t; failures = failures l t }

-- ---- the mutex and the queue

abbrev pub mutex_at : List ℕ → ℕ
mutex_at l = get_or l MUTEX 0

abbrev pub queued_readers : List ℕ → ℕ
queued_readers l = get_or l READERS 0

abbrev pub first_place : List ℕ → ℕ
first_place l = get_or l FIRST 0

abbrev pub queued_writers : List ℕ → ℕ
queued_writers l = get_or l WRITERS 0

abbrev pub queue_of : List ℕ → Queue
queue_of l =
    record {
      readers = queued_readers l;
      ring = take PLACES (drop RING l);
      first = first_place l;
      writers = queued_writers l;
    }

-- the writer at the front of the ring
abbrev pub front : List ℕ → ℕ
front l = get_or l (RING + first_place l) 0

-- ---- the state

-- f k, f (k + 1), ..: n of them
module _ {A : Type 0} where
  unfoldable pub table : (ℕ → A) → ℕ → ℕ → List A
  table f k zero = []
  table f k (suc n) = f k ∷ table f (suc k) n

unfoldable pub state_of : List ℕ → State
unfolding table
state_of l =
    record {
      words = table (λ (w : ℕ). word_of (get_or l w 0)) 0 32;
      mutex = holder (mutex_at l);
      queue = waiters_of (queue_of l);
      threads = table (thread_of l) 0 64;
    }

-- the lock has its 512 numbers, and the ring of writers is well kept
pub record Shaped (l : List ℕ) : Type 0 where
  pub long : length l ≡ 512
  pub kept : Kept (queue_of l)

-- the state is s now
pub record Leaves (l : List ℕ) (s : State) : Type 0 where
  pub state : state_of l ≡ s
  pub shaped : Shaped l

-- a fresh thread's numbers: idle, without failures
abbrev pub fresh_thread_cells : ThreadCells
fresh_thread_cells = record { pc = IDLE; node = 0; route = 0; below = 0; seen = 0; failures = 0 }

-- the lock l with these numbers of thread t
abbrev pub with_thread_cells : List ℕ → ℕ → ThreadCells → List ℕ
with_thread_cells l t me =
    set (set (set (set (set (set l (PC + t) me.pc) (NODE + t) me.node) (ROUTE + t) me.route)
    (BELOW + t) me.below) (SEEN + t) me.seen) (FAILURES + t) me.failures

-- the fresh lock's numbers: 0 but for the mutex, which is free
abbrev pub fresh_cells : List ℕ
fresh_cells = set (replicate 512 0) MUTEX FREE
