-- The plain engine of document 02, Four: "figure 1, a single surplus and a flag". "It reads a file of the same form,
-- each row being a whole call, and runs that call until the thread is idle, holds or sleeps."
use Rattle.std.specs.Prelude.{ℕ, true, false, List, ltb, get_or, set, replicate}
use Rattle.std.proofs.Math.Option.{Option, none, some}
use Rattle.std.specs.Prelude.{if◌then◌else◌}
use Rattle.lock.specs.declared.Group.{Group}
use Rattle.lock.specs.Queue.{is_writer, Waiters, nobody_waits, joined, next_group, left, size, writer_queued}
use Rattle.lock.specs.declared.Phase.{Phase}
use Rattle.lock.specs.declared.Standing.{Standing}
use Rattle.lock.specs.declared.Thread.{Thread}
use Rattle.lock.specs.declared.Phase.TheVariants.{Idle, Writing, Asleep, Reading}
use Rattle.lock.specs.Phase.{standing}
use Rattle.lock.specs.Call.{Order, go_on, write_lock, unlock, upgrade, downgrade, read_lock, book, decode}
use Rattle.lock.specs.declared.Sizes.{Sizes}
use Rattle.lock.specs.State.{fresh_thread, holding, woken}
use Rattle.lock.specs.Machine.{Row, OutcomeOf, taken, refused, ResultOf, runs}
use Rattle.plain_model.specs.Root.{Root, open_at, shut_at, is_shut, is_free, is_spent, more, less, shutting, storing}

-- The root is the surplus and the flag: its count is the number of readers. A thread is idle, reading, writing or
-- asleep; a reader has no ticket, which is written `Reading 0`.
pub record Plain : Type 0 where
  pub root : Root
  pub queue : Waiters
  pub threads : List Thread

abbrev pub plain_fresh : Plain
plain_fresh = record { root = open_at 0; queue = nobody_waits; threads = replicate 64 fresh_thread }

abbrev pub plain_at : Plain → ℕ → Thread
plain_at p t = get_or p.threads t fresh_thread

-- ---- the ends of a call

-- thread t's call ends in the phase x
abbrev pub ended : ℕ → Phase → List Thread → Thread
ended t x hs = record { phase = x; failures = (get_or hs t fresh_thread).failures }

abbrev pub ends : ℕ → Phase → List Thread → List Thread
ends t x hs = set hs t (ended t x hs)

-- "Waking is one step: all threads of the group hold", and the waker is idle
abbrev pub wakes : ℕ → Group → List Thread → List Thread
wakes t g hs = ends t Idle (woken (holding g) g.members hs)

-- thread t leaves, and hands over to the group that it took, if it took one
abbrev pub passes : ℕ → Option Group → List Thread → List Thread
passes t none hs = ends t Idle hs
passes t (some g) hs = wakes t g hs

-- ---- the four calls

-- *Read-lock.* "closed leads to the queue … If closed, join, release; the release row begins the sleep". Open: "swap
-- count + 1 … done"
abbrev pub read_locks : Plain → ℕ → Plain
read_locks p t =
    if is_shut p.root then record {
      root = p.root;
      queue = joined false t p.queue;
      threads = ends t Asleep p.threads;
    }
    else record { root = more p.root; queue = p.queue; threads = ends t (Reading 0) p.threads }

-- *Write-lock.* "if (0, open), swap to (0, closed), done. Otherwise … if closed, join, release, sleep; if open, swap to
-- closed with the count kept, then … join, release, sleep"
abbrev pub write_locks : Plain → ℕ → Plain
write_locks p t =
    if is_free p.root then record { root = shut_at 0; queue = p.queue; threads = ends t Writing p.threads }
    else record { root = shutting p.root; queue = joined true t p.queue; threads = ends t Asleep p.threads }

-- *Unlock by a writer.* "None: store (0, open) … Readers: store (size of group, closed if a writer is still queued,
-- else open) … A writer: release, wake": the root after it, q being the queue without the group
abbrev pub handed : Root → Waiters → Option Group → Root
handed v q none = open_at 0
handed v q (some g) = if is_writer g then v else storing (size g.members) (writer_queued q)

abbrev pub writer_leaves : Plain → ℕ → Plain
writer_leaves p t =
    record {
      root = handed p.root (left false p.queue) (next_group false p.queue);
      queue = left false p.queue;
      threads = passes t (next_group false p.queue) p.threads;
    }

-- *Unlock by a reader.* "swap − 1 … the departure is the last exactly if the new word is (0, closed)"; "The last reader
-- to leave takes that writer."
abbrev pub reader_leaves : Plain → ℕ → Plain
reader_leaves p t =
    if is_spent (less p.root) then
    record { root = less p.root; queue = left true p.queue; threads = passes t (next_group true p.queue) p.threads }
    else record { root = less p.root; queue = p.queue; threads = ends t Idle p.threads }

-- ---- one row, a whole call

-- no journal: a call that is taken enters nothing
abbrev pub PlainOutcome : Type 0
PlainOutcome = OutcomeOf Plain (Unit {0})

-- Refusal 7: "1 or 64 + n while not idle", "orders to a sleeper under 7"
abbrev pub if_idle : Plain → Standing → PlainOutcome
if_idle p Standing.Idle = taken p tt
if_idle p (Standing.Reading k) = refused 7
if_idle p Standing.Writing = refused 7
if_idle p Standing.Calling = refused 7
if_idle p Standing.Asleep = refused 7

-- Refusal 7: "2 while not holding"
abbrev pub if_holding : Plain → ℕ → Standing → PlainOutcome
if_holding p t Standing.Idle = refused 7
if_holding p t (Standing.Reading k) = taken (reader_leaves p t) tt
if_holding p t Standing.Writing = taken (writer_leaves p t) tt
if_holding p t Standing.Calling = refused 7
if_holding p t Standing.Asleep = refused 7

-- "It refuses by … order 0 under 6"; Seven, of order 3: "in the plain engine with 6"; Twelve: "the plain engine …
-- never" has a till, and a booking there "is 6"
abbrev pub ordered : Plain → ℕ → Standing → Option Order → PlainOutcome
ordered p t x none = refused 6
ordered p t x (some go_on) = refused 6
ordered p t x (some write_lock) = if_idle (write_locks p t) x
ordered p t x (some unlock) = if_holding p t x
ordered p t x (some upgrade) = refused 6
ordered p t x (some downgrade) = refused 6
ordered p t x (some (read_lock n)) = if_idle (read_locks p t) x
ordered p t x (some (book e)) = refused 6

-- refusals 5, 6, 7 in this order
unfoldable pub plain_step : Sizes → Plain → Row → PlainOutcome
unfolding standing
plain_step z p r =
    if ltb r.thread z.threads then ordered p
    r.thread (standing (plain_at p r.thread).phase) (decode z r.order)
    else refused 5

-- ---- a list of rows

abbrev pub PlainResult : Type 0
PlainResult = ResultOf Plain (Unit {0})

unfoldable pub plain_run : Sizes → Plain → List Row → PlainResult
unfolding runs plain_step
plain_run z p rs = runs (plain_step z) p rs
