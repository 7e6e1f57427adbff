-- The state of the lock, and what each operation does to it, with its journal entry: the meaning of each kind, given
-- once.
use Rattle.std.specs.Prelude.{ℕ, ◌+◌, ◌/◌, ◌%◌, List, [], ◌∷◌, get_or, set, replicate, eqb}
use Rattle.std.proofs.Math.Option.{Option, none, some}
use Rattle.std.specs.Prelude.{if◌then◌else◌}
use Rattle.lock.specs.Word.{Word, opened, same}
use Rattle.lock.specs.Queue.{Group, is_writer, Waiters, nobody_waits, joined, next_group, left, without_readers}
use Rattle.lock.specs.Queue.{writer_queued}
use Rattle.lock.specs.Journal.{Entry, call_begun, word_read, swap_done, swap_failed, held_up, plain_store, mutex_taken}
use Rattle.lock.specs.Journal.{mutex_released, queue_changed, sleepers_woken, upgrade_denied, booking_taken}
use Rattle.lock.specs.Phase.{Phase, Idle, Writing, Reading, Thread}
use Rattle.lock.specs.Call.{Op, begin, read, ask, swap, stay, store, lock, release, join, next, take_readers, wake}
use Rattle.lock.specs.Call.{note, refuse, op}
pub use Rattle.lock.specs.Machine.{OutcomeOf, taken, refused}
pub use Rattle.lock.specs.declared.Sizes.{Sizes}

-- Word 0 is the root, word n node n. The mutex has the thread that took it. There are 32 words and 64 threads whatever
-- N and T are; those from N and from T on are never touched (docs/DECISIONS.md, 5).
pub record State : Type 0 where
  pub words : List Word
  pub mutex : Option ℕ
  pub queue : Waiters
  pub threads : List Thread

-- ---- "Fresh lock": "Root (count 0, open), all nodes 0, mutex free, queue empty, every thread idle without failures."

abbrev pub fresh_thread : Thread
fresh_thread = record { phase = Idle; failures = 0 }

abbrev pub fresh : State
fresh =
    record { words = replicate 32 (opened 0 0); mutex = none; queue = nobody_waits; threads = replicate 64 fresh_thread }

-- ---- the parts of a state

abbrev pub word_at : State → ℕ → Word
word_at s w = get_or s.words w (opened 0 0)

abbrev pub thread_at : State → ℕ → Thread
thread_at s t = get_or s.threads t fresh_thread

abbrev pub with_word : State → ℕ → Word → State
with_word s w v = record { words = set s.words w v; mutex = s.mutex; queue = s.queue; threads = s.threads }

abbrev pub with_mutex : State → Option ℕ → State
with_mutex s m = record { words = s.words; mutex = m; queue = s.queue; threads = s.threads }

abbrev pub with_queue : State → Waiters → State
with_queue s q = record { words = s.words; mutex = s.mutex; queue = q; threads = s.threads }

abbrev pub with_threads : State → List Thread → State
with_threads s hs = record { words = s.words; mutex = s.mutex; queue = s.queue; threads = hs }

-- thread t goes on to the phase p; after a failed swap with one failure more
abbrev pub goes : State → ℕ → Phase → State
goes s t p = with_threads s (set s.threads t (record { phase = p; failures = (thread_at s t).failures }))

abbrev pub fails : State → ℕ → Phase → State
fails s t p = with_threads s (set s.threads t (record { phase = p; failures = (thread_at s t).failures + 1 }))

-- ---- waking: "all threads of the group hold, readers with ticket 0"

abbrev pub holding : Group → Phase
holding g = if is_writer g then Writing else Reading 0

-- each thread whose bit is set in b goes on to p; the lowest bit is the first thread's
abbrev pub woken : Phase → ℕ → List Thread → List Thread
woken p b [] = []
woken p b (h ∷ hs) = (if eqb (b % 2) 1 then record { phase = p; failures = h.failures } else h) ∷ woken p (b / 2) hs

-- ---- one operation

abbrev pub Outcome : Type 0
Outcome = OutcomeOf State Entry

-- what an upgrade's look leads to: on where it grants, and else back to the phase p
abbrev pub granted : Phase → Option Phase → Phase
granted p none = p
granted p (some q) = q

-- "otherwise that read denies it, is journalled as kind 10"
abbrev pub asked_as : Option Phase → Entry
asked_as none = upgrade_denied
asked_as (some q) = word_read 0

-- What follows the phase p, an operation that reads, once the word was found to have v. No other operation reads; there
-- p stays.
abbrev pub after_read : Phase → Word → Op → Phase
after_read p v (begin q) = p
after_read p v (read w k) = k v
after_read p v (ask k q) = granted q (k v)
after_read p v (swap w old new q back) = p
after_read p v stay = p
after_read p v (store f q) = p
after_read p v (lock q) = p
after_read p v (release q) = p
after_read p v (join e q) = p
after_read p v (next last k) = p
after_read p v (take_readers k) = p
after_read p v (wake g q) = p
after_read p v note = p
after_read p v (refuse n) = p

-- Document 02, One: "a failed swap on any word is also the next read, and the thread's next row is what follows that
-- read". What follows a failed swap, by the phase `back` of the read before it and the word v that the swap found. This
-- is the one place that gives a failed swap its meaning.
abbrev pub retried : Sizes → Phase → Word → Phase
retried z back v = after_read back v (op z.fan back)

-- "A step at a taken mutex … is held up and changes nothing but the journal."
abbrev pub locks : State → ℕ → Phase → Option ℕ → Outcome
locks s t p none = taken (goes (with_mutex s (some t)) t p) mutex_taken
locks s t p (some u) = taken s held_up

-- the row of thread t that does an operation
unfoldable pub perform : Sizes → State → ℕ → Op → Outcome
perform z s t (begin p) = taken (goes s t p) call_begun
perform z s t (read w k) = taken (goes s t (k (word_at s w))) (word_read w)
perform z s t (ask k p) = taken (goes s t (granted p (k (word_at s 0)))) (asked_as (k (word_at s 0)))
perform z s t (swap w old new p back) =
    if same (word_at s w) old then taken (goes (with_word s w new) t p) (swap_done w)
    else taken (fails s t (retried z back (word_at s w))) (swap_failed w)
perform z s t stay = taken s held_up
perform z s t (store f p) = taken (goes (with_word s 0 (f (writer_queued s.queue))) t p) (plain_store 0)
perform z s t (lock p) = locks s t p s.mutex
perform z s t (release p) = taken (goes (with_mutex s none) t p) mutex_released
perform z s t (join e p) = taken (goes (with_queue s (joined e t s.queue)) t p) queue_changed
perform z s t (next last k) =
    taken (goes (with_queue s (left last s.queue)) t (k (next_group last s.queue))) queue_changed
perform z s t (take_readers k) =
    taken (goes (with_queue s (without_readers s.queue)) t (k s.queue.readers)) queue_changed
perform z s t (wake g p) = taken (goes (with_threads s (woken (holding g) g.members s.threads)) t p) sleepers_woken
perform z s t note = taken s booking_taken
perform z s t (refuse n) = refused n
