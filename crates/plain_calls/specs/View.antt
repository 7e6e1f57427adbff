-- The plain engine's state, in the lock in place: the root is word 0, with all its readers counted as direct arrivals;
-- queue and threads are the lock's; nothing else is used.
use Rattle.std.specs.Prelude.{ℕ, ◌<◌, ◌≡◌, List, ◌∷◌, get_or, replicate}
use Rattle.std.proofs.Math.Option.{Option, none, some}
use Rattle.lock.specs.declared.Word.{Word}
use Rattle.lock.specs.Word.{opened}
use Rattle.lock.specs.declared.Group.{Group}
use Rattle.lock.specs.declared.Phase.TheVariants.{Idle}
use Rattle.lock.specs.Queue.{readers, size, longest, without_readers, without_longest, writer_queued}
use Rattle.lock.specs.Call.{stored}
use Rattle.lock.specs.State.{State, word_at, with_word, with_queue, with_threads, goes, holding, woken}
use Rattle.cells.specs.View.{state_of, Shaped}
use Rattle.rows.specs.Outcome.{Roomy}
use Rattle.plain_model.specs.declared.Root.{Root}
use Rattle.plain_model.specs.Plain.{Plain}

-- a root of the plain engine as a word, (count, 0, state), and back
abbrev pub root_word : Root → Word
root_word v = record { direct = v.count; tree = 0; closed = v.closed }

abbrev pub root_of : Word → Root
root_of v = record { count = v.direct; closed = v.closed }

-- The lock's state that stands for the plain engine's state p: its root in word 0, the other words 0, the mutex free
-- between calls.
abbrev pub lock_of : Plain → State
lock_of p =
    record {
      words = root_word p.root ∷ replicate 31 (opened 0 0);
      mutex = none;
      queue = p.queue;
      threads = p.threads;
    }

-- and back
abbrev pub plain_of : State → Plain
plain_of s = record { root = root_of (word_at s 0); queue = s.queue; threads = s.threads }

-- the lock stands for p
pub record Stands (l : List ℕ) (p : Plain) : Type 0 where
  pub lock : state_of l ≡ lock_of p
  pub shaped : Shaped l

-- ---- within a call

-- thread t is idle; a group that it took, if it took one, holds
abbrev pub passed : State → ℕ → Option Group → State
passed s t none = goes s t Idle
passed s t (some g) = goes (with_threads s (woken (holding g) g.members s.threads)) t Idle

-- the writer who has waited longest leaves the queue and holds, if there is one
abbrev pub passed_to_writer : State → ℕ → State
passed_to_writer s t = passed (with_queue s (without_longest s.queue)) t (longest s.queue.writers)

-- the set b of readers, who were queued, holds, and the root has their number
abbrev pub passed_to_readers : State → ℕ → ℕ → State
passed_to_readers s t b = passed (with_queue (with_word s 0 (stored (size b) (writer_queued s.queue)))
    (without_readers s.queue)) t (some (readers b))

-- the lock stands for a state of the plain engine, thread t is one of 64, and the counts have room
pub record At (l : List ℕ) (t : ℕ) : Type 0 where
  pub stands : Stands l (plain_of (state_of l))
  pub there : t < 64
  pub room : Roomy (get_or l 0 0)
