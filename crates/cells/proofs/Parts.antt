-- The parts of the state that an array stands for, and which of them stay where cells do.
use Rattle.lock.proofs.Library.{ℕ, ◌+◌, ◌*◌, ◌≤◌, ◌<◌, ◌≡◌, refl, ◌∙◌, List, Option, arith, length, get_or, take, drop}
use Rattle.lock.proofs.Library.{List·getD-eq-default, length-take, length-drop, get_or-take, get_or-drop, ext_get_or}
use Rattle.lock.specs.{declared.Word.Word, declared.Thread.Thread, Word.opened, Queue.Waiters, State.{State, fresh_thread, thread_at, word_at}}
use Rattle.cells.specs.{Kept.{holder, waiters_of}, View.{word_of, thread_of, queue_of, table, state_of, Shaped}}
use Rattle.cells.specs.View.{mutex_at, queued_readers, queued_writers}
use Rattle.cells.proofs.Tables.{length-table, at, alike}

-- ---- the parts

pub thread-is : (l : List ℕ) (t : ℕ) → t < 64 → thread_at (state_of l) t ≡ thread_of l t
unfolding state_of
thread-is l t h = at (thread_of l) 64 t fresh_thread h

-- a thread that there is not is as a fresh one
pub no-thread : (l : List ℕ) (t : ℕ) → 64 ≤ t → thread_at (state_of l) t ≡ fresh_thread
unfolding state_of
no-thread l t h =
    List·getD-eq-default (table (thread_of l) 0 64) fresh_thread {n = t} (rw (length-table (thread_of l) 0 64) h)

pub word-is : (l : List ℕ) (w : ℕ) → w < 32 → word_at (state_of l) w ≡ word_of (get_or l w 0)
unfolding state_of
word-is l w h = at (λ (i : ℕ). word_of (get_or l i 0)) 32 w (opened 0 0) h

pub mutex-is : (l : List ℕ) → (state_of l).mutex ≡ holder (mutex_at l)
unfolding state_of
mutex-is l = refl

pub queue-is : (l : List ℕ) → (state_of l).queue ≡ waiters_of (queue_of l)
unfolding state_of
queue-is l = refl

pub readers-are : (l : List ℕ) → (state_of l).queue.readers ≡ queued_readers l
unfolding state_of
readers-are l = refl

pub waiting-is : (l : List ℕ) → (state_of l).queue.waiting ≡ queued_writers l
unfolding state_of
waiting-is l = refl

pub words_long : (l : List ℕ) → length (state_of l).words ≡ 32
unfolding state_of
words_long l = length-table (λ (w : ℕ). word_of (get_or l w 0)) 0 32

pub threads-long : (l : List ℕ) → length (state_of l).threads ≡ 64
unfolding state_of
threads-long l = length-table (thread_of l) 0 64

-- states by their parts
pub by_parts : {ws ws' : List Word} {m m' : Option ℕ} {q q' : Waiters} {hs hs' : List Thread}
    → ws ≡ ws' → m ≡ m' → q ≡ q' → hs ≡ hs'
    → ◌≡◌ {A = State} (record { words = ws; mutex = m; queue = q; threads = hs })
    (record { words = ws'; mutex = m'; queue = q'; threads = hs' })
by_parts a b c d = rw (a, b, c, d)

-- ---- what stays where its cells do

module _ (l l' : List ℕ) where
  pub words_same : ((j : ℕ) → j < 32 → get_or l' j 0 ≡ get_or l j 0)
      → table (λ (w : ℕ). word_of (get_or l' w 0)) 0 32 ≡ table (λ (w : ℕ). word_of (get_or l w 0)) 0 32
  words_same h = alike (λ (w : ℕ). word_of (get_or l' w 0)) (λ (w : ℕ). word_of (get_or l w 0)) 32 (λ w b. rw (h w b))

  pub threads-same : ((j : ℕ) → 128 ≤ j → get_or l' j 0 ≡ get_or l j 0) → table (thread_of l') 0 64 ≡ table (thread_of l) 0 64
  threads-same h =
      alike (thread_of l') (thread_of l) 64
      (λ u b. let at : (k : ℕ) → get_or l' (64 * (k + 2) + u) 0 ≡ get_or l (64 * (k + 2) + u) 0 =
      (λ k. h (64 * (k + 2) + u) (omega arith)) in
      rw (at 0, at 1, at 2, at 3, at 4, at 5))

  ring-same : length l' ≡ length l
      → ((j : ℕ) → 64 ≤ j → j < 128 → get_or l' j 0 ≡ get_or l j 0) → take 64 (drop 64 l') ≡ take 64 (drop 64 l)
  ring-same e h =
      ext_get_or 0 (take 64 (drop 64 l')) (take 64 (drop 64 l)) (simp (length-take, length-drop) (rw e))
      (λ i k. let b : i < 64 = omega (arith, k, length-take 64 (drop 64 l')) in
      rw (get_or-take 64 (drop 64 l') i 0 b, get_or-take 64 (drop 64 l) i 0 b, get_or-drop 64 l' i 0, get_or-drop 64 l i 0)
      (h (64 + i) (omega arith) (omega arith)))

  module _ (e : length l' ≡ length l) (h : (j : ℕ) → 33 ≤ j → j < 128 → get_or l' j 0 ≡ get_or l j 0) where
    pub queue-same : queue_of l' ≡ queue_of l
    queue-same = rw (
      h 33 (omega arith) (omega arith),
      h 34 (omega arith) (omega arith),
      h 35 (omega arith) (omega arith),
      ring-same e (λ j a b. h j (omega arith) b),
    )

    pub shaped-same : Shaped l → Shaped l'
    shaped-same s = record { long = e ∙ s.long; kept = rw queue-same s.kept }
