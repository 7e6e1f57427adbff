-- A store into a word or the mutex, and how it shows in the state.
use Rattle.lock.proofs.Library.{ℕ, ◌≤◌, ◌<◌, ◌≡◌, ap, ◌∙◌, List, Option, arith, get_or, set, length-set, get_or-set_same}
use Rattle.lock.{proofs.Library.get_or-set_other, specs.{declared.Word.Word, State.{with_word, with_mutex}}}
use Rattle.cells.specs.{Kept.{holder, waiters_of}, View.{word_of, table, state_of, Shaped, Leaves, mutex_at}}
use Rattle.cells.proofs.{Tables.but-one, Parts.{by_parts, words_same, threads-same, queue-same, shaped-same}}

-- a store before the queue's cells: queue and threads stay
module _ (l : List ℕ) (i v : ℕ) (s : Shaped l) (h : i < 33) where
  behind : (j : ℕ) → 33 ≤ j → get_or (set l i v) j 0 ≡ get_or l j 0
  behind j b = get_or-set_other l i j v 0 (λ z. omega arith)

  low-put : {ws : List Word} {m : Option ℕ}
      → table (λ (w : ℕ). word_of (get_or (set l i v) w 0)) 0 32 ≡ ws → holder (mutex_at (set l i v)) ≡ m
      → Leaves (set l i v)
      (record { words = ws; mutex = m; queue = (state_of l).queue; threads = (state_of l).threads })
  unfolding state_of
  low-put a b =
      record {
        state = by_parts a b (ap waiters_of (queue-same l (set l i v) (length-set l i v) (λ j x y. behind j x)))
            (threads-same l (set l i v) (λ j x. behind j (omega arith)));
        shaped = shaped-same l (set l i v) (length-set l i v) (λ j x y. behind j x) s;
      }

pub word-put : (w : ℕ) (l : List ℕ) (v : ℕ) → Shaped l → w < 32 → Leaves (set l w v) (with_word (state_of l) w (word_of v))
unfolding state_of
word-put w l v s h =
    low-put l w v s (omega arith)
    (but-one (λ (i : ℕ). word_of (get_or (set l w v) i 0))
    (λ (i : ℕ). word_of (get_or l i 0)) 32 w h (λ u m q. rw (get_or-set_other l w u v 0 q))
    ∙ rw (get_or-set_same l w v 0 (omega (arith, s.long))))
    (ap holder (get_or-set_other l w 32 v 0 (λ z. omega arith)))

pub mutex-put : (l : List ℕ) (m : ℕ) → Shaped l → Leaves (set l 32 m) (with_mutex (state_of l) (holder m))
unfolding state_of
mutex-put l m s =
    low-put l 32 m s (omega arith)
    (words_same l (set l 32 m) (λ j b. get_or-set_other l 32 j m 0 (λ z. omega arith)))
    (ap holder (get_or-set_same l 32 m 0 (omega (arith, s.long))))
