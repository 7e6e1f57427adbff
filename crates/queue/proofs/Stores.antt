-- A store into the queue's cells, and how it shows in the state.
use Rattle.lock.proofs.Library.{ℕ, ◌+◌, ◌-◌, ◌≤◌, ◌<◌, ◌≡◌, refl, ap, ◌∙◌, ◌≢◌, List, arith, length, get_or, set}
use Rattle.lock.proofs.Library.{length-set, get_or-set_same, get_or-set_other, drop, drop-set-lt, drop-set-add, take-set-lt}
use Rattle.lock.specs.{State.with_queue, Queue.{Waiters, with_readers, join_writer, without_longest}}
use Rattle.cells.specs.Kept.{holder, after, ahead, Holds}
use Rattle.cells.specs.View.{queue_of, state_of, Shaped, Leaves, first_place, queued_writers}
use Rattle.cells.proofs.{Parts.{queue-is, by_parts, words_same, threads-same}}
use Rattle.cells.proofs.Queues.{readers-hold, writer-holds, longest-gone}

-- l' is l but for the queue's cells
record Beside (l l' : List ℕ) : Type 0 where
  long : length l' ≡ length l
  low : (j : ℕ) → j < 33 → get_or l' j 0 ≡ get_or l j 0
  high : (j : ℕ) → 128 ≤ j → get_or l' j 0 ≡ get_or l j 0

unchanged : (l : List ℕ) → Beside l l
unchanged l = record { long = refl; low = λ j h. refl; high = λ j h. refl }

beside : (i x : ℕ) → 33 ≤ i → i < 128 → {l l' : List ℕ} → Beside l l' → Beside l (set l' i x)
beside i x a b {l} {l'} o =
    record {
      long = length-set l' i x ∙ o.long;
      low = λ j h. get_or-set_other l' i j x 0 (λ z. omega arith) ∙ o.low j h;
      high = λ j h. get_or-set_other l' i j x 0 (λ z. omega arith) ∙ o.high j h;
    }

module _ (l : List ℕ) (s : Shaped l) where
  -- w wait now
  queue-put : {l' : List ℕ} {w : Waiters} → Beside l l' → Holds (queue_of l') w → Leaves l' (with_queue (state_of l) w)
  unfolding state_of
  queue-put {l'} o k =
      record {
        state = by_parts (words_same l l' (λ j b. o.low j (omega arith)))
            (ap holder (o.low 32 (omega arith))) k.waiting (threads-same l l' o.high);
        shaped = record { long = o.long ∙ s.long; kept = k.kept };
      }

  -- the set of readers
  pub readers-put : (b : ℕ) → Leaves (set l 33 b) (with_queue (state_of l) (with_readers b (state_of l).queue))
  readers-put b =
      rw (queue-is l)
      (queue-put (beside 33 b (omega arith) (omega arith) (unchanged l))
      (rw (
        get_or-set_same l 33 b 0 (omega (arith, s.long)),
        get_or-set_other l 33 34 b 0 (λ z. omega arith),
        get_or-set_other l 33 35 b 0 (λ z. omega arith),
        drop-set-lt 64 l 33 b (omega arith),
      ) (readers-hold s.kept b)))

  -- a writer joins
  pub writer-put : (t p n : ℕ) → queued_writers l < 64 → t < 64 → p ≡ ahead (first_place l) (queued_writers l) → p < 64
      → n ≡ queued_writers l + 1
      → Leaves (set (set l (64 + p) t) 35 n) (with_queue (state_of l) (join_writer t (state_of l).queue))
  writer-put t p n room lt is b e =
      let l₁ = set l (64 + p) t in
      rw (queue-is l)
      (queue-put
      (beside 35 n (omega arith) (omega arith) (beside (64 + p) t (omega arith) (omega arith) (unchanged l)))
      (rw (
        get_or-set_same l₁ 35 n 0 (omega (arith, length-set l (64 + p) t, s.long)),
        get_or-set_other l₁ 35 33 n 0 (λ z. omega arith),
        get_or-set_other l₁ 35 34 n 0 (λ z. omega arith),
        drop-set-lt 64 l₁ 35 n (omega arith),
        get_or-set_other l (64 + p) 33 t 0 (λ z. omega arith),
        get_or-set_other l (64 + p) 34 t 0 (λ z. omega arith),
        drop-set-add 64 l p t,
        take-set-lt 64 (drop 64 l) p t b,
        e,
      ) (writer-holds s.kept t p room lt is b)))

  -- the writer who has waited longest leaves
  pub longest-out : (p n : ℕ) → queued_writers l ≢ 0 → p ≡ after (first_place l) → n ≡ queued_writers l - 1
      → Leaves (set (set l 34 p) 35 n) (with_queue (state_of l) (without_longest (state_of l).queue))
  longest-out p n some is e =
      let l₁ = set l 34 p in
      rw (queue-is l)
      (queue-put (beside 35 n (omega arith) (omega arith) (beside 34 p (omega arith) (omega arith) (unchanged l)))
      (rw (
        get_or-set_same l₁ 35 n 0 (omega (arith, length-set l 34 p, s.long)),
        get_or-set_other l₁ 35 33 n 0 (λ z. omega arith),
        get_or-set_other l₁ 35 34 n 0 (λ z. omega arith),
        drop-set-lt 64 l₁ 35 n (omega arith),
        get_or-set_same l 34 p 0 (omega (arith, s.long)),
        get_or-set_other l 34 33 p 0 (λ z. omega arith),
        drop-set-lt 64 l 34 p (omega arith),
        e,
      ) (longest-gone s.kept p some is)))
