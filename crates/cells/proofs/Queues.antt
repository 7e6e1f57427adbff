-- The code's queue and who waits: what a row sees of the queue, and what each operation does.
use Rattle.lock.proofs.Library.{ℕ, zero, suc, ◌+◌, ◌-◌, ◌<◌, min, ◌≡◌, refl, sym, ap, ◌∙◌, List, [], ◌∷◌, ◌++◌, none}
use Rattle.lock.proofs.Library.{some, arith, ℕ_discrete, eqb, length, get_or, set, length-set, get_or-set_same}
use Rattle.std.specs.Prelude.{if◌then◌else◌}
use Rattle.lock.{proofs.Library.{get_or-set_other, ne_eqb}}
use Rattle.lock.specs.Queue.{without_longest, writer, only, with_readers, join_writer, longest, behind_longest}
use Rattle.cells.specs.Kept.{after, ring_from, waiters_of, Queue, ahead, Kept, Holds}
use Rattle.cells.proofs.Ring.{ring_long, after-lt, ring-joined}

-- every place still has a thread's number once t is put into one
numbers-set : (r : List ℕ) (p t : ℕ)
    → p < length r → t < 64 → ((i : ℕ) → get_or r i 0 < 64) → (i : ℕ) → get_or (set r p t) i 0 < 64
numbers-set r p t l m h i = elim (ℕ_discrete i p) [
  | yes e ↦ rw (e, get_or-set_same r p t 0 l) m
  | no n ↦ rw (get_or-set_other r p i t 0 n) (h i)
]

module _ {q : Queue} (k : Kept q) where
  writers-are : (waiters_of q).writers ≡ ring_from q.ring q.first q.writers
  writers-are =
      let e : min q.writers 64 ≡ q.writers = omega (arith, k.within) in ap (ring_from q.ring q.first) e

  -- ---- what a row sees of the queue

  pub writers-long : length (waiters_of q).writers ≡ q.writers
  writers-long = ap length writers-are ∙ ring_long q.ring q.first q.writers

  pub longest-is : (if eqb q.writers 0 then none else some (writer (only (get_or q.ring q.first 0))))
      ≡ longest (waiters_of q).writers
  longest-is = from q.writers ∙ sym (ap longest writers-are)
    where
      from : (n : ℕ) → (if eqb n 0 then none else some (writer (only (get_or q.ring q.first 0))))
          ≡ longest (ring_from q.ring q.first n)
      from zero = refl
      from (suc n) = rw (ne_eqb (suc n) 0 (λ e. omega arith))

  -- ---- the readers: the ring stays as it is, whoever joins or leaves

  pub readers-hold : (b : ℕ) → Holds (record { readers = b; ring = q.ring; first = q.first; writers = q.writers })
      (with_readers b (waiters_of q))
  readers-hold b = record {
    kept =
        record { within = k.within; long = k.long; inside = k.inside; numbers = k.numbers };
    waiting = refl;
  }

  -- ---- a writer joins

  pub writer-holds : (t p : ℕ) → q.writers < 64 → t < 64 → p ≡ ahead q.first q.writers → p < 64
      → Holds (record { readers = q.readers; ring = set q.ring p t; first = q.first; writers = q.writers + 1 })
      (join_writer t (waiters_of q))
  writer-holds t p room lt is l =
      let m : min (q.writers + 1) 64 ≡ suc q.writers = omega arith in
      record {
        kept =
            record {
              within = omega arith;
              long = length-set q.ring p t ∙ k.long;
              inside = k.inside;
              numbers = numbers-set q.ring p t (omega (arith, k.long)) lt k.numbers;
            };
        waiting =
            rw (is, m) (ap (λ (ws : List ℕ). record { readers = q.readers; writers = ws; waiting = q.writers + 1 })
            (ring-joined q.ring q.first q.writers t k.long k.inside room
            ∙ ap (λ (ws : List ℕ). ws ++ t ∷ []) (sym writers-are)));
      }

  -- ---- the writer who has waited longest leaves

  pub no-writer : q.writers ≡ 0 → Holds q (without_longest (waiters_of q))
  no-writer e = record { kept = k; waiting = rw e }

  pub longest-gone : (p : ℕ) → (q.writers ≡ 0 → ⊥) → p ≡ after q.first
      → Holds (record { readers = q.readers; ring = q.ring; first = p; writers = q.writers - 1 })
      (without_longest (waiters_of q))
  longest-gone p ne is =
      let m : min (q.writers - 1) 64 ≡ q.writers - 1 = omega (arith, k.within) in
      record {
        kept = record {
          within = omega (arith, k.within);
          long = k.long;
          inside = rw is (after-lt q.first k.inside);
          numbers = k.numbers;
        };
        waiting =
            rw (is, m) (ap (λ (ws : List ℕ). record { readers = q.readers; writers = ws; waiting = q.writers - 1 })
            (from q.writers ne ∙ sym (ap behind_longest writers-are)));
      }
    where
      from : (n : ℕ) → (n ≡ 0 → ⊥)
          → ring_from q.ring (after q.first) (n - 1) ≡ behind_longest (ring_from q.ring q.first n)
      from zero h = absurd (h refl)
      from (suc n) h = let e : suc n - 1 ≡ n = omega arith in ap (ring_from q.ring (after q.first)) e
