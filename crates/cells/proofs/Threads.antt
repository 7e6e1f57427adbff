-- A thread's own cells are stored to: the state changes in that thread alone. One law for every column.
use Rattle.lock.proofs.Library.{ℕ, ◌+◌, ◌*◌, ◌%◌, ◌≤◌, ◌<◌, ◌≡◌, refl, ap, ◌∙◌, ◌≢◌, Bool, true, ◌&&◌, List, [], ◌∷◌}
use Rattle.lock.proofs.Library.{arith, ℕ_discrete, eqb, leb, ltb, length, get_or, set, length-set, get_or-set_same}
use Rattle.lock.proofs.Library.{get_or-set_other, eq-eqb, ne_eqb, leb-true, ltb-true}
use Rattle.std.specs.Prelude.{if◌then◌else◌}
use Rattle.lock.{specs.{declared.Thread.Thread, State.{with_threads, goes}}, proofs.Accepted.both}
use Rattle.cells.specs.{Kept.{holder, waiters_of}, View.{phase_of, failures, thread_of, state_of, Shaped, Leaves}}
use Rattle.cells.proofs.{Tables.but-one, Parts.{thread-is, by_parts, words_same, queue-same, shaped-same}}

-- l' is l but for thread t's cells: column k, from place 64 × k on, now has f k for it
pub record Own (t : ℕ) (l l' : List ℕ) (f : ℕ → ℕ) : Type 0 where
  pub long : length l' ≡ length l
  pub low : (j : ℕ) → j < 128 → get_or l' j 0 ≡ get_or l j 0
  pub others : (j : ℕ) → j % 64 ≢ t → get_or l' j 0 ≡ get_or l j 0
  pub own : (k : ℕ) → 2 ≤ k → k < 8 → get_or l' (64 * k + t) 0 ≡ f k

abbrev pub cells : List ℕ → ℕ → ℕ → ℕ
cells l t k = get_or l (64 * k + t) 0

-- column k has x for the thread
abbrev pub with : ℕ → ℕ → (ℕ → ℕ) → ℕ → ℕ
with k x f m = if eqb m k then x else f m

pub untouched : (t : ℕ) (l : List ℕ) → Own t l l (cells l t)
untouched t l = record { long = refl; low = λ j h. refl; others = λ j h. refl; own = λ k a b. refl }

pub stored : (k x : ℕ) → 2 ≤ k → k < 8 → {t : ℕ} {l l' : List ℕ} {f : ℕ → ℕ}
    → t < 64 → length l ≡ 512 → Own t l l' f → Own t l (set l' (64 * k + t) x) (with k x f)
stored k x a b {t} {l} {l'} {f} h n o =
    record {
      long = length-set l' (64 * k + t) x ∙ o.long;
      low = λ j i. get_or-set_other l' (64 * k + t) j x 0 (λ q. omega arith) ∙ o.low j i;
      others = λ j i. get_or-set_other l' (64 * k + t) j x 0 (λ q. i (omega arith)) ∙ o.others j i;
      own = λ m c d. elim (ℕ_discrete m k) [
        | yes e ↦ rw (eq-eqb m k e, e) (get_or-set_same l' (64 * k + t) x 0 (omega (arith, n, o.long)))
        | no e ↦ rw (ne_eqb m k e)
            (get_or-set_other l' (64 * k + t) (64 * m + t) x 0 (λ q. e (omega arith)) ∙ o.own m c d)
      ];
    }

module _ (t : ℕ) (l l' : List ℕ) (f : ℕ → ℕ) (s : Shaped l) (h : t < 64) (o : Own t l l' f) where
  -- the thread is what its cells say
  abbrev is : Thread
  is = record { phase = phase_of (f 2) (f 3) (f 4) (f 5) (f 6); failures = f 7 }

  thread-now : thread_of l' t ≡ is
  thread-now =
      rw (
        o.own 3 (omega arith) (omega arith),
        o.own 4 (omega arith) (omega arith),
        o.own 5 (omega arith) (omega arith),
        o.own 6 (omega arith) (omega arith),
        o.own 7 (omega arith) (omega arith),
        o.own 2 (omega arith) (omega arith),
      )

  other-thread : (u : ℕ) → u < 64 → u ≢ t → thread_of l' u ≡ thread_of l u
  other-thread u b q =
      let at : (k : ℕ) → get_or l' (64 * k + u) 0 ≡ get_or l (64 * k + u) 0 =
      (λ k. o.others (64 * k + u) (λ z. q (omega arith))) in
      rw (at 3, at 4, at 5, at 6, at 7, at 2)

  own-state : state_of l' ≡ with_threads (state_of l) (set (state_of l).threads t is)
  unfolding state_of
  own-state =
      by_parts (words_same l l' (λ w b. o.low w (omega arith))) (ap holder (o.low 32 (omega arith)))
      (ap waiters_of (queue-same l l' o.long (λ j a b. o.low j b)))
      (but-one (thread_of l') (thread_of l) 64 t h other-thread ∙ rw thread-now)

  pub thread-put : Leaves l' (with_threads (state_of l) (set (state_of l).threads t is))
  thread-put = record { state = own-state; shaped = shaped-same l l' o.long (λ j a b. o.low j b) s }

  -- it goes on, its failures being what they were
  pub thread-goes : f 7 ≡ failures l t → Leaves l' (goes (state_of l) t (phase_of (f 2) (f 3) (f 4) (f 5) (f 6)))
  thread-goes e = rw (thread-is l t h) (rw e at thread-put)

-- ---- stores to several of its columns, one after the other: a column and the number that goes there, each

abbrev pub storing : ℕ → List (ℕ × ℕ) → List ℕ → List ℕ
storing t [] l = l
storing t (s ∷ ss) l = storing t ss (set l (64 * s.0 + t) s.1)

abbrev pub holding : List (ℕ × ℕ) → (ℕ → ℕ) → ℕ → ℕ
holding [] f = f
holding (s ∷ ss) f = holding ss (with s.0 s.1 f)

-- they are columns of threads
abbrev pub columns : List (ℕ × ℕ) → Bool
columns [] = true
columns (s ∷ ss) = (leb 2 s.0 && ltb s.0 8) && columns ss

all-stored : (ss : List (ℕ × ℕ)) → columns ss ≡ true → {t : ℕ} {l l' : List ℕ} {f : ℕ → ℕ} → t < 64 → length l ≡ 512
    → Own t l l' f
    → Own t l (storing t ss l') (holding ss f)
all-stored [] e h n o = o
all-stored (s ∷ ss) e h n o =
    let (a, b) = both (leb 2 s.0 && ltb s.0 8) (columns ss) e in
    let (c, d) = both (leb 2 s.0) (ltb s.0 8) a in
    all-stored ss b h n (stored s.0 s.1 (leb-true _ _ c) (ltb-true _ _ d) h n o)

-- none of them is that of its failures: it goes on
module _ (ss : List (ℕ × ℕ)) (e : columns ss ≡ true) {l : List ℕ} (s : Shaped l) (t : ℕ) (h : t < 64) where
  abbrev f : ℕ → ℕ
  f = holding ss (cells l t)

  pub goes-storing : f 7 ≡ failures l t
      → Leaves (storing t ss l) (goes (state_of l) t (phase_of (f 2) (f 3) (f 4) (f 5) (f 6)))
  goes-storing = thread-goes t l _ _ s h (all-stored ss e h s.long (untouched t l))
