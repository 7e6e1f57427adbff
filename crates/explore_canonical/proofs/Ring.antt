-- The ring is turned: the same writers wait, the longest at place 0.
use Rattle.lock.proofs.Library.{ℕ, zero, suc, ◌+◌, ◌≤◌, ◌<◌, min, ◌≡◌, refl, sym, ap, ap₂, ◌∙◌, ◌≢◌, ◌⊎◌, inl, inr, List}
use Rattle.lock.proofs.Library.{◌∷◌, arith, dec_lt, length, get_or, set, take, drop, length-set, length-take}
use Rattle.lock.proofs.Library.{length-drop, get_or-set_same, get_or-set_other, get_or-take, get_or-drop, lt-ltb, le-ltb}
use Rattle.lock.proofs.Library.{List·getD-eq-default}
use native.Mathlib.Numerals.{add-one}
use Rattle.cells.specs.Kept.{after, ahead, ring_from, holder, waiters_of}
use Rattle.cells.specs.View.{first_place, queued_writers, queue_of, state_of, Shaped, Leaves}
use Rattle.cells.proofs.Ring.{after-lt, placed}
use Rattle.cells.proofs.Parts.{by_parts, words_same, threads-same}
use Rattle.explore_canonical.specs.Form.{ring_or}

-- ---- places

ahead-lt : (i n : ℕ) → i < 64 → ahead i n < 64
ahead-lt i zero l = l
ahead-lt i (suc n) l = ahead-lt (after i) n (after-lt i l)

ahead-suc : (i n : ℕ) → ahead i (suc n) ≡ after (ahead i n)
ahead-suc i zero = refl
ahead-suc i (suc n) = ahead-suc (after i) n

ahead-zero : (j : ℕ) → j < 64 → ahead 0 j ≡ j
ahead-zero j l =
    let p = placed 0 j (omega arith) (omega arith) in
    let e : 0 + j ≡ j = omega arith in
    p.near (omega arith) ∙ e

-- the same numbers one after the other
ring-same : (r r' : List ℕ) (i i' n : ℕ)
    → ((j : ℕ) → j < n → get_or r' (ahead i' j) 0 ≡ get_or r (ahead i j) 0) → ring_from r' i' n ≡ ring_from r i n
ring-same r r' i i' zero h = refl
ring-same r r' i i' (suc n) h =
    ap₂ (λ (x : ℕ) (xs : List ℕ). x ∷ xs) (h 0 (omega arith))
    (ring-same r r' (after i) (after i') n (λ j l. h (suc j) (omega arith)))

-- ---- the loop: k places of the ring are set, from those of the lock as it was

pub record Turning (old l : List ℕ) (at k : ℕ) : Type 0 where
  pub within : k ≤ 64
  pub long : length l ≡ 512
  pub place : at ≡ ahead (first_place old) k
  pub near : at < 64
  pub first : first_place l ≡ 0
  pub done : (j : ℕ) → j < k → get_or l (64 + j) 0 ≡ ring_or old (ahead (first_place old) j) j (queued_writers old)
  pub rest : (j : ℕ) → j ≢ 34 → (j < 64) ⊎ (64 + k ≤ j) → get_or l j 0 ≡ get_or old j 0

pub turning : {old : List ℕ} → Shaped old → Turning old (set old 34 0) (get_or old 34 0) 0
turning {old} s = record {
  within = omega arith;
  long = length-set old 34 0 ∙ s.long;
  place = refl;
  near = s.kept.inside;
  first = get_or-set_same old 34 0 0 (omega (arith, s.long));
  done = λ j l. absurd (omega arith);
  rest = λ j n h. get_or-set_other old 34 j 0 0 n;
}

pub turning-more : {old l : List ℕ} {at k : ℕ} (at' x : ℕ) → Turning old l at k → k < 64
    → x ≡ ring_or old at k (queued_writers old) → at' ≡ after at → at' < 64 → Turning old (set l (64 + k) x) at' (k + 1)
turning-more {old} {l} {at} {k} at' x t lt e q near = record {
  within = omega arith;
  long = length-set l (64 + k) x ∙ t.long;
  place = q ∙ ap after t.place ∙ sym (ahead-suc (first_place old) k) ∙ ap (ahead (first_place old)) (sym (add-one k));
  near = near;
  first = get_or-set_other l (64 + k) 34 x 0 (λ z. omega arith) ∙ t.first;
  done = λ j b. elim (dec_lt j k) [
    | yes m ↦ get_or-set_other l (64 + k) (64 + j) x 0 (λ z. omega arith) ∙ t.done j m
    | no m ↦
        let i : j ≡ k = omega arith in
        rw i (get_or-set_same l (64 + k) x 0 (omega (arith, t.long))
        ∙ e ∙ ap (λ (y : ℕ). ring_or old y k (queued_writers old)) t.place)
  ];
  rest = λ j n h. elim h [
    | inl a ↦ get_or-set_other l (64 + k) j x 0 (λ z. omega arith) ∙ t.rest j n (inl a)
    | inr a ↦ get_or-set_other l (64 + k) j x 0 (λ z. omega arith) ∙ t.rest j n (inr (omega arith))
  ];
}

module _ {old l : List ℕ} {at k : ℕ} (s : Shaped old) (t : Turning old l at k) (lt : 64 ≤ k) where
  abbrev f : ℕ
  f = first_place old

  abbrev n : ℕ
  n = queued_writers old

  in-ring : (m : List ℕ) (j : ℕ) → j < 64 → get_or (take 64 (drop 64 m)) j 0 ≡ get_or m (64 + j) 0
  in-ring m j b = get_or-take 64 (drop 64 m) j 0 b ∙ get_or-drop 64 m j 0

  place-now : (j : ℕ) → j < 64 → get_or (take 64 (drop 64 l)) j 0 ≡ ring_or old (ahead f j) j n
  place-now j b = in-ring l j b ∙ t.done j (omega arith)

  readers-now : get_or l 33 0 ≡ get_or old 33 0
  readers-now = t.rest 33 (λ z. omega arith) (inl (omega arith))

  writers-now : queued_writers l ≡ n
  writers-now = t.rest 35 (λ z. omega arith) (inl (omega arith))

  writers-same : ring_from (take 64 (drop 64 l)) (first_place l) (min (queued_writers l) 64)
      ≡ ring_from (take 64 (drop 64 old)) f (min n 64)
  writers-same =
      ap₂ (λ (x y : ℕ). ring_from (take 64 (drop 64 l)) x (min y 64)) t.first writers-now
      ∙ ring-same (take 64 (drop 64 old)) (take 64 (drop 64 l)) f 0 (min n 64)
      (λ j b. let c : j < 64 = omega arith in
      let d : j < n = omega arith in
      ap (λ (x : ℕ). get_or (take 64 (drop 64 l)) x 0) (ahead-zero j c) ∙ place-now j c ∙ rw (lt-ltb j n d)
      (sym (in-ring old (ahead f j) (ahead-lt f j s.kept.inside))))

  waiters-same : waiters_of (queue_of l) ≡ waiters_of (queue_of old)
  waiters-same = rw (writers-same, writers-now, readers-now)

  numbers : (i : ℕ) → get_or (take 64 (drop 64 l)) i 0 < 64
  numbers i = elim (dec_lt i 64) [
    | yes b ↦ rw (place-now i b) (elim (dec_lt i n) [
      | yes c ↦ rw (lt-ltb i n c, ← in-ring old (ahead f i) (ahead-lt f i s.kept.inside)) (s.kept.numbers (ahead f i))
      | no c ↦ rw (le-ltb i n (omega arith)) (omega arith)
    ])
    | no b ↦
        let e : get_or (take 64 (drop 64 l)) i 0 ≡ 0 =
        List·getD-eq-default (take 64 (drop 64 l)) 0 {n = i} (omega (arith, length-take 64 (drop 64 l))) in
        omega arith
  ]

  pub turned : Leaves l (state_of old)
  unfolding state_of
  turned = record {
    state =
        by_parts (words_same old l (λ j b. t.rest j (λ z. omega arith) (inl (omega arith))))
        (ap holder (t.rest 32 (λ z. omega arith) (inl (omega arith)))) waiters-same
        (threads-same old l (λ j b. t.rest j (λ z. omega arith) (inr (let w = t.within in omega arith))));
    shaped = record {
      long = t.long;
      kept = record {
        within = rw writers-now s.kept.within;
        long = length-take 64 (drop 64 l) ∙ (let e = length-drop 64 l in let m = t.long in omega arith);
        inside = rw t.first (omega arith);
        numbers = numbers;
      };
    };
  }
