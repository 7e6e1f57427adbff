-- Records and the locks that they stand for.
use Rattle.lock.proofs.Library.{ℕ, zero, suc, ◌+◌, ◌*◌, ◌/◌, ◌%◌, ◌≤◌, ◌<◌, ◌≡◌, refl, sym, ap, ◌∙◌, List, [], ◌∷◌}
use Rattle.lock.proofs.Library.{map, arith, ℕ_discrete, dec_lt, length, get_or, set, replicate, length-set}
use lib.{Bits.{bit_or, bit_xor, or_add_and, xor_add_and, and_le_l, and_le_r}}
use Rattle.lock.proofs.Library.{length-replicate, get_or-set_same, get_or-set_other, ext_get_or}
use Rattle.cells.specs.{Kept.{holder, waiters_of}, View.{table, thread_of, state_of}}
use Rattle.cells.proofs.{Parts.{by_parts, words_same, queue-same}, Tables.alike}
use Rattle.laws.specs.Forget.{forget_thread, Alike}
use Rattle.explore_store.specs.Store.{record_at, puts, stored, with_lock, with_thread, with_pair, lock_of, state_in}
use Rattle.explore_store.specs.Store.{SameKey, Before}
use Rattle.explore_store.specs.declared.Record.{Record}

-- ---- two locks of 512 numbers that are the same but for failures

record Near (l l' : List ℕ) : Type 0 where
  pub long : length l ≡ 512
  pub other : length l' ≡ 512
  pub low : (c : ℕ) → c < 448 → get_or l c 0 ≡ get_or l' c 0

near-set : {l l' : List ℕ} → Near l l' → (p v : ℕ) → p < 512 → Near (set l p v) (set l' p v)
near-set {l} {l'} n p v h = record {
  long = length-set l p v ∙ n.long;
  other = length-set l' p v ∙ n.other;
  low = λ c b. elim (ℕ_discrete c p) [
    | yes e ↦ rw (e, get_or-set_same l p v 0 (omega (arith, n.long)), get_or-set_same l' p v 0 (omega (arith, n.other)))
    | no e ↦ get_or-set_other l p c v 0 e ∙ n.low c b ∙ sym (get_or-set_other l' p c v 0 e)
  ];
}

near-failures : {l l' : List ℕ} → Near l l' → (t v w : ℕ) → Near (set l (448 + t) v) (set l' (448 + t) w)
near-failures {l} {l'} n t v w = record {
  long = length-set l (448 + t) v ∙ n.long;
  other = length-set l' (448 + t) w ∙ n.other;
  low = λ c b. get_or-set_other l (448 + t) c v 0 (λ e. omega arith) ∙ n.low c b
      ∙ sym (get_or-set_other l' (448 + t) c w 0 (λ e. omega arith));
}

near-thread : {l l' : List ℕ} → Near l l' → (t x f g : ℕ) → t < 64 → Near (with_thread l t x f) (with_thread l' t x g)
near-thread n t x f g h =
    near-failures (near-set (near-set (near-set (near-set (near-set (near-set n
    (128 + t) _ (omega arith)) (192 + t) _ (omega arith)) (256 + t) _ (omega arith)) (320 + t) _ (omega arith))
    (384 + t) _ (omega arith)) (64 + t) _ (omega arith)) t f g

near-pair : {l l' : List ℕ} → Near l l' → (t x f g : ℕ) → t < 63 → Near (with_pair l t x f) (with_pair l' t x g)
near-pair n t x f g h =
    near-thread (near-thread n t (x % 4294967296) (f % 65536) (g % 65536) (omega arith))
    (t + 1) (x / 4294967296) (f / 65536 % 65536) (g / 65536 % 65536) (omega arith)

near-itself : (l : List ℕ) → length l ≡ 512 → Near l l
near-itself l e = record { long = e; other = e; low = λ c b. refl }

map-table : {A B : Type 0} (f : A → B) (g : ℕ → A) (k n : ℕ) → map f (table g k n) ≡ table (λ (i : ℕ). f (g i)) k n
unfolding table
map-table f g k zero = refl
map-table f g k (suc n) = ap (λ (xs : List _). f (g k) ∷ xs) (map-table f g (suc k) n)

near-alike : {l l' : List ℕ} → Near l l' → Alike (state_of l) (state_of l')
unfolding state_of
near-alike {l} {l'} n =
    by_parts (words_same l' l (λ j b. n.low j (omega arith))) (ap holder (n.low 32 (omega arith)))
    (ap waiters_of (queue-same l' l (n.long ∙ sym n.other) (λ j a b. n.low j (omega arith))))
    (map-table forget_thread (thread_of l) 0 64
    ∙ alike (λ (t : ℕ). forget_thread (thread_of l t)) (λ (t : ℕ). forget_thread (thread_of l' t)) 64
    (λ u b. let at : (k : ℕ) → k < 5 → get_or l (64 * (k + 2) + u) 0 ≡ get_or l' (64 * (k + 2) + u) 0 =
    (λ k m. n.low (64 * (k + 2) + u) (omega arith)) in
    rw (at 0 (omega arith), at 1 (omega arith), at 2 (omega arith), at 3 (omega arith), at 4 (omega arith)))
    ∙ sym (map-table forget_thread (thread_of l') 0 64))

-- ---- the lock of a record

length-locked : (l : List ℕ) (x : ℕ) → length l ≡ 512 → length (with_lock l x) ≡ 512
length-locked l x e = simp length-set e

length-paired : (l : List ℕ) (t x f : ℕ) → length l ≡ 512 → t < 63 → length (with_pair l t x f) ≡ 512
length-paired l t x f e h = (near-pair (near-itself l e) t x f f h).long

pub length-thread : (l : List ℕ) (t x f : ℕ) → length l ≡ 512 → length (with_thread l t x f) ≡ 512
length-thread l t x f e = simp length-set e

pub locked-whole : {l : List ℕ} (x : ℕ) → l ≡ with_lock (replicate 512 0) x → length l ≡ 512
locked-whole x e = rw e (length-locked (replicate 512 0) x (length-replicate {A = ℕ} 512 0))

pub paired-whole : (l : List ℕ) {l' : List ℕ} (t x f : ℕ) → t < 63 → length l ≡ 512 → l' ≡ with_pair l t x f → length l' ≡ 512
paired-whole l t x f h w e = rw e (length-paired l t x f w h)

-- the lock, then pair after pair
pub unpacked : (r : Record) {l₀ l₁ l₂ l₃ l₄ : List ℕ} → l₀ ≡ with_lock (replicate 512 0) r.lock
    → l₁ ≡ with_pair l₀ 0 r.first r.failures → l₂ ≡ with_pair l₁ 2 r.second (r.failures / 4294967296)
    → l₃ ≡ with_pair l₂ 4 r.third r.others → l₄ ≡ with_pair l₃ 6 r.fourth (r.others / 4294967296) → l₄ ≡ lock_of r
unfolding lock_of
unpacked r e₀ e₁ e₂ e₃ e₄ = rw (e₄, e₃, e₂, e₁, e₀)

-- records with the same key: their locks differ in failures alone
near-keys : (a b : Record) → SameKey a b → Near (lock_of a) (lock_of b)
unfolding lock_of
near-keys a b k =
    rw (k.lock, k.first, k.second, k.third, k.fourth)
    (near-pair (near-pair (near-pair (near-pair
    (near-itself (with_lock (replicate 512 0) b.lock)
    (length-locked (replicate 512 0) b.lock (length-replicate {A = ℕ} 512 0)))
    0 b.first a.failures b.failures (omega arith))
    2 b.second (a.failures / 4294967296) (b.failures / 4294967296) (omega arith))
    4 b.third a.others b.others (omega arith))
    6 b.fourth (a.others / 4294967296) (b.others / 4294967296) (omega arith))

pub length-lock : (r : Record) → length (lock_of r) ≡ 512
length-lock r =
    (near-keys r r (record { lock = refl; first = refl; second = refl; third = refl; fourth = refl })).long

pub locks-alike : (a b : Record) → SameKey a b → Alike (state_of (lock_of a)) (state_of (lock_of b))
locks-alike a b k = near-alike (near-keys a b k)

pub key-alike : (a b : Record) → SameKey a b → Alike (state_in a) (state_in b)
unfolding state_in
key-alike a b k = near-alike (near-keys a b k)

-- ---- stores

pub before-refl : (n : ℕ) (st : List ℕ) → Before n st st
before-refl n st = record { long = refl; same = λ k h. refl }

length-puts : (st : List ℕ) (p k : ℕ) (xs : List ℕ) → length (puts st p k xs) ≡ length st
length-puts st p k [] = refl
length-puts st p k (x ∷ xs) = length-puts (set st (p + k) x) p (suc k) xs ∙ length-set st (p + k) x

-- numbers before them stay
puts-other : (st : List ℕ) (p k : ℕ) (xs : List ℕ) (q : ℕ) → q < p + k → get_or (puts st p k xs) q 0 ≡ get_or st q 0
puts-other st p k [] q h = refl
puts-other st p k (x ∷ xs) q h =
    puts-other (set st (p + k) x) p (suc k) xs q (omega arith)
    ∙ get_or-set_other st (p + k) q x 0 (λ e. omega arith)

-- and they are there
puts-same : (st : List ℕ) (p k : ℕ) (xs : List ℕ) (j : ℕ) → j < length xs → p + k + length xs ≤ length st
    → get_or (puts st p k xs) (p + (k + j)) 0 ≡ get_or xs j 0
puts-same st p k [] j h l = absurd (omega arith)
puts-same st p k (x ∷ xs) zero h l =
    let e : p + (k + 0) ≡ p + k = omega arith in
    rw e (puts-other (set st (p + k) x) p (suc k) xs (p + k) (omega arith) ∙ get_or-set_same st (p + k) x 0 (omega arith))
puts-same st p k (x ∷ xs) (suc j) h l =
    let e : p + (k + suc j) ≡ p + (suc k + j) = omega arith in
    rw e (puts-same (set st (p + k) x) p (suc k) xs j (omega arith) (omega (arith, length-set st (p + k) x)))

module _ (st : List ℕ) (n : ℕ) (r : Record) where
  abbrev numbers : List ℕ
  numbers =
      r.head ∷ r.failures ∷ r.others ∷ r.lock ∷ r.first ∷ r.second ∷ r.third ∷ r.fourth ∷ []

  abbrev new : ℕ → ℕ
  new p = get_or (puts st (8 * n) 0 numbers) p 0

  pub before-stored : Before n st (stored st n r)
  before-stored = record {
    long = length-puts st (8 * n) 0 numbers;
    same = λ i h.
        let at : (p : ℕ) → p < 8 * n → new p ≡ get_or st p 0 =
        (λ p b. puts-other st (8 * n) 0 numbers p (omega arith)) in
        rw (
          at (8 * i) (omega arith),
          at (8 * i + 1) (omega arith),
          at (8 * i + 2) (omega arith),
          at (8 * i + 3) (omega arith),
          at (8 * i + 4) (omega arith),
          at (8 * i + 5) (omega arith),
          at (8 * i + 6) (omega arith),
          at (8 * i + 7) (omega arith),
        );
  }

  pub stored_there : 8 * n + 8 ≤ length st → record_at (stored st n r) n ≡ r
  stored_there room =
      let at : (k : ℕ) → k < 8 → new (8 * n + (0 + k)) ≡ get_or numbers k 0 =
      (λ k b. puts-same st (8 * n) 0 numbers k b (omega arith)) in
      let e : 8 * n ≡ 8 * n + (0 + 0) = omega arith in
      let first : new (8 * n) ≡ r.head = ap new e ∙ at 0 (omega arith) in
      rw (
        first,
        at 1 (omega arith),
        at 2 (omega arith),
        at 3 (omega arith),
        at 4 (omega arith),
        at 5 (omega arith),
        at 6 (omega arith),
        at 7 (omega arith),
      )

-- ---- two locks, number by number

equal-more : (a b : List ℕ) (j : ℕ) → ((k : ℕ) → k < j → get_or a k 0 ≡ get_or b k 0)
    → get_or a j 0 ≡ get_or b j 0 → (k : ℕ) → k < j + 1 → get_or a k 0 ≡ get_or b k 0
equal-more a b j h e k l = elim (dec_lt k j) [
  | yes m ↦ h k m
  | no m ↦ let q : k ≡ j = omega arith in rw q e
]

pub equal-whole : (a b : List ℕ) (n j : ℕ) → length a ≡ n → length b ≡ n → n ≤ j
    → ((k : ℕ) → k < j → get_or a k 0 ≡ get_or b k 0) → a ≡ b
equal-whole a b n j p q l h = ext_get_or 0 a b (p ∙ sym q) (λ k m. h k (omega arith))

-- no bit of either is set
or-none : (a b : ℕ) → bit_or a b ≡ 0 → (a ≡ 0) × (b ≡ 0)
or-none a b e =
    let h = or_add_and a b in
    let l = and_le_l a b in
    let m = and_le_r a b in (omega arith, omega arith)

-- they differ in no bit
xor-none : (a b : ℕ) → bit_xor a b ≡ 0 → a ≡ b
xor-none a b e =
    let h = xor_add_and a b in
    let l = and_le_l a b in
    let m = and_le_r a b in omega arith

-- the number at j was compared: the bits that differ are gathered
pub compared : (a b : List ℕ) (j d : ℕ) → (d ≡ 0 → (k : ℕ) → k < j → get_or a k 0 ≡ get_or b k 0)
    → bit_or d (bit_xor (get_or a j 0) (get_or b j 0)) ≡ 0 → (k : ℕ) → k < j + 1 → get_or a k 0 ≡ get_or b k 0
compared a b j d h e =
    let p = or-none d (bit_xor (get_or a j 0) (get_or b j 0)) e in
    equal-more a b j (h p.0) (xor-none (get_or a j 0) (get_or b j 0) p.1)
