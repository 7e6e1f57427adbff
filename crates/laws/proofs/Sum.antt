-- Sums over a list, each element with its place; the bits of a set of threads.
use Rattle.laws.proofs.Lock.{ℕ, zero, suc, ◌+◌, ◌*◌, ◌/◌, ◌%◌, ◌^◌, ◌≤◌, ◌<◌, zero-le, max, ◌≡◌, refl, sym}
use Rattle.laws.proofs.Lock.{subst, ◌∙◌, ◌≢◌, List, [], ◌∷◌, le_refl, add-zero, not-suc-le-zero}
use Rattle.laws.proofs.Lock.{le_of_suc-le-suc, pow-suc, arith, ℕ_discrete, dec_lt, eqb, length, get_or, set}
use Rattle.std.specs.Prelude.{if◌then◌else◌}
use Rattle.laws.proofs.Lock.{replicate, eq-eqb, ne_eqb, size, if-both, dec-both}
use lib.Bits.{bit_or, or_step}
use lib.Count.{ones, ones_step, ones-le}
pub use Rattle.laws.specs.Sleeping.{bit_at}

module _ {A : Type 0} where
  abbrev pub sum_at : (ℕ → A → ℕ) → ℕ → List A → ℕ
  sum_at f i [] = 0
  sum_at f i (x ∷ xs) = f i x + sum_at f (suc i) xs

  -- one element changed
  pub sum-set : (f : ℕ → A → ℕ) (i : ℕ) (xs : List A) (t : ℕ) (x d : A)
      → t < length xs → sum_at f i (set xs t x) + f (i + t) (get_or xs t d) ≡ sum_at f i xs + f (i + t) x
  sum-set f i [] t x d h = absurd (not-suc-le-zero h)
  sum-set f i (y ∷ xs) zero x d h = rw (add-zero i) (omega arith)
  sum-set f i (y ∷ xs) (suc t) x d h =
      let e : suc i + t ≡ i + suc t = omega arith in
      let q = rw e at (sum-set f (suc i) xs t x d (le_of_suc-le-suc h)) in
      omega arith

  pub sum-mem : (f : ℕ → A → ℕ) (i : ℕ) (xs : List A) (t : ℕ) (d : A)
      → t < length xs → f (i + t) (get_or xs t d) ≤ sum_at f i xs
  sum-mem f i [] t d h = absurd (not-suc-le-zero h)
  sum-mem f i (y ∷ xs) zero d h = rw (add-zero i) (omega arith)
  sum-mem f i (y ∷ xs) (suc t) d h =
      let e : suc i + t ≡ i + suc t = omega arith in
      let q = rw e at (sum-mem f (suc i) xs t d (le_of_suc-le-suc h)) in
      omega arith

  -- each at most m
  pub sum-most : (f : ℕ → A → ℕ) (m i : ℕ) (xs : List A) (d : A)
      → ((j : ℕ) → f (i + j) (get_or xs j d) ≤ m) → sum_at f i xs ≤ m * length xs
  sum-most f m i [] d h = zero-le
  sum-most f m i (x ∷ xs) d h =
      omega (
        arith,
        rw (add-zero i) at (h 0),
        sum-most f m (suc i) xs d (λ j. let e : i + suc j ≡ suc i + j = omega arith in rw e at (h (suc j))),
      )

  -- each of one sum at most that of another
  pub sum-le : (f g : ℕ → A → ℕ) (i : ℕ) (xs : List A) → ((j : ℕ) (x : A) → f j x ≤ g j x) → sum_at f i xs ≤ sum_at g i xs
  sum-le f g i [] h = le_refl 0
  sum-le f g i (x ∷ xs) h = omega (arith, h i x, sum-le f g (suc i) xs h)

  -- two sums over lists that add alike
  pub sum_alike : (f : ℕ → A → ℕ) (i : ℕ) (xs ys : List A) (d : A) → length xs ≡ length ys
      → ((j : ℕ) → f (i + j) (get_or xs j d) ≡ f (i + j) (get_or ys j d)) → sum_at f i xs ≡ sum_at f i ys
  sum_alike f i [] [] d n h = refl
  sum_alike f i [] (y ∷ ys) d n h = absurd (omega arith)
  sum_alike f i (x ∷ xs) [] d n h = absurd (omega arith)
  sum_alike f i (x ∷ xs) (y ∷ ys) d n h =
      omega (
        arith,
        rw (add-zero i) at (h 0),
        sum_alike f (suc i) xs ys d (omega arith)
            (λ j. let e : i + suc j ≡ suc i + j = omega arith in rw e at (h (suc j))),
      )

  -- a sum above 0 has an element above 0
  pub sum-some : (f : ℕ → A → ℕ) (i : ℕ) (xs : List A) (d : A)
      → 0 < sum_at f i xs → (t : ℕ) × (0 < f (i + t) (get_or xs t d))
  sum-some f i [] d h = absurd (not-suc-le-zero h)
  sum-some f i (x ∷ xs) d h =
      dec-both (dec_lt 0 (f i x)) (λ a. (0, rw (add-zero i) a))
      (λ a. let (t, q) = sum-some f (suc i) xs d (omega arith) in
      let e : suc i + t ≡ i + suc t = omega arith in
      (suc t, subst (λ (j : ℕ). 0 < f j (get_or xs t d)) e q))

  pub sum_same : (f : ℕ → A → ℕ) (i n : ℕ) (x : A) → ((j : ℕ) → f j x ≡ 0) → sum_at f i (replicate n x) ≡ 0
  sum_same f i zero x h = refl
  sum_same f i (suc n) x h = omega (arith, h i, sum_same f (suc i) n x h)

-- ---- bits

-- 1 at k, 0 elsewhere
abbrev pub at : ℕ → ℕ → ℕ
at k c = if eqb c k then 1 else 0

pub at_self : (k : ℕ) → at k k ≡ 1
at_self k = rw (eq-eqb k k refl)

pub at_other : (k c : ℕ) → c ≢ k → at k c ≡ 0
at_other k c n = rw (ne_eqb c k n)

pub at-le : (k c : ℕ) → at k c ≤ 1
at-le k c = if-both (λ (x : ℕ). x ≤ 1) (eqb c k) (λ e. omega arith) (λ e. omega arith)

pub bit-or : (t a b : ℕ) → bit_at (bit_or a b) t ≡ max (bit_at a t) (bit_at b t)
bit-or zero a b = let q = or_step a b in omega arith
bit-or (suc t) a b =
    let q = or_step a b in
    let e : bit_or a b / 2 ≡ bit_or (a / 2) (b / 2) = omega arith in
    rw e (bit-or t (a / 2) (b / 2))

pub bit-zero : (t : ℕ) → bit_at 0 t ≡ 0
bit-zero zero = refl
bit-zero (suc t) = bit-zero t

pub bit_le : (t b : ℕ) → bit_at b t ≤ 1
bit_le zero b = omega arith
bit_le (suc t) b = bit_le t (b / 2)

pub bit-pow : (t u : ℕ) → bit_at (2 ^ t) u ≡ at t u
bit-pow zero zero = refl
bit-pow zero (suc u) = bit-zero u ∙ sym (at_other 0 (suc u) (λ e. omega arith))
bit-pow (suc t) zero =
    let e : 2 ^ suc t % 2 ≡ 0 = omega (arith, pow-suc 2 t) in e ∙ sym (at_other (suc t) 0 (λ e. omega arith))
bit-pow (suc t) (suc u) =
    let e : 2 ^ suc t / 2 ≡ 2 ^ t = omega (arith, pow-suc 2 t) in
    rw e (bit-pow t u ∙ dec-both (ℕ_discrete u t) (λ q. rw (q, eq-eqb t t refl) (sym (at_self (suc t))))
    (λ q. at_other t u q ∙ sym (at_other (suc t) (suc u) (λ e. q (omega arith)))))

pub pow_pos : (t : ℕ) → 0 < 2 ^ t
pow_pos zero = omega arith
pow_pos (suc t) = omega (arith, pow-suc 2 t, pow_pos t)

pub pow-lt : (t k : ℕ) → t < k → 2 ^ t < 2 ^ k
pow-lt t zero h = absurd (not-suc-le-zero h)
pow-lt zero (suc k) h = omega (arith, pow-suc 2 k, pow_pos k)
pow-lt (suc t) (suc k) h = omega (arith, pow-suc 2 k, pow-suc 2 t, pow-lt t k (le_of_suc-le-suc h))

-- ---- the size of a set

pub size_none : size 0 ≡ 0
unfolding size ones
size_none = refl

pub size_step : (b : ℕ) → size b ≡ b % 2 + size (b / 2)
unfolding size
size_step b = ones_step b

pub size-le : (k b : ℕ) → b < 2 ^ k → size b ≤ k
unfolding size
size-le k b h = ones-le k b h

pub size-pow : (t : ℕ) → size (2 ^ t) ≡ 1
unfolding size ones
size-pow zero = refl
size-pow (suc t) =
    let e : 2 ^ suc t / 2 ≡ 2 ^ t = omega (arith, pow-suc 2 t) in
    let o : 2 ^ suc t % 2 ≡ 0 = omega (arith, pow-suc 2 t) in
    let q = rw e at (ones_step (2 ^ suc t)) in
    omega (arith, size-pow t)

pub size-pos : (k b : ℕ) → 0 < b → b < 2 ^ k → 0 < size b
size-pos zero b h l = omega arith
size-pos (suc k) b h l =
    dec-both (dec_lt 0 (b / 2)) (λ a. omega (arith, size_step b, size-pos k (b / 2) a (omega (arith, pow-suc 2 k))))
    (λ a. omega (arith, size_step b))

-- the sum of f below n: over the bits of a set it is the set's size
abbrev pub sum_to : ℕ → (ℕ → ℕ) → ℕ
sum_to zero f = 0
sum_to (suc n) f = f 0 + sum_to n (λ u. f (suc u))

pub sum_to-bits : (n b : ℕ) → b < 2 ^ n → sum_to n (bit_at b) ≡ size b
sum_to-bits zero b h = let e : b ≡ 0 = omega arith in rw (e, size_none)
sum_to-bits (suc n) b h = omega (arith, size_step b, sum_to-bits n (b / 2) (omega (arith, pow-suc 2 n)))

pub sum_to-add : (n : ℕ) (f g : ℕ → ℕ) → sum_to n (λ u. f u + g u) ≡ sum_to n f + sum_to n g
sum_to-add zero f g = refl
sum_to-add (suc n) f g = omega (arith, sum_to-add n (λ u. f (suc u)) (λ u. g (suc u)))

pub sum_to-le : (n : ℕ) (f : ℕ → ℕ) → ((u : ℕ) → f u ≤ 1) → sum_to n f ≤ n
sum_to-le zero f h = zero-le
sum_to-le (suc n) f h = omega (arith, h 0, sum_to-le n (λ u. f (suc u)) (λ u. h (suc u)))
