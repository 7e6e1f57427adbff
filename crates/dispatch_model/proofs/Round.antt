-- Whose turn it is: by going round the threads by number, and by the set of those that are able to move.
use Rattle.lock.proofs.Library.{ℕ, zero, suc, ◌+◌, ◌-◌, ◌≤◌, ◌<◌, ◌/◌, ◌^◌, ◌%◌, ◌≡◌, refl, subst, ap, ◌∙◌, sym, ◌≢◌}
use Rattle.lock.proofs.Library.{Option, none, some, arith, dec_le, dec_lt, eqb, lt-ltb, le-ltb, eq-eqb, ne_eqb, eqb-false}
use Rattle.lock.proofs.Library.{eqb-true, pow-suc, ◌⊎◌, inl, inr, List, [], ◌∷◌}
use Rattle.lock.proofs.Choice.{clash, if-both}
use Rattle.dispatch_model.specs.Dispatch.{Offer, behind, Turn, or_else, turn, Chooser, round, first_turn, turns_left}
use Rattle.dispatch_model.specs.Dispatch.{by_turns}
use lib.Count.{count_trailing_zeros}
use lib.Pow.{pow_mono, shr-shr, shr_le}
use Rattle.laws.proofs.Cases.{dec-both}
use Rattle.lock.proofs.Lowest.{odd, even, parity, lowest-odd, lowest-even}
use Rattle.laws.proofs.Sum.{bit_at, bit-zero}
use Rattle.dispatch_model.specs.{Code.pick, Claims.Sooner}

module _ (T : ℕ) where
  -- the thread that is m places behind t
  abbrev pub later : ℕ → ℕ → ℕ
  later zero t = t
  later (suc m) t = later m (behind T t)

  pub behind-lt : (t : ℕ) → t < T → behind T t < T
  behind-lt t l =
      if-both (λ (x : ℕ). x < T) (eqb (suc t) T) (λ e. omega arith) (λ e. let n = eqb-false (suc t) T e in omega arith)

  pub later-lt : (m t : ℕ) → t < T → later m t < T
  later-lt zero t l = l
  later-lt (suc m) t l = later-lt m (behind T t) (behind-lt t l)

  pub later-add : (m n t : ℕ) → later (m + n) t ≡ later n (later m t)
  later-add zero n t = let e : 0 + n ≡ n = omega arith in rw e
  later-add (suc m) n t = let e : suc m + n ≡ suc (m + n) = omega arith in rw e (later-add m n (behind T t))

  pub later-up : (m t : ℕ) → t + m < T → later m t ≡ t + m
  later-up zero t l = omega arith
  later-up (suc m) t l =
      let e : behind T t ≡ suc t = rw (ne_eqb (suc t) T (λ q. omega arith)) in
      rw e (later-up m (suc t) (omega arith) ∙ omega arith)

  pub around : (t : ℕ) → t < T → later (T - t) t ≡ 0
  around t l =
      let n : T - t ≡ (T - t - 1) + 1 = omega arith in
      let last : later (T - t - 1) t ≡ T - 1 = later-up (T - t - 1) t (omega arith) ∙ omega arith in
      let wraps : behind T (T - 1) ≡ 0 = rw (eq-eqb (suc (T - 1)) T (omega arith)) in
      rw (n, later-add (T - t - 1) 1 t, last, wraps)

  -- past the last thread, and u more places
  past : (t u : ℕ) → t < T → u < T → later ((T - t) + u) t ≡ u
  past t u l k = later-add (T - t) u t ∙ ap (later u) (around t l) ∙ later-up u 0 (omega arith) ∙ omega arith

  -- everybody is asked within T
  pub record Reached (t u : ℕ) : Type 0 where
    pub places : ℕ
    pub few : places < T
    pub there : later places t ≡ u

  pub reached : (t u : ℕ) → t < T → u < T → Reached t u
  reached t u l k = elim (dec_le t u) [
    | yes h ↦ record { places = u - t; few = omega arith; there = later-up (u - t) t (omega arith) ∙ omega arith }
    | no h ↦ record { places = (T - t) + u; few = omega arith; there = past t u l k }
  ]

  -- ---- who comes before whom

  -- u comes before the thread that is p places behind t: it is less than p places behind t
  pub sooner : (t u p : ℕ)
      → t < T → u < T → p < T → Sooner t u (later p t) → (m : ℕ) × (m < p) × (later m t ≡ u)
  sooner t u p l k few s = elim (dec_lt (t + p) T) [
    | yes h ↦ elim (rw (later-up p t h) at s) [
      | inl x ↦ higher p x.0 (omega (arith, x.0, x.1))
      | inr (inl x) ↦ absurd (omega (arith, x.1))
      | inr (inr x) ↦ absurd (omega (arith, x.0))
    ]
    | no h ↦
        let n : p ≡ (T - t) + (t + p - T) = omega arith in
        let v : later p t ≡ t + p - T = ap (λ (x : ℕ). later x t) n ∙ past t (t + p - T) l (omega arith) in
        elim (rw v at s) [
          | inl x ↦ absurd (omega (arith, x.0, x.1))
          | inr (inl x) ↦ ((T - t) + u, omega (arith, x.0), past t u l k)
          | inr (inr x) ↦ higher p x.1 (omega (arith, x.1))
        ]
  ]
    where
      higher : (p : ℕ) → t ≤ u → u - t < p → (m : ℕ) × (m < p) × (later m t ≡ u)
      higher p a b = (u - t, b, later-up (u - t) t (omega arith) ∙ omega arith)

  -- behind the last thread the round goes on with thread 0
  pub sooner-behind : (t u v : ℕ) → u < T → Sooner (suc t) u v → Sooner (behind T t) u v
  sooner-behind t u v l s =
      if-both (λ (x : ℕ). Sooner x u v) (eqb (suc t) T) (λ e. let last = eqb-true (suc t) T e in elim s [
        | inl x ↦ absurd (omega (arith, x.0))
        | inr (inl x) ↦ inl (omega arith, x.0)
        | inr (inr x) ↦ absurd (omega (arith, x.1))
      ]) (λ e. s)

  -- ---- the turn

  module _ (f : ℕ → Option Offer) where
    -- the turn is that of the first thread behind t that is offered a step
    pub record Found (k t : ℕ) (v : Turn) : Type 0 where
      pub places : ℕ
      pub few : places < k
      pub there : later places t ≡ v.thread
      pub offers : f v.thread ≡ some v.gets
      pub before : (j : ℕ) → j < places → f (later j t) ≡ none

    -- it is somebody's, or nobody is offered one
    abbrev Whose : ℕ → ℕ → Option Turn → Type 0
    Whose k t none = (m : ℕ) → m < k → f (later m t) ≡ none
    Whose k t (some v) = Found k t v

    whose-turn : (k t : ℕ) → Whose k t (turn T f k t)
    unfolding turn
    whose-turn zero t = λ m l. absurd (omega arith)
    whose-turn (suc k) t = from (f t) refl (turn T f k (behind T t)) (whose-turn k (behind T t))
      where
        nor-t : f t ≡ none → (n : ℕ) → ((j : ℕ) → j < n → f (later j (behind T t)) ≡ none)
            → (j : ℕ) → j < suc n → f (later j t) ≡ none
        nor-t e n h zero l = e
        nor-t e n h (suc j) l = h j (omega arith)

        from : (o : Option Offer) → f t ≡ o → (r : Option Turn) → Whose k (behind T t) r
            → Whose (suc k) t (or_else t r o)
        from (some o) e r h =
            let none_yet : (j : ℕ) → j < 0 → f (later j t) ≡ none = λ j l. absurd (omega arith) in
            record { places = 0; few = omega arith; there = refl; offers = e; before = none_yet }
        from none e none h = nor-t e k h
        from none e (some v) h =
            record {
              places = suc h.places;
              few = omega (arith, h.few);
              there = h.there;
              offers = h.offers;
              before = nor-t e h.places h.before;
            }

    pub turn-none : (k t m : ℕ) → turn T f k t ≡ none → m < k → f (later m t) ≡ none
    turn-none k t m q l = subst (Whose k t) q (whose-turn k t) m l

    pub found : (k t : ℕ) (v : Turn) → turn T f k t ≡ some v → Found k t v
    found k t v q = subst (Whose k t) q (whose-turn k t)

    pub turn-offer : (k t : ℕ) (v : Turn) → turn T f k t ≡ some v → f v.thread ≡ some v.gets
    turn-offer k t v q = (found k t v q).offers

    -- where it is not that of a thread which is offered a step m places behind t, that thread's is nearer after it
    pub turn-sooner : (k t m : ℕ) (v : Turn) → turn T f k t ≡ some v → f (later m t) ≢ none → v.thread ≢ later m t
        → (i : ℕ) × (i < m) × (later i (behind T v.thread) ≡ later m t)
    turn-sooner k t m v q n ne =
        let c = found k t v q in
        let le : c.places ≤ m =
        elim (dec_lt m c.places) [ yes l ↦ absurd (n (c.before m l)) | no l ↦ omega arith ] in
        let other : c.places ≢ m = λ e. ne (sym c.there ∙ ap (λ (x : ℕ). later x t) e) in
        let i = m - c.places - 1 in
        let sum : m ≡ (c.places + 1) + i = omega arith in (
          i,
          omega arith,
          sym (ap (λ (x : ℕ). later x t) sum ∙ later-add (c.places + 1) i t
              ∙ ap (later i) (later-add c.places 1 t ∙ ap (behind T) c.there)),
        )

    -- it is a thread's
    pub turn-lt : (k t : ℕ) (v : Turn) → turn T f k t ≡ some v → t < T → v.thread < T
    turn-lt k t v q l = let h = found k t v q in subst (λ (x : ℕ). x < T) h.there (later-lt h.places t l)

    -- and the first thread that is offered one has it
    turn-first : (k m t u : ℕ) (g : Offer) → m < k → later m t ≡ u → f u ≡ some g
        → ((j : ℕ) → j < m → f (later j t) ≡ none) → turn T f k t ≡ some (record { thread = u; gets = g })
    unfolding turn
    turn-first zero m t u g l e o b = absurd (omega arith)
    turn-first (suc k) zero t u g l e o b = rw (e, o)
    turn-first (suc k) (suc m) t u g l e o b =
        rw (b 0 (omega arith)) (turn-first k m (behind T t) u g (omega arith) e o (λ j i. b (suc j) (omega arith)))

-- who comes before w comes before v, or between v and w
pub sooner-split : (a u v w : ℕ) → u ≢ v → Sooner a u w → Sooner a u v ⊎ Sooner (suc v) u w
sooner-split a u v w n s = elim (dec_le a u) [
  | yes x ↦ elim (dec_lt u v) [
    | yes y ↦ inl (inl (x, y))
    | no y ↦ elim (dec_lt v a) [
      | yes b ↦ inl (inr (inr (b, x)))
      | no b ↦ inr (elim s [
        | inl k ↦ inl (omega arith, k.1)
        | inr (inl k) ↦ absurd (omega (arith, k.0, k.1))
        | inr (inr k) ↦ inr (inr (omega (arith, k.0), omega arith))
      ])
    ]
  ]
  | no x ↦ elim s [
    | inl k ↦ absurd (x k.0)
    | inr (inl k) ↦ elim (dec_lt u v) [
      | yes y ↦ elim (dec_lt v a) [
        | yes b ↦ inl (inr (inl (y, b)))
        | no b ↦ inr (inr (inl (k.0, omega (arith, k.1))))
      ]
      | no y ↦ inr (inl (omega arith, k.0))
    ]
    | inr (inr k) ↦ absurd (x k.1)
  ]
]

-- ---- the lowest thread of a set

lowest_set : (k b : ℕ) → 0 < b → b < 2 ^ k → bit_at b (count_trailing_zeros k b) ≡ 1
lowest_set zero b p l = absurd (omega arith)
lowest_set (suc k) b p l = elim (parity b) [
  | odd o ↦ rw (lowest-odd k b o) o
  | even o ↦ rw (lowest-even k b o) (lowest_set k (b / 2) (omega arith) (omega (arith, pow-suc 2 k)))
]

below-lowest : (k b j : ℕ) → j < count_trailing_zeros k b → bit_at b j ≡ 0
unfolding count_trailing_zeros
below-lowest zero b j l = absurd (omega arith)
below-lowest (suc k) b zero l = elim (parity b) [
  | odd o ↦ absurd (omega (arith, rw (lowest-odd k b o) at l))
  | even o ↦ o
]
below-lowest (suc k) b (suc j) l = elim (parity b) [
  | odd o ↦ absurd (omega (arith, rw (lowest-odd k b o) at l))
  | even o ↦ below-lowest k (b / 2) j (omega (arith, rw (lowest-even k b o) at l))
]

bit-shift : (t j b : ℕ) → bit_at (b / 2 ^ t) j ≡ bit_at b (t + j)
bit-shift zero j b = let e : b / 1 ≡ b = omega arith in let z : 0 + j ≡ j = omega arith in rw z (rw e)
bit-shift (suc t) j b =
    let e : suc t + j ≡ suc (t + j) = omega arith in
    let one : 1 + t ≡ suc t = omega arith in
    rw (e, ← (rw one at (shr-shr b 1 t))) (bit-shift t j (b / 2))

bits_above : (k b j : ℕ) → b < 2 ^ k → k ≤ j → bit_at b j ≡ 0
bits_above zero b j l i = let e : b ≡ 0 = omega arith in rw e (bit-zero j)
bits_above (suc k) b zero l i = absurd (omega arith)
bits_above (suc k) b (suc j) l i = bits_above k (b / 2) j (omega (arith, pow-suc 2 k)) (omega arith)

-- ---- the turn

-- 1 where a step is offered
abbrev pub offers_one : Option Offer → ℕ
offers_one none = 0
offers_one (some g) = 1

one-offered : (o : Option Offer) → offers_one o ≡ 1 → (g : Offer) × (o ≡ some g)
one-offered none e = absurd (omega arith)
one-offered (some g) e = (g, refl)

none-offered : (o : Option Offer) → offers_one o ≡ 0 → o ≡ none
none-offered none e = refl
none-offered (some g) e = absurd (omega arith)

-- the set `able` has the threads below T that f offers a step
pub record Able (T able : ℕ) (f : ℕ → Option Offer) : Type 0 where
  pub small : T ≤ 64
  pub within : able < 2 ^ T
  pub has : (u : ℕ) → u < T → bit_at able u ≡ offers_one (f u)

-- the turn, where the chooser keeps c, is that of thread u
pub record Chosen {C : Type 0} (ch : Chooser C) (T : ℕ) (f : ℕ → Option Offer) (c : C) (u : ℕ) : Type 0 where
  pub gets : Offer
  pub up_next : ch.choose f c ≡ some (record { thread = u; gets = gets })
  pub offers-it : f u ≡ some gets
  pub there : u < T

module _ (T able : ℕ) (f : ℕ → Option Offer) (h : Able T able f) where
  out-of-set : (u : ℕ) → u < T → bit_at able u ≡ 0 → f u ≡ none
  out-of-set u l e = none-offered (f u) (sym (h.has u l) ∙ e)

  -- nobody is able to move
  pub nobody : (t : ℕ) → t < T → able ≡ 0 → turn T f T t ≡ none
  nobody t l e = from (turn T f T t) refl
    where
      from : (o : Option Turn) → turn T f T t ≡ o → o ≡ none
      from none q = refl
      from (some v) q =
          let x : f v.thread ≡ some v.gets = turn-offer T f T t v q in
          let y : f v.thread ≡ none =
          out-of-set v.thread (turn-lt T f T t v q l) (rw e (bit-zero v.thread)) in
          clash cc

  is-able : (u : ℕ) → bit_at able u ≡ 1 → u < T
  is-able u e = elim (dec_lt u T) [
    | yes l ↦ l
    | no n ↦ absurd (omega (arith, bits_above T able u h.within (omega arith)))
  ]

  lowest-in : (b : ℕ) → b ≤ able → b ≢ 0 → bit_at b (count_trailing_zeros 64 b) ≡ 1
  lowest-in b l n = lowest_set 64 b (omega arith) (omega (arith, pow_mono h.small, h.within))

  -- u is the first thread behind t that is able to move
  first : (t m u : ℕ) → m < T → later T m t ≡ u → bit_at able u ≡ 1
      → ((j : ℕ) → j < m → f (later T j t) ≡ none) → Chosen (round T) T f t u
  first t m u l e one b =
      let there = is-able u one in
      let g = one-offered (f u) (sym (h.has u there) ∙ one) in
      record { gets = g.0; up_next = turn-first T f T m t u g.0 l e g.1 b; offers-it = g.1; there = there }

  idle-at : (t j : ℕ) → t + j < T → bit_at able (t + j) ≡ 0 → f (later T j t) ≡ none
  idle-at t j l e = rw (later-up T j t l) (out-of-set (t + j) l e)

  -- ahead of t, or from thread 0 on
  ahead : (t : ℕ) → t < T → able / 2 ^ t ≢ 0 → Chosen (round T) T f t (t + count_trailing_zeros 64 (able / 2 ^ t))
  ahead t l n =
      let x = able / 2 ^ t in
      let p = count_trailing_zeros 64 x in
      let one : bit_at able (t + p) ≡ 1 = sym (bit-shift t p able) ∙ lowest-in x (shr_le able t) n in
      let far : t + p < T = is-able (t + p) one in
      first t p (t + p) (omega arith) (later-up T p t far) one
      (λ j i. idle-at t j (omega arith) (sym (bit-shift t j able) ∙ below-lowest 64 x j i))

  wraps : (t : ℕ) → t < T → able / 2 ^ t ≡ 0 → able ≢ 0 → Chosen (round T) T f t (count_trailing_zeros 64 able)
  wraps t l e n =
      first t ((T - t) + p) p (omega (arith, below)) (past T t p l (is-able p one)) one
      (λ j i. dec-both (dec_lt j (T - t)) (λ a. idle-at t j (omega arith) (none-on j)) (λ a. before (j - (T - t)) j
      (omega arith) (omega arith)))
    where
      p : ℕ
      p = count_trailing_zeros 64 able

      one : bit_at able p ≡ 1
      one = lowest-in able (omega arith) n

      -- nobody from t on
      none-on : (j : ℕ) → bit_at able (t + j) ≡ 0
      none-on j = sym (bit-shift t j able) ∙ rw e (bit-zero j)

      below : p < t
      below = elim (dec_lt p t) [
        | yes a ↦ a
        | no a ↦ let q : t + (p - t) ≡ p = omega arith in absurd (omega (arith, one, rw q at (none-on (p - t))))
      ]

      -- nor from thread 0 up to p
      before : (k j : ℕ) → (T - t) + k ≡ j → k < p → f (later T j t) ≡ none
      before k j s i =
          let low : k < T = omega (arith, is-able p one) in
          rw (← s, past T t k l low) (out-of-set k low (below-lowest 64 able k i))

  -- the turn is that of the thread that is picked
  pub picked : (t : ℕ) → t < T → able ≢ 0 → Chosen (round T) T f t (pick able t)
  unfolding pick
  picked t l n =
      if-both (Chosen (round T) T f t) (eqb (able / 2 ^ t) 0)
      (λ e. wraps t l (eqb-true _ 0 e) n) (λ e. ahead t l (eqb-false _ 0 e))

  -- ---- by a list of turns

  first-at : (t : ℕ) (ts : List ℕ) (g : Offer) → t < T → f t ≡ some g
      → (first_turn T f (t ∷ ts) ≡ some (record { thread = t; gets = g })) × (turns_left T f (t ∷ ts) ≡ ts)
  unfolding first_turn turns_left
  first-at t ts g l e = (rw (lt-ltb t T l, e), rw (lt-ltb t T l, e))

  -- the turn is that of its thread, if it is able to move
  pub at_turn : (t : ℕ) (ts : List ℕ) → bit_at able t ≡ 1 → Chosen (by_turns T) T f (t ∷ ts) t
  at_turn t ts one =
      let there = is-able t one in
      let g = one-offered (f t) (sym (h.has t there) ∙ one) in
      record { gets = g.0; up_next = (first-at t ts g.0 there g.1).0; offers-it = g.1; there = there }

  pub turns-behind : (t : ℕ) (ts : List ℕ) → bit_at able t ≡ 1 → turns_left T f (t ∷ ts) ≡ ts
  turns-behind t ts one =
      let there = is-able t one in
      let g = one-offered (f t) (sym (h.has t there) ∙ one) in
      (first-at t ts g.0 there g.1).1

  -- else it is passed over
  pub pass-over : (t : ℕ) (ts : List ℕ) → bit_at able t ≡ 0
      → (first_turn T f (t ∷ ts) ≡ first_turn T f ts) × (turns_left T f (t ∷ ts) ≡ turns_left T f ts)
  unfolding first_turn turns_left
  pass-over t ts e = elim (dec_lt t T) [
    | yes l ↦ (rw (lt-ltb t T l, out-of-set t l e), rw (lt-ltb t T l, out-of-set t l e))
    | no l ↦ (rw (le-ltb t T (omega arith)), rw (le-ltb t T (omega arith)))
  ]

  -- where nobody is able to move, all are
  pub nobody-left : able ≡ 0 → (ts : List ℕ) → first_turn T f ts ≡ none
  unfolding first_turn
  nobody-left e [] = refl
  nobody-left e (t ∷ ts) = (pass-over t ts (rw e (bit-zero t))).0 ∙ nobody-left e ts

-- ---- as the code goes round and picks

-- the bit of a set that the code looks at; of 64 threads and more there is none
pub bit-of : (able t : ℕ) → able / 2 ^ t % 2 ≡ bit_at able t
bit-of able t = let e : t + 0 ≡ t = omega arith in rw e at (bit-shift t 0 able)

pub no-bit : (able t : ℕ) → able < 2 ^ 64 → 64 ≤ t → bit_at able t ≡ 0
no-bit able t = bits_above 64 able t

pub behind-last : (T t : ℕ) → t + 1 ≡ T → 0 ≡ behind T t
behind-last T t e = let q : suc t ≡ T = omega arith in rw (eq-eqb (suc t) T q)

pub behind-next : (T t : ℕ) → t + 1 ≢ T → t + 1 ≡ behind T t
behind-next T t n = rw (ne_eqb (suc t) T (λ e. n (omega arith))) (omega arith)

pub pick_low : (able t r : ℕ) → able / 2 ^ t ≡ 0 → r ≡ count_trailing_zeros 64 able → r ≡ pick able t
unfolding pick
pick_low able t r e q = rw (eq-eqb (able / 2 ^ t) 0 e) q

pub pick-ahead : (able t r : ℕ) → able / 2 ^ t ≢ 0 → r ≡ count_trailing_zeros 64 (able / 2 ^ t) → t + r ≡ pick able t
unfolding pick
pick-ahead able t r n q = rw (ne_eqb (able / 2 ^ t) 0 n, q)

pub pick-here : (able t : ℕ) → able / 2 ^ t % 2 ≡ 1 → t ≡ pick able t
unfolding pick
pick-here able t e =
    rw (ne_eqb (able / 2 ^ t) 0 (λ q. omega arith), lowest-odd 63 (able / 2 ^ t) e) (omega arith)
