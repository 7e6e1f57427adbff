-- Places of a ring of 64, and the numbers in it: joining behind the last, leaving from the front.
use Rattle.lock.proofs.Library.{ℕ, zero, suc, ◌+◌, ◌<◌, ◌≤◌, ◌≡◌, refl, ap, ap₂, ◌≢◌, List, [], ◌∷◌, ◌++◌, arith}
use Rattle.lock.proofs.Library.{ℕ_discrete, dec_lt, length, set, get_or-set_same, get_or-set_other, eq-eqb, ne_eqb}
use Rattle.cells.specs.Kept.{after, ring_from, ahead}

-- ---- places

after_last : (i : ℕ) → i ≡ 63 → after i ≡ 0
after_last i e = rw (eq-eqb i 63 e)

after-other : (i : ℕ) → i ≢ 63 → after i ≡ i + 1
after-other i n = rw (ne_eqb i 63 n)

pub after-lt : (i : ℕ) → i < 64 → after i < 64
after-lt i l = elim (ℕ_discrete i 63) [
  | yes e ↦ rw (after_last i e) (omega arith)
  | no n ↦ rw (after-other i n) (omega arith)
]

-- place i, and n more: it is i + n, less 64 where that is past the end
pub record Placed (i n : ℕ) : Type 0 where
  pub near : i + n < 64 → ahead i n ≡ i + n
  pub far : 64 ≤ i + n → ahead i n + 64 ≡ i + n

pub placed : (i n : ℕ) → i < 64 → n ≤ 64 → Placed i n
placed i zero l m = record { near = λ h. omega arith; far = λ h. absurd (omega arith) }
placed i (suc n) l m =
    let p = placed (after i) n (after-lt i l) (omega arith) in
    elim (ℕ_discrete i 63) [
      | yes e ↦
          let a = after_last i e in
          record { near = λ h. absurd (omega arith); far = λ h. omega (arith, a, p.near (omega (arith, a))) }
      | no k ↦
          let a = after-other i k in
          record {
            near = λ h. omega (arith, a, p.near (omega (arith, a)));
            far = λ h. omega (arith, a, p.far (omega (arith, a)));
          }
    ]

-- less than a round away is another place
away : (i n : ℕ) → i < 64 → 0 < n → n < 64 → i ≢ ahead i n
away i n l p m e =
    let at = placed i n l (omega arith) in
    elim (dec_lt (i + n) 64) [
      | yes h ↦ omega (arith, at.near h)
      | no h ↦ omega (arith, at.far (omega arith))
    ]

-- ---- numbers

-- the ring gives as many numbers as it is asked for
pub ring_long : (r : List ℕ) (i n : ℕ) → length (ring_from r i n) ≡ n
ring_long r i zero = refl
ring_long r i (suc n) = ap suc (ring_long r (after i) n)

-- a number put behind n others
pub ring-joined : (r : List ℕ) (i n t : ℕ)
    → length r ≡ 64 → i < 64 → n < 64 → ring_from (set r (ahead i n) t) i (suc n) ≡ ring_from r i n ++ t ∷ []
ring-joined r i zero t long l m = rw (get_or-set_same r i t 0 (omega arith))
ring-joined r i (suc n) t long l m =
    ap₂ (λ (x : ℕ) (xs : List ℕ). x ∷ xs)
    (get_or-set_other r (ahead i (suc n)) i t 0 (away i (suc n) l (omega arith) m))
    (ring-joined r (after i) n t long (after-lt i l) (omega arith))
