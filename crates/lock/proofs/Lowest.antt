-- The lowest one of a set, and the set without it: for numbers of any width k. The place of the lowest one is the
-- number of zeros below it, `count_trailing_zeros k b`.
use Rattle.lock.proofs.Library.{ℕ, zero, suc, ◌-◌, ◌*◌, ◌/◌, ◌%◌, ◌^◌, ◌<◌, ◌≡◌, refl, pow-suc, arith}
use Rattle.lock.proofs.Library.{ℕ_discrete}
use lib.{Arith.bin_ind, Bits.{bit_and, and_step, and_le_r}, Count.count_trailing_zeros}

-- a number's lowest digit is 1, or 0
pub data Parity (b : ℕ) : Type 0 where
  odd : b % 2 ≡ 1 → Parity b
  even : b % 2 ≡ 0 → Parity b

pub parity : (b : ℕ) → Parity b
parity b = elim (ℕ_discrete (b % 2) 1) [ yes e ↦ odd e | no n ↦ even (omega arith) ]

-- ---- the set without its lowest one

abbrev pub cleared : ℕ → ℕ
cleared b = bit_and b (b - 1)

and_self : (b : ℕ) → bit_and b b ≡ b
and_self = bin_ind (λ (n : ℕ). bit_and n n ≡ n) refl (λ n ih. omega (arith, and_step n n, ih))

-- the lowest digit goes, or the digits above it lose theirs
pub cleared-odd : (b : ℕ) → b % 2 ≡ 1 → cleared b ≡ b - 1
cleared-odd b o =
    let e : (b - 1) / 2 ≡ b / 2 = omega arith in
    let s = rw e at (and_step b (b - 1)) in
    omega (arith, s, and_self (b / 2))

pub cleared-even : (b : ℕ) → b % 2 ≡ 0 → 0 < b → cleared b ≡ cleared (b / 2) * 2
cleared-even b o p =
    let e : (b - 1) / 2 ≡ b / 2 - 1 = omega arith in
    let s = rw e at (and_step b (b - 1)) in
    omega (arith, s)

-- it is smaller, so clearing comes to an end
pub cleared-lt : (b : ℕ) → 0 < b → cleared b < b
cleared-lt b p = omega (arith, and_le_r b (b - 1))

-- ---- the place of the lowest one

pub lowest-odd : (k b : ℕ) → b % 2 ≡ 1 → count_trailing_zeros (suc k) b ≡ 0
unfolding count_trailing_zeros
lowest-odd k b o = rw o

pub lowest-even : (k b : ℕ) → b % 2 ≡ 0 → count_trailing_zeros (suc k) b ≡ suc (count_trailing_zeros k (b / 2))
unfolding count_trailing_zeros
lowest-even k b o = rw o

pub lowest-lt : (k b : ℕ) → 0 < b → b < 2 ^ k → count_trailing_zeros k b < k
lowest-lt zero b p l = absurd (omega arith)
lowest-lt (suc k) b p l =
    elim (parity b) [
      | odd o ↦ rw (lowest-odd k b o) (omega arith)
      | even o ↦ rw (lowest-even k b o)
          (omega (arith, lowest-lt k (b / 2) (omega arith) (omega (arith, pow-suc 2 k))))
    ]
