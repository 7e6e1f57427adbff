-- Words as numbers: equal numbers are equal words, and the sums that rows make of them.
use Rattle.lock.proofs.Library.{ℕ, ◌+◌, ◌*◌, ◌/◌, ◌%◌, ◌<◌, ◌≡◌, refl, ◌≢◌, true, false, arith, ℕ_discrete, eqb, eq-eqb}
use Rattle.lock.{proofs.Library.ne_eqb, specs.Word.{same, up, up_direct, shut, opened, closed}}
use Rattle.cells.specs.View.{word_of}

-- ---- are two words equal?

pub same-yes : (v u : ℕ) → v ≡ u → same (word_of v) (word_of u) ≡ true
same-yes v u e = rw
    (e, eq-eqb (u / 2 % 65536) (u / 2 % 65536) refl, eq-eqb (u / 131072) (u / 131072) refl, eq-eqb (u % 2) (u % 2) refl)

pub same-no : (v u : ℕ) → v ≢ u → same (word_of v) (word_of u) ≡ false
same-no v u n = elim (ℕ_discrete (v / 2 % 65536) (u / 2 % 65536)) [
  | yes a ↦ rw (eq-eqb (v / 2 % 65536) (u / 2 % 65536) a) (elim (ℕ_discrete (v / 131072) (u / 131072)) [
    | yes b ↦ rw (eq-eqb (v / 131072) (u / 131072) b, ne_eqb (v % 2) (u % 2) (λ c. n (omega arith)))
    | no b ↦ rw (ne_eqb (v / 131072) (u / 131072) b)
  ])
  | no a ↦ rw (ne_eqb (v / 2 % 65536) (u / 2 % 65536) a)
]

-- so the code's comparison is the definitions'
pub same-is : (v u : ℕ) → eqb v u ≡ same (word_of v) (word_of u)
same-is v u = elim (ℕ_discrete v u) [
  | yes e ↦ rw (eq-eqb v u e, same-yes v u e)
  | no n ↦ rw (ne_eqb v u n, same-no v u n)
]

-- ---- sums

-- a word is its three digits
pub word-by : (v : ℕ) {d t c : ℕ} → v / 2 % 65536 ≡ d → v / 131072 ≡ t → v % 2 ≡ c
    → word_of v ≡ record { direct = d; tree = t; closed = c }
word-by v a b c = rw (a, b, c)

-- one more by the tree, and one more directly, of a word that equals another
pub raised : (v u : ℕ) → v ≡ u → word_of (v + 131072) ≡ up (word_of u)
raised v u e = word-by (v + 131072) (omega arith) (omega arith) (omega arith)

pub raised-direct : (v u : ℕ) → v ≡ u → v / 2 % 65536 < 65535 → word_of (v + 2) ≡ up_direct (word_of u)
raised-direct v u e h = word-by (v + 2) (omega arith) (omega arith) (omega arith)

-- a count of direct arrivals, and the flag
pub open-word : (n : ℕ) → n < 65536 → word_of (n * 2) ≡ opened n 0
open-word n h = word-by (n * 2) (omega arith) (omega arith) (omega arith)

pub shut-word : (v : ℕ) → word_of (v / 2 * 2 + 1) ≡ shut (word_of v)
shut-word v = word-by (v / 2 * 2 + 1) (omega arith) (omega arith) (omega arith)

pub closed-word : (n : ℕ) → n < 65536 → word_of (n * 2 + 1) ≡ closed n 0
closed-word n h = word-by (n * 2 + 1) (omega arith) (omega arith) (omega arith)
