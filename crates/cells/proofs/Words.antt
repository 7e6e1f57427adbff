-- Both counts of a word at once: the word without its flag.
use Rattle.lock.proofs.Library.{ℕ, ◌+◌, ◌/◌, ◌%◌, ◌≡◌, arith, ℕ_discrete, eqb, eq-eqb, ne_eqb}
use Rattle.lock.specs.Word.{is_zero, is_sole}
use Rattle.cells.specs.View.{word_of}

pub zero_is : (v : ℕ) → eqb (v / 2) 0 ≡ is_zero (word_of v)
zero_is v = elim (ℕ_discrete (v / 2) 0) [
  | yes e ↦ rw (eq-eqb (v / 2) 0 e, eq-eqb (v / 2 % 65536 + v / 131072) 0 (omega arith))
  | no n ↦ rw (ne_eqb (v / 2) 0 n, ne_eqb (v / 2 % 65536 + v / 131072) 0 (λ e. n (omega arith)))
]

pub sole-is : (v : ℕ) → eqb (v / 2) 1 ≡ is_sole (word_of v)
sole-is v = elim (ℕ_discrete (v / 2) 1) [
  | yes e ↦ rw (eq-eqb (v / 2) 1 e, eq-eqb (v / 2 % 65536) 1 (omega arith), eq-eqb (v / 131072) 0 (omega arith))
  | no n ↦ rw (ne_eqb (v / 2) 1 n) (elim (ℕ_discrete (v / 2 % 65536) 1) [
    | yes d ↦ rw (eq-eqb (v / 2 % 65536) 1 d, ne_eqb (v / 131072) 0 (λ t. n (omega arith)))
    | no d ↦ rw (ne_eqb (v / 2 % 65536) 1 d)
  ])
]
