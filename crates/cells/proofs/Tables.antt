-- Tables of a function's values, as the parts of a state are: one looked up, two that agree, two that differ in one
-- place.
use Rattle.lock.proofs.Library.{ℕ, zero, suc, ◌+◌, ◌<◌, ◌≡◌, refl, sym, ap, ◌∙◌, ◌≢◌, not-suc-le-zero, arith}
use Rattle.lock.proofs.Library.{ℕ_discrete, length, get_or, set, length-set, get_or-set_same, get_or-set_other, ext_get_or}
use Rattle.cells.specs.View.{table}

module _ {A : Type 0} where
  pub length-table : (f : ℕ → A) (k n : ℕ) → length (table f k n) ≡ n
  unfolding table
  length-table f k zero = refl
  length-table f k (suc n) = ap suc (length-table f (suc k) n)

  at_from : (f : ℕ → A) (k n u : ℕ) (d : A) → u < n → get_or (table f k n) u d ≡ f (k + u)
  unfolding table
  at_from f k zero u d l = absurd (not-suc-le-zero l)
  at_from f k (suc n) zero d l = let e : k + 0 ≡ k = omega arith in rw e
  at_from f k (suc n) (suc u) d l =
      let e : k + suc u ≡ suc k + u = omega arith in rw e (at_from f (suc k) n u d (omega arith))

  pub at : (f : ℕ → A) (n u : ℕ) (d : A) → u < n → get_or (table f 0 n) u d ≡ f u
  at f n u d l = let z : 0 + u ≡ u = omega arith in rw z at (at_from f 0 n u d l)

  pub alike : (f g : ℕ → A) (n : ℕ) → ((u : ℕ) → u < n → f u ≡ g u) → table f 0 n ≡ table g 0 n
  alike f g n e =
      ext_get_or (f 0) (table f 0 n) (table g 0 n) (length-table f 0 n ∙ sym (length-table g 0 n))
      (λ u l. let b : u < n = omega (arith, length-table f 0 n) in
      at f n u (f 0) b ∙ e u b ∙ sym (at g n u (f 0) b))

  pub but-one : (f g : ℕ → A) (n t : ℕ)
      → t < n → ((u : ℕ) → u < n → u ≢ t → f u ≡ g u) → table f 0 n ≡ set (table g 0 n) t (f t)
  but-one f g n t l e =
      ext_get_or (f 0) (table f 0 n) (set (table g 0 n) t (f t))
      (length-table f 0 n ∙ sym (length-set (table g 0 n) t (f t) ∙ length-table g 0 n))
      (λ u k. let b : u < n = omega (arith, length-table f 0 n) in
      at f n u (f 0) b
      ∙ elim (ℕ_discrete u t) [
        | yes q ↦ rw (q, get_or-set_same (table g 0 n) t (f t) (f 0) (omega (arith, length-table g 0 n)))
        | no q ↦ e u b q ∙ sym (get_or-set_other (table g 0 n) t u (f t) (f 0) q ∙ at g n u (f 0) b)
      ])
