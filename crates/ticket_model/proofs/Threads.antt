-- Laws of the threads of a lock: one changed, and the number of those with a ticket.
use Rattle.lock.proofs.Library.{ℕ, zero, suc, ◌+◌, ◌≤◌, ◌<◌, zero-le, ◌≡◌, refl, ◌≢◌, not, List, [], ◌∷◌}
use Rattle.lock.proofs.Library.{not-suc-le-zero, le_of_suc-le-suc, le_refl, arith, ℕ_discrete, length, get_or, set}
use Rattle.lock.proofs.{Library.{replicate, get_or-set_same, get_or-set_other, eqb}, Choice.{clash, if-both}}
use Rattle.std.specs.Prelude.{if◌then◌else◌}
use Rattle.ticket_model.specs.Machine.{Standing, Idle, Waiting, Holding, Thread, Made, next, thread, idle, made}
use Rattle.ticket_model.specs.{Machine.{refuse, takes, compares, leaves, obey}, Claims.{is_idle, one, ticket_count}}

pub waiting-holding : Waiting ≡ Holding → ⊥
waiting-holding e = clash cc

pub waiting-idle : Waiting ≡ Idle → ⊥
waiting-idle e = clash cc

pub holding-idle : Holding ≡ Idle → ⊥
holding-idle e = clash cc

-- a fact of element u after element t was set to h
pub at_set : {A : Type 0} (P : A → Type 0) (d : A) (hs : List A) (t u : ℕ) (h : A)
    → t < length hs → (u ≡ t → P h) → (u ≢ t → P (get_or hs u d)) → P (get_or (set hs t h) u d)
at_set P d hs t u h l f g = elim (ℕ_discrete u t) [
  | yes e ↦ rw (e, get_or-set_same hs t h d l) (f e)
  | no n ↦ rw (get_or-set_other hs t u h d n) (g n)
]

-- ---- a row, by its order and its thread's standing

module _ (P : Made → Type 0) (n g : ℕ) (h : Thread) (took : h.standing ≡ Idle → P (made (next n) g (thread Waiting n)))
    (compared : h.standing ≡ Waiting → P (made n g (thread (if eqb h.own g then Holding else Waiting) h.own)))
    (left : h.standing ≡ Holding → P (made n (next g) idle)) (unsuited : P (refuse 7 n g h)) where
  by-standing : (p : Standing) → h.standing ≡ p → P (compares n g h p) × P (takes n g h p) × P (leaves n g h p)
  by-standing Idle e = (unsuited, took e, unsuited)
  by-standing Waiting e = (compared e, unsuited, unsuited)
  by-standing Holding e = (unsuited, unsuited, left e)

  pub obey-both : P (refuse 6 n g h) → (o : ℕ) → P (obey o n g h)
  unfolding obey
  obey-both none o =
      let by = by-standing h.standing refl in
      if-both P (eqb o 0) (λ _. by.0)
      (λ _. if-both P (eqb o 1) (λ _. by.1) (λ _. if-both P (eqb o 2) (λ _. by.2) (λ _. none)))

-- ---- the number of threads with a ticket

at_most_one : (p : Standing) → one (not (is_idle p)) ≤ 1
at_most_one Idle = zero-le
at_most_one Waiting = le_refl 1
at_most_one Holding = le_refl 1

pub counts : (p : Standing) → (p ≡ Idle → ⊥) → one (not (is_idle p)) ≡ 1
counts Idle n = absurd (n refl)
counts Waiting n = refl
counts Holding n = refl

pub count_set : (hs : List Thread) (t : ℕ) (h : Thread) → t < length hs
    → ticket_count (set hs t h) + one (not (is_idle (get_or hs t idle).standing))
    ≡ ticket_count hs + one (not (is_idle h.standing))
count_set [] t h l = absurd (not-suc-le-zero l)
count_set (x ∷ hs) zero h l = omega arith
count_set (x ∷ hs) (suc t) h l = let q = count_set hs t h (le_of_suc-le-suc l) in omega arith

pub count_most : (hs : List Thread) → ticket_count hs ≤ length hs
count_most [] = le_refl 0
count_most (h ∷ hs) = omega (arith, at_most_one h.standing, count_most hs)

pub count_none : (n : ℕ) → ticket_count (replicate n idle) ≡ 0
count_none zero = refl
count_none (suc n) = omega (arith, count_none n)

pub idle-at : (n t : ℕ) → get_or (replicate n idle) t idle ≡ idle
idle-at zero t = refl
idle-at (suc n) zero = refl
idle-at (suc n) (suc t) = idle-at n t
