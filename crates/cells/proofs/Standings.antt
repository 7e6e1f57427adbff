-- A thread's standing by its program counter: at the first three it is idle, writing and reading, at the 46 after them
-- it is calling, and at the last asleep. Behind that, where no thread is, it would be calling.
use Rattle.lock.proofs.Library.{ℕ, zero, suc, ◌≤◌, ◌≡◌, refl, sym, ap, subst, ◌∙◌, ◌≢◌, List, [], ◌∷◌, ◌++◌, map, arith}
use Rattle.lock.proofs.Library.{get_or, replicate, List·getD-map}
use Rattle.lock.specs.{declared.{Phase.TheVariants.Look, Standing.Standing}, Phase.standing}
use Rattle.cells.specs.View.{phases, phase_of}

abbrev pub standings : ℕ → List Standing
standings n =
    Standing.Idle ∷ Standing.Writing ∷ Standing.Reading n ∷ replicate 46 Standing.Calling ++ Standing.Asleep ∷ []

by-pc : (c n b v : ℕ) → map standing (phases c n b v) ≡ standings n
unfolding standing
by-pc c n b v = refl

pub stands : (pc c n b v : ℕ) → standing (phase_of pc c n b v) ≡ get_or (standings n) pc Standing.Calling
unfolding standing
stands pc c n b v = sym (List·getD-map standing (phases c n b v) pc (Look 32))
    ∙ ap (λ (xs : List Standing). get_or xs pc Standing.Calling) (by-pc c n b v)

-- a fact of what n times x, y once, and x behind them, have at a place
repeated : {A : Type 0} (P : A → Type 0) {x y : A} (n i : ℕ)
    → (i ≢ n → P x) → (i ≡ n → P y) → P (get_or (replicate n x ++ y ∷ []) i x)
repeated P zero zero f g = g refl
repeated P zero (suc i) f g = f (λ e. omega arith)
repeated P (suc n) zero f g = f (λ e. omega arith)
repeated P (suc n) (suc i) f g = repeated P n i (λ h. f (λ e. h (omega arith))) (λ h. g (omega arith))

-- from the fourth on
pub late-standing : (k : ℕ) (P : Standing → Type 0) → P Standing.Calling → P Standing.Asleep
    → P (get_or (replicate 46 Standing.Calling ++ Standing.Asleep ∷ []) k Standing.Calling)
late-standing k P x y = repeated P 46 k (λ _. x) (λ _. y)

-- a fact of the standing, from what the program counter tells
module _ (c n b v : ℕ) (P : Standing → Type 0) where
  by-counter : (pc : ℕ) → (pc ≡ 0 → P Standing.Idle) → (pc ≡ 1 → P Standing.Writing)
      → (pc ≡ 2 → P (Standing.Reading n)) → (3 ≤ pc → pc ≢ 49 → P Standing.Calling) → (pc ≡ 49 → P Standing.Asleep)
      → P (standing (phase_of pc c n b v))
  by-counter pc i w r x y = subst P (sym (stands pc c n b v)) (from pc i w r x y)
    where
      from : (pc : ℕ) → (pc ≡ 0 → P Standing.Idle) → (pc ≡ 1 → P Standing.Writing)
          → (pc ≡ 2 → P (Standing.Reading n)) → (3 ≤ pc → pc ≢ 49 → P Standing.Calling) → (pc ≡ 49 → P Standing.Asleep)
          → P (get_or (standings n) pc Standing.Calling)
      from zero i w r x y = i refl
      from (suc zero) i w r x y = w refl
      from (suc (suc zero)) i w r x y = r refl
      from (suc (suc (suc k))) i w r x y =
          repeated P 46 k (λ h. x (omega arith) (λ e. h (omega arith))) (λ h. y (omega arith))

  -- ---- by the program counters that a thread does not have

  pub unless-idle : (pc : ℕ) → pc ≢ 0 → P Standing.Writing
      → P (Standing.Reading n) → P Standing.Calling → P Standing.Asleep → P (standing (phase_of pc c n b v))
  unless-idle pc h w r x y = by-counter pc (λ e. absurd (h e)) (λ _. w) (λ _. r) (λ _ _. x) (λ _. y)

  pub unless-holding : (pc : ℕ)
      → pc ≢ 1 → pc ≢ 2 → P Standing.Idle → P Standing.Calling → P Standing.Asleep → P (standing (phase_of pc c n b v))
  unless-holding pc h k i x y =
      by-counter pc (λ _. i) (λ e. absurd (h e)) (λ e. absurd (k e)) (λ _ _. x) (λ _. y)

  pub unless-reading : (pc : ℕ) → pc ≢ 2 → P Standing.Idle
      → P Standing.Writing → P Standing.Calling → P Standing.Asleep → P (standing (phase_of pc c n b v))
  unless-reading pc h i w x y = by-counter pc (λ _. i) (λ _. w) (λ e. absurd (h e)) (λ _ _. x) (λ _. y)

  pub unless-writing : (pc : ℕ) → pc ≢ 1 → P Standing.Idle
      → P (Standing.Reading n) → P Standing.Calling → P Standing.Asleep → P (standing (phase_of pc c n b v))
  unless-writing pc h i r x y = by-counter pc (λ _. i) (λ e. absurd (h e)) (λ _. r) (λ _ _. x) (λ _. y)

-- ---- behind the first three

pub calling-at : (pc c n b v : ℕ)
    → pc ≢ 0 → pc ≢ 1 → pc ≢ 2 → pc ≢ 49 → standing (phase_of pc c n b v) ≡ Standing.Calling
calling-at pc c n b v i w r h = by-counter c n b v (λ (s : Standing). s ≡ Standing.Calling) pc (λ e. absurd (i e))
    (λ e. absurd (w e)) (λ e. absurd (r e)) (λ _ _. refl) (λ e. absurd (h e))

pub asleep-at : (pc c n b v : ℕ) → pc ≡ 49 → standing (phase_of pc c n b v) ≡ Standing.Asleep
asleep-at pc c n b v h = by-counter c n b v (λ (s : Standing). s ≡ Standing.Asleep) pc (λ e. absurd (omega arith))
    (λ e. absurd (omega arith)) (λ e. absurd (omega arith)) (λ _ k. absurd (k h)) (λ _. refl)
