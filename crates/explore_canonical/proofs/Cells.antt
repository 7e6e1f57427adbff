-- A cell that a thread does not use makes no difference to its phase.
use Rattle.lock.proofs.Library.{ℕ, zero, suc, ◌/◌, ◌%◌, ◌+◌, ◌<◌, ◌≡◌, ◌≢◌, refl, sym, ap, subst, ◌∙◌, List, [], ◌∷◌}
use Rattle.lock.proofs.Library.{arith, dec_lt, get_or, set, set-get_or, List·getD-eq-default}
use Rattle.lock.specs.{declared.{Phase.{Phase, TheVariants.Look}, Thread.Thread}, State.{State, goes, thread_at, fresh_thread}}
use Rattle.cells.specs.View.{phases, phase_of, phase_at, pc, node, route, below, seen, state_of, Shaped, Leaves}
use Rattle.cells.proofs.{Threads.goes-storing, Parts.thread-is}
use Rattle.explore_canonical.specs.Form.{uses_at, kept}

pub kept-some : (u x : ℕ) → u ≢ 0 → x ≡ kept u x
kept-some zero x h = absurd (h refl)
kept-some (suc u) x h = refl

-- the phases where of each cell only what the number u says is kept
abbrev bare : ℕ → ℕ → ℕ → ℕ → ℕ → List Phase
bare u c n b v = phases (kept (u % 2) c) (kept (u / 2 % 2) n) (kept (u / 4 % 2) b) (kept (u / 8 % 2) v)

-- what holds of each number from k on, m of them
abbrev Each : (ℕ → Type 0) → ℕ → ℕ → Type 0
Each P k zero = Unit {0}
Each P k (suc m) = P k × Each P (suc k) m

each : (P : ℕ → Type 0) (k m i : ℕ) → Each P k m → i < m → P (k + i)
each P k zero i h l = absurd (omega arith)
each P k (suc m) zero h l = let e : k + 0 ≡ k = omega arith in rw e h.0
each P k (suc m) (suc i) h l =
    let e : k + suc i ≡ suc k + i = omega arith in rw e (each P (suc k) m i h.1 (omega arith))

infixr 10 ◌also◌
abbrev ◌also◌ : {A B : Type 0} → A → B → A × B
a also b = (a, b)

module _ (c n b v : ℕ) where
  abbrev Bare : ℕ → Type 0
  Bare k = get_or (bare (uses_at k) c n b v) k (Look 32) ≡ phase_of k c n b v

  -- each program counter, by computing
  all-bare : Each Bare 0 50
  all-bare =
      refl also refl also refl also refl also refl also refl also refl also refl also refl also refl also refl also
      refl also refl also refl also refl also refl also refl also refl also refl also refl also refl also refl also
      refl also refl also refl also refl also refl also refl also refl also refl also refl also refl also refl also
      refl also refl also refl also refl also refl also refl also refl also refl also refl also refl also refl also
      refl also refl also refl also refl also refl also refl also tt

  pub bare-phase : (k : ℕ) → Bare k
  bare-phase k = elim (dec_lt k 50) [
    | yes l ↦ let e : 0 + k ≡ k = omega arith in subst Bare e (each Bare 0 50 k all-bare l)
    | no l ↦ List·getD-eq-default (bare (uses_at k) c n b v) (Look 32) {n = k} (omega arith)
        ∙ sym (List·getD-eq-default (phases c n b v) (Look 32) {n = k} (omega arith))
  ]

-- thread t goes to the phase that it is in
stays_put : (l : List ℕ) (t : ℕ) → t < 64
    → goes (state_of l) t (phase_of (pc l t) (node l t) (route l t) (below l t) (seen l t)) ≡ state_of l
stays_put l t h =
    let e = thread-is l t h in
    let q : set (state_of l).threads t (record {
      phase = phase_of (pc l t) (node l t) (route l t) (below l t) (seen l t);
      failures = (thread_at (state_of l) t).failures;
    }) ≡ (state_of l).threads =
    (rw e (ap (λ (x : Thread). set (state_of l).threads t x) (sym e)
    ∙ set-get_or (state_of l).threads t fresh_thread)) in
    ap (λ (hs : List Thread). record {
      words = (state_of l).words;
      mutex = (state_of l).mutex;
      queue = (state_of l).queue;
      threads = hs;
    }) q

-- what it does not use is set to 0
pub tidied : {l : List ℕ} (s : Shaped l) (t : ℕ) (h : t < 64) {u c n b v : ℕ} → u ≡ uses_at (pc l t)
    → c ≡ kept (u % 2) (node l t) → n ≡ kept (u / 2 % 2) (route l t)
    → b ≡ kept (u / 4 % 2) (below l t) → v ≡ kept (u / 8 % 2) (seen l t)
    → Leaves (set (set (set (set l (192 + t) c) (256 + t) n) (320 + t) b) (384 + t) v) (state_of l)
tidied {l} s t h {u} {c} {n} {b} {v} e p q w x =
    let k = goes-storing ((3, c) ∷ (4, n) ∷ (5, b) ∷ (6, v) ∷ []) refl s t h refl in
    let same : phase_of (pc l t) c n b v ≡ phase_at l t =
    (rw (p, q, w, x, e) (bare-phase (node l t) (route l t) (below l t) (seen l t) (pc l t))) in
    record { state = k.state ∙ ap (goes (state_of l) t) same ∙ stays_put l t h; shaped = k.shaped }

-- one after the other
pub leaves-both : {l₁ l₂ : List ℕ} {s : State} → Leaves l₂ (state_of l₁) → Leaves l₁ s → Leaves l₂ s
leaves-both b a = record { state = b.state ∙ a.state; shaped = b.shaped }
