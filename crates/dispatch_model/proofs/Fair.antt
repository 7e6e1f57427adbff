-- A thread that stays able to move gets a step within any T consecutive steps given.
use Rattle.lock.proofs.Library.{ℕ, zero, suc, ◌+◌, ◌≤◌, ◌<◌, ◌≡◌, ap, ◌∙◌, inl, inr, ◌≢◌, List, [], ◌∷◌, Option}
use Rattle.lock.proofs.Library.{none, some, arith, ℕ_discrete, length, take, drop}
use Rattle.laws.proofs.Lock.{Entry, standing, Sizes, State, fresh, thread_at, taken, runs, Row, step, run, InRange}
use Rattle.dispatch_model.specs.Dispatch.{wants_of, Wants, Offer, offered, offer, Turn, row_of, Dispatched, most}
use Rattle.dispatch_model.specs.Dispatch.{Chooser, dispatch_by, round, dispatch}
use Rattle.dispatch_model.specs.File.{first_refusal}
use Rattle.dispatch_model.specs.Claims.{begun_by, Step, Fair}
use Rattle.dispatch_model.proofs.Trace.{up_next, wants_after, turn_after, Goes, over, steps, goes}
use Rattle.dispatch_model.proofs.Order.{Steady, steady-begun, steady-next, step-either, none-rests}
use Rattle.dispatch_model.proofs.Order.{Lawful, round-lawful}
use Rattle.dispatch_model.proofs.Round.{later, reached, turn-sooner}

module _ (z : Sizes) where
  -- what thread u is offered after the rows xs
  abbrev pub offer_after : State → Wants → List Row → ℕ → Option Offer
  offer_after s w xs u =
      offered (standing (thread_at (run z s xs).state u).phase) (drop (length (begun_by u xs)) (w u))

  -- it is the same before and after one step, however that was chosen
  pub shift : {C : Type 0} {ch : Chooser C} {Right : C → Type 0} (law : Lawful z.threads ch Right)
      (s : State) (w : Wants) (t : C) (v : Turn) (s' : State) (e : Entry)
      → Steady z law s w t → up_next ch s w t ≡ some v → step z s (row_of v) ≡ taken s' e
      → (u : ℕ) (xs : List Row) → offer_after s w (row_of v ∷ xs) u ≡ offer_after s' (wants_after v w) xs u
  unfolding run runs
  shift law s w t v s' e a q p u xs = elim (step-either z law s w t v a q u) [
    | inl c ↦ rw (p, c.0 xs, c.1)
    | inr c ↦
        rw (p, c.0 xs) (ap (λ (os : List ℕ). offered (standing (thread_at (run z s' xs).state u).phase)
        (drop (suc (length (begun_by u xs))) os)) c.1)
  ]

  abbrev pub by-round : Chooser ℕ
  by-round = round z.threads

  abbrev pub by_number : Lawful z.threads (round z.threads) (λ t. t < z.threads)
  by_number = round-lawful z.threads

module _ (z : Sizes) (rs : List Row) where
  -- a step further on
  step-more : (r : Row) (xs : List Row) (i j i' j' u : ℕ)
      → i' ≤ suc i → suc j ≤ j' → Step z rs xs i j u → Step z rs (r ∷ xs) i' j' u
  step-more r xs i j i' j' u a b h =
      record { at = suc h.at; from = omega (arith, h.from); before = omega (arith, h.before); own = h.own }

  abbrev Moves : State → Wants → List Row → ℕ → Type 0
  Moves s w xs u = offer_after z s w xs u ≢ none

  -- u, m places behind the turn of another, is nearer after its step
  nearer : (s : State) (w : Wants) (t m u : ℕ) (v : Turn) → up_next (by-round z) s w t ≡ some v → later
      z.threads m t ≡ u
      → Moves s w [] u → v.thread ≢ u → (i : ℕ) × (i < m) × (later z.threads i (turn_after (by-round z) s w t v) ≡ u)
  unfolding run runs offer
  nearer s w t m u v q r x n =
      rw r at (turn-sooner z.threads (offer s w) z.threads t m v q (rw r x) (λ e. n (e ∙ r)))

  -- from the start: u is m places behind t
  soon : {k : ℕ} {s : State} {w : Wants} {t : ℕ} {d : Dispatched}
      → Goes z (by-round z) k s w t d → Steady z (by_number z) s w t → (m u : ℕ) → later z.threads m t ≡ u
      → m < length d.steps → ((j : ℕ) → j ≤ m → Moves s w (take j d.steps) u) → Step z rs d.steps 0 (suc m) u
  soon (over k s w t n x) a m u r l h = absurd (omega arith)
  soon (steps k s w t v s' e d q p g) a m u r l h = elim (ℕ_discrete v.thread u) [
    | yes i ↦ record { at = 0; from = omega arith; before = omega arith; own = i }
    | no n ↦
        let (i, less, there) = nearer s w t m u v q r (h 0 (omega arith)) n in
        step-more (row_of v) d.steps 0 (suc i) 0 (suc m) u (omega arith) (omega arith)
        (soon g (steady-next z (by_number z) s w t v a q s' e p) i u there (omega arith)
        (λ j b n. h (suc j) (omega arith) (shift z (by_number z) s w t v s' e a q p u (take j d.steps) ∙ n)))
  ]

  -- from any step on
  window : {k : ℕ} {s : State} {w : Wants} {t : ℕ} {d : Dispatched} → Goes z (by-round z) k s w t d → Steady z
      (by_number z) s w t
      → (i u : ℕ) → u < z.threads → i + z.threads ≤ length d.steps
      → ((j : ℕ) → i ≤ j → j < i + z.threads → Moves s w (take j d.steps) u)
      → Step z rs d.steps i (i + z.threads) u
  window g a zero u l n h =
      let r = reached z.threads _ u a.in-turn l in
      let x =
      soon g a r.places u r.there (omega (arith, r.few)) (λ j c. h j (omega arith) (omega (arith, r.few))) in
      record { at = x.at; from = x.from; before = omega (arith, x.before, r.few); own = x.own }
  window (over k s w t m x) a (suc i) u l n h = absurd (omega arith)
  window (steps k s w t v s' e d q p g) a (suc i) u l n h =
      step-more (row_of v) d.steps i (i + z.threads) (suc i) (suc i + z.threads) u (omega arith) (omega arith)
      (window {k = k} g (steady-next z (by_number z) s w t v a q s' e p) i u l (omega arith)
      (λ j x y n. h (suc j) (omega arith) (omega arith) (shift z (by_number z) s w t v s' e a q p u (take j
      d.steps) ∙ n)))

pub dispatch-fair : (z : Sizes)
    → InRange z → (rs : List Row) → first_refusal z rs ≡ 0 → Fair z rs (dispatch z rs).steps
unfolding dispatch_by
dispatch-fair z r rs e i u l n able =
    window z rs (goes z (round z.threads) most fresh (λ u. wants_of u rs) 0)
    (steady-begun z (round-lawful z.threads) r rs e 0 r.threads_least) i u l n
    (λ j a b q. able j a b (none-rests _ _ q))
