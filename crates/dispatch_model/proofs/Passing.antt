-- The round: whoever it passes over before the thread that gets a step, or is refused one, rests.
use Rattle.lock.proofs.Library.{ℕ, zero, suc, ◌<◌, ◌≡◌, refl, sym, subst, ◌∙◌, ◌⊎◌, inl, inr, List, ◌∷◌, none, some}
use Rattle.lock.proofs.Library.{arith, dec_lt, ℕ_discrete, length, take}
use Rattle.laws.proofs.Lock.{Sizes, State, fresh, runs, Row, run, InRange}
use Rattle.dispatch_model.specs.Dispatch.{wants_of, Wants, offer, behind, Turn, row_of, Dispatched, most}
use Rattle.dispatch_model.specs.Dispatch.{dispatch_by, dispatch}
use Rattle.dispatch_model.specs.File.{first_refusal}
use Rattle.dispatch_model.specs.Claims.{Sooner, thread_of, turn_from, Step, Rested, Round, Once}
use Rattle.dispatch_model.proofs.Trace.{up_next, Trail, here, further, Goes, over, steps, goes}
use Rattle.dispatch_model.proofs.Order.{Steady, steady-begun, steady-next, none-rests}
use Rattle.dispatch_model.proofs.Round.{found, sooner, sooner-behind, sooner-split}
use Rattle.dispatch_model.proofs.Fair.{offer_after, shift, by-round, by_number}

-- the round, which stands at thread t, began with thread a: whoever comes before another from a on does so from t on
abbrev pub Began : Sizes → ℕ → ℕ → Type 0
Began z a t = (u v : ℕ) → u < z.threads → Sooner a u v → Sooner t u v

-- one step further on
pub from_more : (a : ℕ) (r : Row) (xs : List Row) (j : ℕ)
    → turn_from a (r ∷ xs) (suc j) ≡ turn_from (suc r.thread) xs j
from_more a r xs zero = refl
from_more a r xs (suc j) = refl

module _ (z : Sizes) where
  module _ (s : State) (w : Wants) (t : ℕ) (v : Turn) (l : t < z.threads) (q : up_next
      (by-round z) s w t ≡ some v) where
    -- the turn is that of v, and u comes before it
    pub passed_over : (u : ℕ) → u < z.threads → Sooner t u v.thread → offer s w u ≡ none
    passed_over u k b =
        let c = found z.threads (offer s w) z.threads t v q in
        let (m, few, there) = sooner z.threads t u c.places l k c.few (rw c.there b) in
        rw there at (c.before m few)

  began-next : (t : ℕ) → Began z (suc t) (behind z.threads t)
  began-next t u x = sooner-behind z.threads t u x

  -- where the round stands after steps, by the last of them
  pub began-after : {t u : ℕ} {xs : List Row} (a : ℕ)
      → Trail (by-round z) t xs u → Began z a t → Began z (turn_from a xs (length xs)) u
  began-after a (here t) h = h
  began-after a (further f t v xs u x) h =
      rw (from_more a (row_of v) xs (length xs)) (began-after (suc v.thread) x (began-next v.thread))

  -- of all steps that are given from t on
  passes : {k : ℕ} {s : State} {w : Wants} {t : ℕ} {d : Dispatched} → Goes z (by-round z) k s w t d
      → Steady z (by_number z) s w t → (a : ℕ) → Began z a t → (j u : ℕ) → j < length d.steps → u < z.threads
      → Sooner (turn_from a d.steps j) u (thread_of d.steps j) → offer_after z s w (take j d.steps) u ≡ none
  unfolding run runs offer
  passes (over k s w t n x) h a f j u l m b = absurd (omega arith)
  passes (steps k s w t v s' e d q p g) h a f zero u l m b =
      passed_over s w t v h.in-turn q u m (f u v.thread m b)
  passes (steps k s w t v s' e d q p g) h a f (suc j) u l m b =
      shift z (by_number z) s w t v s' e h q p u (take j d.steps)
      ∙ passes g (steady-next z (by_number z) s w t v h q s' e p) (suc v.thread) (began-next v.thread) j u
      (omega arith) m (rw (from_more a (row_of v) d.steps j) at b)

pub dispatch-round : (z : Sizes)
    → InRange z → (rs : List Row) → first_refusal z rs ≡ 0 → Round z rs (dispatch z rs).steps
unfolding dispatch_by
dispatch-round z r rs e j l u m b =
    none-rests _ _
    (passes z (goes z (by-round z) most fresh (λ u. wants_of u rs) 0)
    (steady-begun z (by_number z) r rs e 0 r.threads_least) 0 (λ u v l b. b) j u l m b)

-- ---- one step a round: from one step of a thread to its next the round comes by all others

module _ (z : Sizes) (rs xs : List Row) (h : Round z rs xs) where
  abbrev Met : ℕ → ℕ → ℕ → Type 0
  Met i j u = Step z rs xs i j u ⊎ Rested z rs xs i (suc j) u

  met-more : (i j u : ℕ) → Met i j u → Met i (suc j) u
  met-more i j u (inl x) =
      inl (record { at = x.at; from = x.from; before = omega (arith, x.before); own = x.own })
  met-more i j u (inr x) =
      inr (record { at = x.at; from = x.from; before = omega (arith, x.before); rests = x.rests })

  comes-by : (i j u : ℕ) → i < j → j < length xs → u < z.threads → Sooner (suc (thread_of xs i)) u (thread_of xs j)
      → Met (suc i) j u
  comes-by i zero u l m k b = absurd (omega arith)
  comes-by i (suc j) u l m k b = elim (ℕ_discrete u (thread_of xs j)) [
    | yes e ↦ own (dec_lt i j) e
    | no n ↦ elim (dec_lt i j) [
      | yes lt ↦ elim (sooner-split (suc (thread_of xs i)) u (thread_of xs j) (thread_of xs (suc j)) n b) [
        | inl x ↦ met-more (suc i) j u (comes-by i j u lt (omega arith) k x)
        | inr x ↦ rests x
      ]
      | no ge ↦ rests (subst (λ (x : ℕ). Sooner (suc (thread_of xs x)) u (thread_of xs (suc j))) (last ge) b)
    ]
  ]
    where
      last : (i < j → ⊥) → i ≡ j
      last ge = omega arith

      rests : Sooner (suc (thread_of xs j)) u (thread_of xs (suc j)) → Met (suc i) (suc j) u
      rests x = inr (record { at = suc j; from = omega arith; before = omega arith; rests = h (suc j) m u k x })

      -- nobody comes before itself
      none_before : Sooner (suc (thread_of xs j)) u (thread_of xs (suc j)) → u ≡ thread_of xs j → ⊥
      none_before x e = elim x [
        | inl y ↦ omega (arith, y.0)
        | inr (inl y) ↦ omega (arith, y.0, y.1)
        | inr (inr y) ↦ omega (arith, y.1)
      ]

      -- step j is u's, and is not step i
      own : Dec (i < j) → u ≡ thread_of xs j → Met (suc i) (suc j) u
      own (yes lt) e = inl (record { at = j; from = omega arith; before = omega arith; own = sym e })
      own (no ge) e = absurd (none_before (rw (last ge) at b) e)

  pub round-once : Once z rs xs
  round-once i j u l m e k n = comes-by i j u l m k (rw e around)
    where
      around : Sooner (suc (thread_of xs i)) u (thread_of xs i)
      around = elim (dec_lt u (thread_of xs i)) [
        | yes lt ↦ inr (inl (lt, omega arith))
        | no ge ↦ inr (inr (omega arith, omega arith))
      ]
