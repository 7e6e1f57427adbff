-- How the dispatcher goes: one rule for each way that it ends, and one for a step. The theorems are inductions over
-- these four, the first that the bench takes the steps given.
use Rattle.lock.proofs.Library.{ℕ, zero, suc, ◌≤◌, ◌≡◌, refl, ap, Option, none, some, List, [], ◌∷◌, arith, length}
use Rattle.laws.proofs.Lock.{Entry, Sizes, State, Outcome, taken, refused, fresh, step, Row, run, runs}
use Rattle.dispatch_model.specs.Dispatch.{Wants, now_wants, Offer, offer, Turn, row_of, Chooser, Dispatched}
use Rattle.dispatch_model.specs.Dispatch.{ended, stepped, whose, outcome, go, most, dispatch_by}

-- the calls that are wanted after the step of a turn
abbrev pub wants_after : Turn → Wants → Wants
wants_after v w = now_wants v.thread v.gets.later w

-- whose turn it is, and what the chooser keeps after it
module _ {C : Type 0} (ch : Chooser C) where
  abbrev pub up_next : State → Wants → C → Option Turn
  up_next s w c = ch.choose (offer s w) c

  abbrev pub turn_after : State → Wants → C → Turn → C
  turn_after s w c v = ch.after (offer s w) c v

  -- from what it kept, through these steps, to what it keeps
  pub data Trail : C → List Row → C → Type 0 where
    here : (c : C) → Trail c [] c
    further : (f : ℕ → Option Offer) (c : C) (v : Turn) (xs : List Row) (c' : C)
        → Trail (ch.after f c v) xs c' → Trail c (row_of v ∷ xs) c'

module _ (z : Sizes) {C : Type 0} (ch : Chooser C) where
  -- no step is given any more, of k that may be, and the answer is n
  pub data Over (s : State) (w : Wants) (t : C) : ℕ → ℕ → Type 0 where
    full : Over s w t zero 0
    rests : (k : ℕ) → up_next ch s w t ≡ none → Over s w t (suc k) 0
    refuses : (k : ℕ) (v : Turn) (n : ℕ) → up_next ch s w t ≡ some v → step z s (row_of v) ≡ refused n
        → Over s w t (suc k) n

  pub data Goes : ℕ → State → Wants → C → Dispatched → Type 0 where
    over : (k : ℕ) (s : State) (w : Wants) (t : C) (n : ℕ) → Over s w t k n → Goes k s w t (ended n s w)
    steps : (k : ℕ) (s : State) (w : Wants) (t : C) (v : Turn) (s' : State) (e : Entry) (d : Dispatched)
        → up_next ch s w t ≡ some v → step z s (row_of v) ≡ taken s' e → Goes k s' (wants_after v w)
        (turn_after ch s w t v) d
        → Goes (suc k) s w t (stepped (row_of v) d)

  -- the step of a turn, by what it comes to
  abbrev after : ℕ → State → Wants → C → Turn → Outcome → Dispatched
  after k s w t v = outcome (row_of v) (λ s'. go ch z k s' (wants_after v w) (turn_after ch s w t v)) (λ n. ended n s w)

  module _ (k : ℕ) (s : State) (w : Wants) (t : C)
      (ih : (s' : State) (w' : Wants) (t' : C) → Goes k s' w' t' (go ch z k s' w' t')) where
    by-outcome : (v : Turn) → up_next ch s w t ≡ some v
        → (o : Outcome) → step z s (row_of v) ≡ o → Goes (suc k) s w t (after k s w t v o)
    by-outcome v q (taken s' e) p = steps k s w t v s' e _ q p (ih s' _ _)
    by-outcome v q (refused n) p = over _ s w t n (refuses k v n q p)

    by_turn : (o : Option Turn)
        → up_next ch s w t ≡ o → Goes (suc k) s w t (whose (ended 0 s w) (λ v. after k s w t v (step z s (row_of v))) o)
    by_turn none q = over _ s w t 0 (rests k q)
    by_turn (some v) q = by-outcome v q (step z s (row_of v)) refl

  pub goes : (k : ℕ) (s : State) (w : Wants) (t : C) → Goes k s w t (go ch z k s w t)
  unfolding go
  goes zero s w t = over zero s w t 0 full
  goes (suc k) s w t = by_turn k s w t (goes k) (up_next ch s w t) refl

-- ---- the bench takes the steps given, all of them, and comes to the dispatcher's state

module _ (z : Sizes) where
  -- k more steps at most, run from s
  pub record Replayed (k : ℕ) (s : State) (d : Dispatched) : Type 0 where
    pub few : length d.steps ≤ k
    pub answer : (run z s d.steps).answer ≡ 0
    pub taken : (run z s d.steps).taken ≡ length d.steps
    pub state : (run z s d.steps).state ≡ d.state

  replay : {C : Type 0} {ch : Chooser C} {k : ℕ} {s : State} {w : Wants} {t : C} {d : Dispatched}
      → Goes z ch k s w t d → Replayed k s d
  unfolding run runs
  replay (over k s w t n x) = record { few = omega arith; answer = refl; taken = refl; state = refl }
  replay (steps k s w t v s' e d q p g) =
      let h = replay g in record {
        few = omega (arith, h.few);
        answer = rw p h.answer;
        taken = rw p (ap suc h.taken);
        state = rw p h.state;
      }

  pub dispatch_runs : {C : Type 0} (ch : Chooser C) (c : C) (rs : List Row) → Replayed most fresh (dispatch_by ch c z rs)
  unfolding dispatch_by
  dispatch_runs ch c rs = replay (goes z ch most fresh _ c)
