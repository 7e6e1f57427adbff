-- By a list of turns: turn by turn, whoever is able to move gets the step.
use Prim.{tt}
use Rattle.lock.proofs.Library.{ℕ, suc, ◌+◌, ◌≤◌, ◌≡◌, refl, sym, subst, ap, ◌∙◌, ◌≢◌, ◌⊎◌, inl, inr, Bool, true, false}
use Rattle.lock.proofs.Library.{not, ◌&&◌, List, [], ◌∷◌, ◌++◌, Option, none, some, arith, dec_lt, eqb, lt-ltb, length}
use Rattle.lock.proofs.Library.{length-append, append_assoc, append-nil, take_at, drop, drop-drop, drop_at}
use Rattle.lock.proofs.Library.{get_or-append_seam}
use Rattle.std.specs.Prelude.{if◌then◌else◌}
use Rattle.laws.proofs.Lock.{is_by, Standing, Sizes, State, fresh, Entry, taken}
use Rattle.laws.proofs.Lock.{runs, step, Row, run, InRange}
use Rattle.lock.proofs.Machine.{run_more}
use Rattle.lock.proofs.Choice.{clash}
use Rattle.dispatch_model.specs.Dispatch.{wants_of, Wants, Offer, offer, Turn, row_of, Dispatched, most, dispatch_by}
use Rattle.dispatch_model.specs.Dispatch.{Chooser, drawn, within, up_to, first_turn, turns_left, by_turns}
use Rattle.dispatch_model.specs.File.{first_refusal}
use Rattle.dispatch_model.specs.Claims.{begun_by, unbegun, InOrder, Rests, RestsAt, AtTurns, gets, passed}
use Rattle.dispatch_model.specs.Claims.{used, enough, denied}
use Rattle.dispatch_model.proofs.Trace as trace
use Rattle.dispatch_model.proofs.Trace.{up_next, wants_after, Goes, goes}
use Rattle.dispatch_model.proofs.Order.{none-rests, turn-offers, Offers, on, anew, Lawful, by-turns-lawful}
use Rattle.dispatch_model.proofs.Order.{Steady, steady-begun, steady-next, step-either}
use Rattle.dispatch_model.proofs.Ends.{Led, given-in-order, unsuitable, unsuited}

-- a thread that gets a step does not rest
no-rest : (x : Standing) (os : List ℕ) (g : Offer)
    → Offers x os g → (x ≡ Standing.Asleep) ⊎ ((x ≢ Standing.Calling) × (os ≡ [])) → ⊥
no-rest x os g (on c e) (inl a) = clash cc
no-rest x os g (on c e) (inr a) = a.0 c
no-rest x os g (anew m n e) (inl a) = n a
no-rest x os g (anew m n e) (inr a) = let y = sym e ∙ a.1 in clash cc

-- ---- one step more

begun-if : (b : Bool) (o : ℕ) (l m k : List ℕ) → l ≡ m ++ k → (if b then o ∷ l else l) ≡ (if b then o ∷ m else m) ++ k
begun-if true o l m k e = ap (λ (x : List ℕ). o ∷ x) e
begun-if false o l m k e = e

begun_more : (u : ℕ) (xs : List Row) (r : Row) → begun_by u (xs ++ r ∷ []) ≡ begun_by u xs ++ begun_by u (r ∷ [])
begun_more u [] r = refl
begun_more u (x ∷ xs) r =
    begun-if (is_by u x && not (eqb x.order 0)) x.order (begun_by u (xs ++ r ∷ [])) (begun_by u xs)
    (begun_by u (r ∷ [])) (begun_more u xs r)

module _ (z : Sizes) (rs : List Row) where
  abbrev by : Chooser (List ℕ)
  by = by_turns z.threads

  abbrev law : Lawful z.threads (by_turns z.threads) (λ ts. Unit {0})
  law = by-turns-lawful z.threads

  module _ {xs : List Row} {s : State} {w : Wants} (l : Led z rs xs s w) where
    -- what is left of thread u's calls, where the row begins os of them
    left-more : (u : ℕ) (r : Row) (os later : List ℕ)
        → begun_by u (r ∷ []) ≡ os → w u ≡ os ++ later → unbegun u rs (xs ++ r ∷ []) ≡ later
    left-more u r os later b e =
        let n = length (begun_by u xs) in
        let more : length (begun_by u (xs ++ r ∷ [])) ≡ n + length os =
        ap length (begun_more u xs r) ∙ length-append (begun_by u xs) (begun_by u (r ∷ []))
        ∙ ap (λ (k : List ℕ). n + length k) b in
        ap (λ (k : ℕ). drop k (wants_of u rs)) more ∙ sym (drop-drop (length os) n (wants_of u rs))
        ∙ ap (drop (length os)) (l.left u ∙ e) ∙ drop_at os later (length os) refl

    led-more : (ts : List ℕ) (v : Turn) → Steady z law s w ts → up_next by s w ts ≡ some v
        → (s' : State) (e : Entry) → step z s (row_of v) ≡ taken s' e → Led z rs (xs ++ row_of v ∷ []) s' (wants_after v w)
    unfolding run
    led-more ts v h q s' e p =
        let k = run_more (step z) fresh xs (row_of v) {t = s'} {y = e} l.taken (rw l.state p) in
        record {
          taken = k.0;
          state = k.1;
          left = λ u. elim (step-either z law s w ts v h q u) [
            | inl c ↦ left-more u (row_of v) [] (wants_after v w u) (c.0 []) (sym c.1)
            | inr c ↦ left-more u (row_of v) (v.gets.order ∷ []) (wants_after v w u) (c.0 []) c.1
          ];
        }

    -- ---- who rests, and who is able to move, after the steps xs of xs ++ ys

    module _ (ys : List Row) where
      abbrev j : ℕ
      j = length xs

      abbrev all : List Row
      all = xs ++ ys

      rests-now : (u : ℕ) → Rests s (w u) u → RestsAt z rs all j u
      rests-now u h =
          subst (λ (x : List Row). Rests (run z fresh x).state (unbegun u rs x) u)
          (sym (take_at xs ys (length xs) refl)) (rw (l.state, l.left u) h)

      rested-now : (u : ℕ) → RestsAt z rs all j u → Rests s (w u) u
      rested-now u h =
          rw (l.state, l.left u) at (subst (λ (x : List Row). Rests (run z fresh x).state (unbegun u rs x) u)
          (take_at xs ys (length xs) refl) h)

      -- a turn is passed over
      no-offer : (t : ℕ) → within z.threads (offer s w) t ≡ none → (z.threads ≤ t) ⊎ RestsAt z rs all j t
      unfolding offer
      no-offer t e = elim (dec_lt t z.threads) [
        | yes k ↦ inr (rests-now t (none-rests _ _ (rw (lt-ltb t z.threads k) at e)))
        | no k ↦ inl (omega arith)
      ]

      -- the turns from the one that is not passed over on; none, where all are
      abbrev from_first : Option Turn → List ℕ → List ℕ
      from_first none ts = []
      from_first (some v) ts = v.thread ∷ ts

      one-passed : (n t : ℕ) (ts : List ℕ) (o : Option Offer)
          → (o ≡ none → (z.threads ≤ t) ⊎ RestsAt z rs all j t)
          → (AtTurns z rs all j n
          (from_first (first_turn z.threads (offer s w) ts) (turns_left z.threads (offer s w) ts))
          → AtTurns z rs all j n ts)
          → AtTurns z rs all j n (from_first
          (up_to (first_turn z.threads (offer s w) ts) (λ o. some (record { thread = t; gets = o })) o)
          (up_to (turns_left z.threads (offer s w) ts) (λ o. ts) o))
          → AtTurns z rs all j n (t ∷ ts)
      one-passed n t ts none why ih h = passed j n t ts (why refl) (ih h)
      one-passed n t ts (some o) why ih h = h

      all-passed : (n : ℕ) (ts : List ℕ) → AtTurns z rs all j n
          (from_first (first_turn z.threads (offer s w) ts) (turns_left z.threads (offer s w) ts))
          → AtTurns z rs all j n ts
      unfolding first_turn turns_left
      all-passed n [] h = h
      all-passed n (t ∷ ts) h =
          one-passed n t ts (within z.threads (offer s w) t) (no-offer t) (all-passed n ts) h

  -- ---- the steps from here on

  -- a step is given, and those behind it
  one-given : (s : State) (w : Wants) (ts : List ℕ) (v : Turn) (d : Dispatched) → Steady z law s w ts
      → up_next by s w ts ≡ some v → (xs : List Row) → Led z rs xs s w
      → AtTurns z rs ((xs ++ row_of v ∷ []) ++ d.steps) (length (xs ++ row_of v ∷ [])) d.answer
      (turns_left z.threads (offer s w) ts)
      → AtTurns z rs (xs ++ row_of v ∷ d.steps) (length xs) d.answer ts
  one-given s w ts v d h q xs l rest =
      let more : length (xs ++ row_of v ∷ []) ≡ suc (length xs) =
      simp length-append (omega arith) in
      all-passed l (row_of v ∷ d.steps) d.answer ts (rw q
      (gets (length xs) d.answer v.thread (turns_left z.threads (offer s w) ts)
      (omega (arith, length-append xs (row_of v ∷ d.steps)))
      (ap (λ (r : Row). r.thread) (get_or-append_seam xs (row_of v) d.steps (record { thread = 0; order = 0 })))
      (λ r. no-rest _ _ _ (turn-offers law s w ts v q) (rested-now l (row_of v ∷ d.steps) v.thread r))
      (rw (more, append_assoc xs (row_of v ∷ []) d.steps) at rest)))

  at-turns : {k : ℕ} {s : State} {w : Wants} {ts : List ℕ} {d : Dispatched} → Goes z by k s w ts d → Steady z law s w ts
      → (xs : List Row) → Led z rs xs s w → length xs + k ≡ 4096
      → AtTurns z rs (xs ++ d.steps) (length xs) d.answer ts
  at-turns (trace.over _ s w ts n trace.full) h xs l few =
      rw (append-nil xs) (enough (length xs) ts refl (omega arith))
  at-turns (trace.over _ s w ts n (trace.rests k q)) h xs l few =
      all-passed l [] 0 ts (rw (q, append-nil xs) (used (length xs) refl))
  at-turns (trace.over _ s w ts n (trace.refuses k v m q p)) h xs l few =
      all-passed l [] n ts
      (rw (q, append-nil xs, (unsuited z law s w ts v n h q p).0)
      (denied (length xs) _ (row_of v) refl (unsuitable z law s w ts v n h q p l (omega arith))))
  at-turns (trace.steps k s w ts v s' e d q p g) h xs l few =
      one-given s w ts v d h q xs l
      (at-turns g (steady-next z law s w ts v h q s' e p) (xs ++ row_of v ∷ []) (led-more l ts v h q s' e p)
      (omega (arith, length-append xs (row_of v ∷ []))))

module _ (ts : List ℕ) (z : Sizes) (rs : List Row) (e : first_refusal z rs ≡ 0) (r : InRange z) where
  pub drawn-in-order : InOrder rs (drawn ts z rs).steps
  drawn-in-order = given-in-order z (by-turns-lawful z.threads) rs e r ts tt

  pub drawn-at-turns : AtTurns z rs (drawn ts z rs).steps 0 (drawn ts z rs).answer ts
  unfolding dispatch_by run runs
  drawn-at-turns =
      at-turns z rs (goes z (by_turns z.threads) most fresh (λ u. wants_of u rs) ts)
      (steady-begun z (by-turns-lawful z.threads) r rs e ts tt) [] (record {
        taken = refl;
        state = refl;
        left = λ u. refl;
      }) refl
