-- The dispatcher's loop, on the side of the definitions: the steps given so far, and what is still to come after them.
use Prim.{tt}
use Rattle.lock.proofs.Library.{ℕ, zero, suc, ◌+◌, ◌-◌, ◌≤◌, ◌<◌, ◌≡◌, refl, sym, ap, ◌∙◌, List, [], ◌∷◌, ◌++◌}
use Rattle.lock.proofs.Library.{append_assoc, none, some, arith, length, length-append}
use Rattle.laws.proofs.Lock.{Entry, Sizes, State, fresh, taken, refused, Row, step, InRange}
use Rattle.dispatch_model.specs.Dispatch.{wants_of, Wants, Turn, row_of, Dispatched, ended, stepped, go}
use Rattle.dispatch_model.specs.Dispatch.{Chooser, dispatch_by, offer, first_turn, turns_left, by_turns}
use Rattle.dispatch_model.specs.File.{first_refusal}
use Rattle.dispatch_model.proofs.Trace.{up_next, wants_after, turn_after}
use Rattle.dispatch_model.proofs.Order.{Lawful, by-turns-lawful, Steady, steady-begun, steady-next}

-- what is given before
abbrev pub before : List Row → Dispatched → Dispatched
before xs d = record { answer = d.answer; steps = xs ++ d.steps; state = d.state; wants = d.wants }

before-stepped : (xs : List Row) (r : Row) (d : Dispatched) → before xs (stepped r d) ≡ before (xs ++ r ∷ []) d
before-stepped xs r d =
    let e : xs ++ r ∷ d.steps ≡ (xs ++ r ∷ []) ++ d.steps = sym (append_assoc xs (r ∷ []) d.steps) in rw e

module _ (z : Sizes) {C : Type 0} {ch : Chooser C} {Right : C → Type 0} (law : Lawful z.threads ch Right)
    (c₀ : C) (rs : List Row) where
  abbrev all : Dispatched
  all = dispatch_by ch c₀ z rs

  pub record Sofar (given : List Row) (s : State) (w : Wants) (t : C) (i : ℕ) : Type 0 where
    pub long : length given ≡ i
    pub within : i ≤ 4096
    pub rest : all ≡ before given (go ch z (4096 - i) s w t)
    pub steady : Steady z law s w t

  pub begun : InRange z → first_refusal z rs ≡ 0 → Right c₀ → Sofar [] fresh (λ u. wants_of u rs) c₀ 0
  unfolding dispatch_by
  begun r e b = record { long = refl; within = omega arith; rest = refl; steady = steady-begun z law r rs e c₀ b }

  module _ {given : List Row} {s : State} {w : Wants} {t : C} {i : ℕ} (h : Sofar given s w t i) where
    ends_by : (n : ℕ) → go ch z (4096 - i) s w t ≡ ended n s w → all ≡ before given (ended n s w)
    ends_by n e = h.rest ∙ ap (before given) e

    -- 4,096 steps were given
    pub full : i ≡ 4096 → all ≡ before given (ended 0 s w)
    unfolding go
    full e = let k : 4096 - i ≡ 0 = omega arith in ends_by 0 (rw k)

    module _ (lt : i < 4096) where
      abbrev fuel : ℕ
      fuel = 4096 - (i + 1)

      one_more : 4096 - i ≡ suc fuel
      one_more = omega arith

      -- nobody's turn
      pub nobody : up_next ch s w t ≡ none → all ≡ before given (ended 0 s w)
      unfolding go
      nobody q = ends_by 0 (rw (one_more, q))

      module _ (v : Turn) (q : up_next ch s w t ≡ some v) where
        pub stops : (n : ℕ) → step z s (row_of v) ≡ refused n → all ≡ before given (ended n s w)
        unfolding go
        stops n p = ends_by n (rw (one_more, q, p))

        goes_on : (s' : State) (e : Entry) → step z s (row_of v) ≡ taken s' e
            → go ch z (4096 - i) s w t ≡ stepped (row_of v)
            (go ch z fuel s' (wants_after v w) (turn_after ch s w t v))
        unfolding go
        goes_on s' e p = rw (one_more, q, p)

        pub more : (s' : State) (e : Entry) → step z s (row_of v) ≡ taken s' e
            → Sofar (given ++ row_of v ∷ []) s' (wants_after v w) (turn_after ch s w t v) (i + 1)
        more s' e p =
            record {
              long = simp (length-append, h.long);
              within = omega arith;
              rest = h.rest ∙ ap (before given) (goes_on s' e p) ∙ before-stepped given (row_of v) _;
              steady = steady-next z law s w t v h.steady q s' e p;
            }

-- by a list of turns: one of them is passed over
same-go : (z : Sizes) (k : ℕ) (s : State) (w : Wants) (t : ℕ) (ts : List ℕ)
    → first_turn z.threads (offer s w) (t ∷ ts) ≡ first_turn z.threads (offer s w) ts
    → turns_left z.threads (offer s w) (t ∷ ts) ≡ turns_left z.threads (offer s w) ts
    → go (by_turns z.threads) z k s w (t ∷ ts) ≡ go (by_turns z.threads) z k s w ts
unfolding go
same-go z zero s w t ts a b = refl
same-go z (suc k) s w t ts a b = rw (a, b)

pub passes : (z : Sizes) (ts₀ : List ℕ) (rs : List Row) {given : List Row} {s : State} {w : Wants} {t i : ℕ}
    {ts : List ℕ} → Sofar z (by-turns-lawful z.threads) ts₀ rs given s w (t ∷ ts) i
    → first_turn z.threads (offer s w) (t ∷ ts) ≡ first_turn z.threads (offer s w) ts
    → turns_left z.threads (offer s w) (t ∷ ts) ≡ turns_left z.threads (offer s w) ts
    → Sofar z (by-turns-lawful z.threads) ts₀ rs given s w ts i
passes z ts₀ rs {given} {s} {w} {t} {i} {ts} h a b =
    record {
      long = h.long;
      within = h.within;
      rest = h.rest ∙ ap (before given) (same-go z (4096 - i) s w t ts a b);
      steady = record { inv = h.steady.inv; checked = h.steady.checked; in-turn = tt };
    }
