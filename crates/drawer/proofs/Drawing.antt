-- Turns that are passed over: of those behind them the definitions' chooser makes the same.
use Rattle.lock.proofs.Library.{ℕ, ◌≡◌, sym, ◌∙◌, List, [], ◌∷◌, Option, none, Bool, true, false, arith, eqb, eqb-true}
use Rattle.lock.proofs.Library.{eqb-false}
use Rattle.std.specs.Prelude.{Some}
use Rattle.laws.specs.Sleeping.{bit_at}
use Rattle.laws.proofs.Sum.{bit_le}
use Rattle.dispatch_model.specs.Dispatch.{Offer, first_turn, turns_left, by_turns}
use Rattle.dispatch_model.proofs.Round.{Able, Chosen, at_turn, turns-behind, pass-over, nobody-left}
use Rattle.dispatcher.specs.Choosing.{Chooses}

-- whoever is able to move, the turns ts₀ come to what the turns ts do
abbrev pub Over : (T able : ℕ) (ts₀ ts : List ℕ) → Type 0
Over T able ts₀ ts = (f : ℕ → Option Offer) → Able T able f
    → (first_turn T f ts₀ ≡ first_turn T f ts) × (turns_left T f ts₀ ≡ turns_left T f ts)

module _ {T able : ℕ} (ts₀ ts : List ℕ) (over : Over T able ts₀ ts) where
  -- there is none, or nobody is able to move
  pub used-up : ts ≡ [] → (f : ℕ → Option Offer) → Able T able f → first_turn T f ts₀ ≡ none
  unfolding first_turn
  used-up e f h = (over f h).0 ∙ rw e

  pub none-able : able ≡ 0 → (f : ℕ → Option Offer) → Able T able f → first_turn T f ts₀ ≡ none
  none-able e f h = (over f h).0 ∙ nobody-left T able f h e ts

  module _ {t : ℕ} {behind : List ℕ} (e : ts ≡ t ∷ behind) where
    -- its thread is able to move
    pub gets : bit_at able t ≡ 1 → Chooses (by_turns T) T able ts₀ behind (Some t)
    gets one f h =
        let x : Chosen (by_turns T) T f (t ∷ behind) t = at_turn T able f h t behind one in
        let both = rw e at (over f h) in (
          record { gets = x.gets; up_next = both.0 ∙ x.up_next; offers-it = x.offers-it; there = x.there },
          sym (both.1 ∙ turns-behind T able f h t behind one),
        )

    pub passed_over : bit_at able t ≡ 0 → Over T able ts₀ behind
    passed_over z f h =
        let both = rw e at (over f h) in
        let next = pass-over T able f h t behind z in
        (both.0 ∙ next.0, both.1 ∙ next.1)

-- what the code's test of a thread says
pub is_one : (b : ℕ) {r : Bool} → r ≡ eqb b 1 → r ≡ true → b ≡ 1
is_one b s e = eqb-true b 1 (sym s ∙ e)

pub is_none : (able t : ℕ) {r : Bool} → r ≡ eqb (bit_at able t) 1 → r ≡ false → bit_at able t ≡ 0
is_none able t s e = let n = eqb-false (bit_at able t) 1 (sym s ∙ e) in omega (arith, n, bit_le t able)
