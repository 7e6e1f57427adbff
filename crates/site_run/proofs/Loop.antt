-- The loop over the turns: i of them are used, and the rest comes after them. Each way through the loop is one law.
use Rattle.lock.proofs.Library.{ℕ, suc, ◌+◌, ◌*◌, ◌<◌, ◌≡◌, refl, sym, ap, subst, ◌∙◌, Bool, true}
use Rattle.lock.proofs.Library.{false, List, arith, get_or, length, drop, drop-cons, drop_of_length-le, eqb, leb}
use native.Mathlib.Numerals.{add-one}
use Rattle.lock.proofs.Choice.{if-both}
use Rattle.std.specs.Prelude.{if◌then◌else◌}
use Rattle.step.specs.Reached.{Reached}
use Rattle.step.proofs.Reach.{reached-within}
use Rattle.site_model.specs.Site.{Site, Going, Went, on, stopped, further, measures, measured, at_turn, run, site}
use Rattle.site_model.specs.Code.{Fit}
use Rattle.site_model.proofs.Fits.{begun-fit, measures-fit, fit-more, FitAfter, turn-fit}
use Rattle.std.specs.Prelude.{Result, Ok, Err}
use Rattle.lock.specs.declared.Refusal.{Refusal}
use Rattle.lock.specs.Refusal.{number_of}
use Rattle.site_turn.specs.declared.{plan.Plan.Plan, SiteState.SiteState}
use Rattle.site_turn.specs.Turns.{ROOM, site_in, going_of, Waiting, Turnable, went_to, Turned}
use Rattle.site_run.specs.Runs.{measured_if, Running, RanTo}

-- ---- the end of the warm-up

measured-is : (over : Bool) (s : SiteState)
    → going_of (measured_if over s) ≡ (if over then measures (going_of s) else going_of s)
measured-is true s = refl
measured-is false s = refl

measured-waiting : (over : Bool) {s s' : SiteState} → s' ≡ measured_if over s → Waiting s → Waiting s'
measured-waiting over m w =
    rw m
    (if-both Waiting over (λ e. record { long = w.long; writing = w.writing; reading = w.reading }) (λ e. w))

measured-lock : (over : Bool) (s : SiteState) → (measured_if over s).lock ≡ s.lock
measured-lock true s = refl
measured-lock false s = refl

-- ---- the invariant

pub record Sofar (k : Plan) (turns : List ℕ) (s : SiteState) (i : ℕ) : Type 0 where
  pub reached : Reached k.sizes i s.lock
  pub fit : Fit (site_in k) (128 * i) (going_of s)
  pub waiting : Waiting s
  pub rest : site (site_in k) turns ≡ run (site_in k) i (drop i turns) (going_of s)

module _ {k : Plan} {turns : List ℕ} {s₀ : SiteState} (d : Running k turns s₀) where
  abbrev x : Site
  x = site_in k

  pub begins : Sofar k turns s₀ 0
  begins =
      record {
        reached = d.reached;
        fit = subst (Fit x 0) (sym d.known) (begun-fit x);
        waiting = d.waiting;
        rest = ap (run x 0 turns) (sym d.known);
      }

  module _ {s : SiteState} {i : ℕ} (h : Sofar k turns s i) where
    abbrev known : Going
    known = going_of s

    -- ---- the end

    pub ended : i ≡ length turns → {s' : SiteState} → s' ≡ measured_if (leb (length turns) k.pace.warm) s
        → RanTo x turns s' (Ok tt)
    unfolding run
    ended e {s'} m =
        let is = ap going_of m ∙ measured-is (leb (length turns) k.pace.warm) s in
        let last : Fit x (128 * i) (going_of s') =
        subst (Fit x (128 * i)) (sym is)
        (if-both (Fit x (128 * i)) (leb (length turns) k.pace.warm) (λ _. measures-fit x h.fit) (λ _. h.fit)) in
        record {
          went =
              h.rest ∙ ap (λ us. run x i us known) (drop_of_length-le turns {i = i} (omega arith))
              ∙ ap (λ n. on (measured x n known)) e ∙ ap on (sym is);
          ended =
              record {
                waiting = measured-waiting (leb (length turns) k.pace.warm) m h.waiting;
                few = (fit-more x {n = ROOM} (omega (arith, d.turns_few)) last).small.tally;
                long = last.small.done_long;
              };
        }

    -- ---- a turn

    module _ (lt : i < length turns) {s₁ : SiteState} (m : s₁ ≡ measured_if (eqb i k.pace.warm) s) where
      abbrev t : ℕ
      t = get_or turns i 0

      abbrev ready : Going
      ready = going_of s₁

      ready-is : ready ≡ (if eqb i k.pace.warm then measures known else known)
      ready-is = ap going_of m ∙ measured-is (eqb i k.pace.warm) s

      ready-fit : Fit x (128 * i) ready
      ready-fit =
          subst (Fit x (128 * i)) (sym ready-is)
          (if-both (Fit x (128 * i)) (eqb i k.pace.warm) (λ _. measures-fit x h.fit) (λ _. h.fit))

      ready-reached : Reached k.sizes i s₁.lock
      ready-reached = rw (m, measured-lock (eqb i k.pace.warm) s) h.reached

      pub turnable : Turnable k s₁
      turnable =
          record {
            reached = reached-within k.sizes (omega (arith, lt, d.turns_few)) ready-reached;
            fit = fit-more x (omega (arith, lt, d.turns_few)) ready-fit;
            waiting = measured-waiting (eqb i k.pace.warm) m h.waiting;
          }

      -- the run, by what the turn led to
      by_turn : (w : Went) → at_turn x t ready ≡ w
          → site x turns ≡ further (λ g. run x (suc i) (drop (suc i) turns) g) (measured x i) w
      unfolding run
      by_turn w e =
          h.rest ∙ ap (λ us. run x i us known) (drop-cons turns i 0 lt)
          ∙ ap (further (λ g. run x (suc i) (drop (suc i) turns) g) (measured x i))
          (ap (at_turn x t) (sym ready-is) ∙ e)

      module _ {u : ℕ} (who : u ≡ t) {s' : SiteState} where
        after-fit : {r : Result (Unit {0}) Refusal} → Turned k u (at_turn x u ready) s₁ s' r
            → FitAfter x (128 * i + 128) (went_to r (going_of s'))
        after-fit y = subst (FitAfter x (128 * i + 128)) y.went (turn-fit x d.reached.range.threads u ready-fit)

        went-by : {r : Result (Unit {0}) Refusal} → Turned k u (at_turn x u ready) s₁ s' r
            → at_turn x t ready ≡ went_to r (going_of s')
        went-by y = ap (λ v. at_turn x v ready) (sym who) ∙ y.went

        pub more : Turned k u (at_turn x u ready) s₁ s' (Ok tt) → Sofar k turns s' (i + 1)
        more y =
            subst (Sofar k turns s') (sym (add-one i))
            (record {
              reached = y.keeps i ready-reached;
              fit = fit-more x (omega arith) (after-fit y);
              waiting = y.waiting;
              rest = by_turn (on (going_of s')) (went-by y);
            })

        pub stop : {a : Refusal} → Turned k u (at_turn x u ready) s₁ s' (Err a) → {s'' : SiteState}
            → s'' ≡ measured_if (leb i k.pace.warm) s' → RanTo x turns s'' (Err a)
        stop {a} y {s''} e =
            let is = ap going_of e ∙ measured-is (leb i k.pace.warm) s' in
            let fit : Fit x (128 * i + 128) (going_of s') = after-fit y in
            let last : Fit x (128 * i + 128) (going_of s'') =
            subst (Fit x (128 * i + 128)) (sym is)
            (if-both (Fit x (128 * i + 128)) (leb i k.pace.warm) (λ _. measures-fit x fit) (λ _. fit)) in
            record {
              went =
                  by_turn (stopped (number_of a) (going_of s')) (went-by y) ∙ ap (stopped (number_of a)) (sym is);
              ended =
                  record {
                    waiting = measured-waiting (leb i k.pace.warm) e y.waiting;
                    few = (fit-more x {n = ROOM} (omega (arith, lt, d.turns_few)) last).small.tally;
                    long = last.small.done_long;
                  };
            }
