-- A row of a site's run, put together from what its parts ensure: refused; or made, with its call begun or gone on
-- with, and the calls that are over finished.
use Rattle.lock.proofs.Library.{ℕ, suc, ◌≤◌, ◌<◌, ◌≡◌, sym, ap, subst, ◌∙◌, ◌≢◌, List, arith, eqb}
use Rattle.lock.proofs.Library.{eq-eqb, ne_eqb, ℕ_discrete, false}
use Rattle.lock.proofs.Choice.{if-both}
use Rattle.laws.proofs.Cases.{dec-both}
use Rattle.std.specs.Prelude.{if◌then◌else◌}
use Rattle.lock.specs.Machine.{Row}
use Rattle.lock.specs.State.{Outcome, taken, refused}
use Rattle.lock.specs.Run.{step}
use Rattle.cells.specs.View.{state_of}
use Rattle.rows.specs.Outcome.{Comes}
use Rattle.std.specs.Prelude.{Ok}
use Rattle.lock.specs.declared.Entry.{Entry}
use Rattle.step.specs.Reached.{Reached, Steps}
use Rattle.site_model.specs.Site.{Site, Going, on, is_over, finished, makes, begins, row_of}
use Rattle.site_model.specs.Code.{Small}
use Rattle.site_model.proofs.Counts.{small-makes, small-begins}
use Rattle.site_model.proofs.Sweep.{finished-one, others-settled, begins-settled}
use Rattle.site_turn.specs.Turns.{MOST, MADE, Plan, SiteState, site_in, going_of, Waiting, Countable, row_counted}
use Rattle.site_turn.specs.Turns.{begun_if, Finishable, Ends, finished_after, Gets, Turnable, Turned}
use Rattle.site_turn.proofs.Over.{few-waiting}

module _ {k : Plan} {s : SiteState} (d : Turnable k s) {t o : ℕ} (g : Gets k s t o) where
  abbrev x : Site
  x = site_in k

  abbrev known : Going
  known = going_of s

  abbrev r : Row
  r = record { thread = t; order = o }

  abbrev ts : List ℕ
  ts = k.threads.now

  pub there : t < 64
  there = omega (arith, g.there, d.reached.range.threads)

  pub threads-few : k.sizes.threads ≤ 64
  threads-few = d.reached.range.threads

  module _ {l' : List ℕ} where
    pub countable : Countable t (record s { lock = l' })
    countable =
        record {
          there = there;
          failed = d.fit.small.failed;
          row = d.fit.small.row;
          tally = d.fit.small.tally;
          few = few-waiting d.waiting;
        }

    -- ---- taken

    module _ {e : Entry} (y : Steps k.sizes r s.lock l' (Ok e)) where
      took : step k.sizes (state_of s.lock) r ≡ taken (state_of l') e
      took = from (step k.sizes (state_of s.lock) r) y.comes
        where
          from : (q : Outcome) → Comes s.lock l' (Ok e) q → q ≡ taken (state_of l') e
          from (refused a) c = let i = c.is in absurd (cc)
          from (taken s' e') c = let i = c.is in let j = c.left.state in cc

      abbrev made : Going
      made = makes t (state_of l') e known

      made-small : Small MADE made
      made-small = small-makes MOST t (state_of l') e known d.fit.small

      abbrev after : Going
      after = if eqb o 0 then made else begins ts t o made

      after_small : Small MADE after
      after_small = if-both (Small MADE) (eqb o 0) (λ e. made-small) (λ e. small-begins MADE ts t o made made-small)

      -- the row is counted
      module _ {s₁ : SiteState} (a : s₁ ≡ row_counted t e (record s { lock = l' })) where
        counted_is : going_of s₁ ≡ made
        counted_is = rw (a, d.waiting.writing, d.waiting.reading)

        module _ {s₂ : SiteState} (b : s₂ ≡ begun_if ts t o s₁) where
          -- begun or gone on with
          either_is : going_of s₂ ≡ after
          either_is =
              dec-both (ℕ_discrete o 0) (λ e. rw (b, eq-eqb o 0 e) counted_is)
              (λ n. rw (b, ne_eqb o 0 n) (ap (begins ts t o) counted_is))

          lock-is : s₂.lock ≡ l'
          lock-is = dec-both (ℕ_discrete o 0) (λ e. rw (b, eq-eqb o 0 e, a)) (λ n. rw (b, ne_eqb o 0 n, a))

          pub either-finishable : Waiting s₂ → Finishable MADE s₂
          either-finishable w =
              record { small = subst (Small MADE) (sym either_is) after_small; waiting = w }

      -- ---- the calls that are over

      -- where nobody is woken, only its own can be
      alone : e.kind ≢ 9 → (u : ℕ) → u < k.sizes.threads → u ≢ t → is_over after u ≡ false
      alone i u lt ne =
          let others = others-settled x known (state_of l') t o e took i d.fit.settled in
          if-both (λ h. is_over h u ≡ false) (eqb o 0) (λ e. others u lt ne)
          (λ e. begins-settled ts t o made k.sizes.threads others u lt ne)

      finished-is : finished_after k e.kind t after ≡ finished k.pace.hold k.pace.think k.sizes.threads after
      finished-is =
          dec-both (ℕ_discrete e.kind 9) (λ i. rw (eq-eqb e.kind 9 i))
          (λ i. rw (ne_eqb e.kind 9 i)
          (sym (finished-one k.pace.hold k.pace.think after t k.sizes.threads g.there (alone i))))

      pub row-ended : {s₁ s₂ s₃ : SiteState} → s₁ ≡ row_counted t e (record s { lock = l' }) → s₂ ≡ begun_if ts t o s₁
          → Ends (finished_after k e.kind t) s₂ s₃
          → Turned k t (row_of x t o known (step k.sizes (state_of s.lock) r)) s s₃ (Ok tt)
      row-ended a b f =
          record {
            went =
                ap (row_of x t o known) took
                ∙ ap on (sym finished-is ∙ ap (finished_after k e.kind t) (sym (either_is a b)) ∙ sym f.going);
            waiting = f.waiting;
            keeps = λ n h. subst (λ l. Reached k.sizes (suc n) l) (sym (f.lock ∙ lock-is a b)) (y.keeps n h);
          }
