-- Before the first turn, and what a file's run came to.
use Rattle.lock.proofs.Library.{ℕ, zero, suc, ◌≤◌, ◌<◌, ◌≡◌, refl, sym, ap, subst, ◌∙◌, ◌≢◌, List, arith, get_or}
use Rattle.lock.proofs.Library.{length, drop, length-drop, length-take-le}
use Rattle.lock.proofs.Library.{ext_get_or, none, some}
use Rattle.lock.proofs.Accepted.{neither}
use Rattle.lock.specs.declared.Sizes.{Sizes}
use Rattle.lock.specs.File.{sizes_of, paired}
use Rattle.step.specs.Reached.{Begun}
use Rattle.dispatch_model.specs.Code.{Linked}
use Rattle.dispatch_model.proofs.Order.{rows_pass}
use Rattle.dispatcher.proofs.Answering.{all_there}
use Rattle.file.proofs.Checks.{not-zero}
use Rattle.std.specs.Prelude.{Result, Ok, Err}
use Rattle.lock.specs.declared.Refusal.{Refusal}
use Rattle.lock.specs.Refusal.{number_of, answer_number}
use Rattle.site_model.specs.Site.{Site, Going, first_calls, site}
use Rattle.site_model.specs.File.{row_count, threads_of, orders_of, site_of, shape_refusal, refusal, ran_to, ran_unless}
use Rattle.site_model.specs.File.{site_run}
use Rattle.site_model.specs.Claims.{Replays}
use Rattle.site_model.proofs.Replays.{replays}
use Rattle.site_model.proofs.Fits.{begun-places}
use Rattle.site_turn.specs.declared.{plan.Pace.Pace, plan.Plan.Plan, SiteState.SiteState}
use Rattle.site_turn.specs.Turns.{nothing_known, site_in, going_of, went_to}
use Rattle.site_run.specs.Runs.{Running, RanTo, pace_of, RanSite}
use Rattle.site_run.proofs.Refusal.{Accepted, accepted}

-- ---- the start

first-is : (ts first later : List ℕ) → Linked ts first later 0 → first ≡ first_calls ts 0 64
first-is ts first later k =
    ext_get_or 0 first (first_calls ts 0 64) k.heads_long
    (λ u l. k.head u (omega (arith, k.heads_long)) ∙ sym (begun-places ts u (omega (arith, k.heads_long))))

-- ---- a file that no check refuses

-- by its shape
module _ (b : List ℕ) (turns : ℕ) (shape : shape_refusal b turns ≡ 0) where
  k : Accepted b turns
  k = accepted b turns shape

  threads-long : length (threads_of b) ≡ row_count b
  threads-long = length-take-le (row_count b) (drop 11 b) (simp length-drop (omega (arith, k.exact)))

  orders-long : length (orders_of b) ≡ row_count b
  orders-long = simp length-drop (omega (arith, k.exact))

  pub calls-few : length (threads_of b) ≤ 4096
  calls-few = omega (arith, threads-long, k.few)

  pub calls-same : length (orders_of b) ≡ length (threads_of b)
  calls-same = orders-long ∙ sym threads-long

-- and by its rows
module _ (b : List ℕ) (turns : ℕ) (good : refusal b turns ≡ 0) where
  pub shape-good : shape_refusal b turns ≡ 0
  shape-good = (neither _ _ good).0

  accepts : Accepted b turns
  accepts = accepted b turns shape-good

  pub callers-there : (i : ℕ) → i < length (threads_of b) → get_or (threads_of b) i 0 < 64
  callers-there i l =
      let there = all_there (sizes_of b) (threads_of b) (orders_of b) (calls-same b turns shape-good)
      (rows_pass (sizes_of b) (paired (threads_of b) (orders_of b)) (neither _ _ good).1) in
      omega (arith, there i l, accepts.range.threads)

pub started : {p : Plan} {ts l : List ℕ} (b : List ℕ) → refusal b (length ts) ≡ 0 → site_in p ≡ site_of b → Begun l
    → Running p ts (record nothing_known { lock = l; next = p.first.now })
started {p} {ts} b good e f =
    record {
      turns_few = (accepts b (length ts) good).turns_few;
      reached = f.reached p.sizes (rw (ap (λ (x : Site). x.sizes) e) (accepts b (length ts) good).range);
      known = rw (f.state, first-is p.threads.now p.first.now p.later.now p.linked);
      waiting = record { long = refl; writing = refl; reading = refl };
    }

pub the-site : (b : List ℕ) {z : Sizes} {p : Pace} {ts os : List ℕ} → z ≡ sizes_of b → p ≡ pace_of b → ts ≡ threads_of b
    → os ≡ orders_of b
    → record { sizes = z; hold = p.hold; think = p.think; warm = p.warm; threads = ts; orders = os } ≡ site_of b
the-site b a c d e = rw (a, c, d, e)

pub same-site : {x y : Site} {ts : List ℕ} {s : SiteState} {r : Result (Unit {0}) Refusal} → x ≡ y → RanTo x ts s r
    → RanTo y ts s r
same-site {x} {y} {ts} {s} {r} e h = subst (λ z. RanTo z ts s r) e h

-- ---- what it came to

module _ (b ts : List ℕ) where
  claimed : refusal b (length ts) ≡ 0 → Replays (site_of b) ts
  claimed e = replays (site_of b) (accepted b (length ts) (neither _ _ e).0).range ts

  refused-by : (n : ℕ) → refusal b (length ts) ≡ n → n ≢ 0 → record { answer = n; going = none } ≡ site_run b ts
  unfolding site_run
  refused-by zero e h = absurd (h refl)
  refused-by (suc n) e h = sym (ap (λ k. ran_unless k (site (site_of b) ts)) e)

  pub refused-site : {s : SiteState} {r : Refusal} → number_of r ≡ refusal b (length ts) → RanSite b ts s s (Err r)
  refused-site {s} {r} e =
      record {
        ran = refused-by (number_of r) (sym e) (not-zero r);
        ended = tt;
        untouched = refl;
        replays = claimed;
      }

  -- what was run, by its answer
  goes-to : (r : Result (Unit {0}) Refusal) (g : Going)
      → ran_to (went_to r g) ≡ record { answer = answer_number r; going = some g }
  goes-to (Ok u) g = refl
  goes-to (Err a) g = refl

  ran-by : (r : Result (Unit {0}) Refusal) (g : Going) → refusal b (length ts) ≡ 0 → site (site_of b) ts ≡ went_to r g
      → site_run b ts ≡ record { answer = answer_number r; going = some g }
  unfolding site_run
  ran-by r g e w = ap (λ k. ran_unless k (site (site_of b) ts)) e ∙ ap ran_to w ∙ goes-to r g

  pub ran-site : {s₀ s : SiteState} {r : Result (Unit {0}) Refusal} → refusal b (length ts) ≡ 0
      → RanTo (site_of b) ts s r → RanSite b ts s₀ s (Ok r)
  ran-site {s₀} {s} {r} good h =
      record {
        ran = sym (ran-by r (going_of s) good h.went);
        ended = ((accepts b (length ts) good).range.threads, h.ended);
        untouched = tt;
        replays = claimed;
      }
