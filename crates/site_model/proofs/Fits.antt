-- What the code may rely on holds at the start, and each turn keeps it.
use Rattle.lock.proofs.Library.{ℕ, zero, suc, ◌+◌, ◌≤◌, ◌<◌, ◌≡◌, refl, sym, ap, ◌∙◌, List, [], ◌∷◌, arith}
use Rattle.lock.proofs.Library.{length, get_or, set, length-set, get_or-set_same, get_or-set_other, drop, length-drop, eqb, ltb}
use Rattle.lock.proofs.Library.{get_or-drop, ℕ_discrete, dec_lt, eq-eqb, ne_eqb, le-ltb}
use Rattle.laws.proofs.Cases.{dec-both}
use Rattle.lock.proofs.Choice.{if-both}
use Rattle.lock.specs.State.{Outcome, taken, refused}
use Rattle.lock.specs.Run.{step}
use Rattle.dispatch_model.specs.Code.{first_of, next_row}
use Rattle.site_model.specs.Site.{Site, Going, Due, passing, pausing, getting, Went, on, stopped, behind_call}
use Rattle.site_model.specs.Site.{first_calls, begun, is_over, finished, measures, makes, begins, due, act, row_of, at_turn}
use Rattle.site_model.specs.Code.{Placed, Small, Fit}
use Rattle.site_model.proofs.Replays.{zero-at}
use Rattle.site_model.proofs.Counts.{small-more, small-passes, small-pauses, small-makes, small-begins}
use Rattle.site_model.proofs.Counts.{small-finished, small-measures, nothing-few}
use Rattle.site_model.proofs.Sweep.{finished-settled}

-- ---- the place of a thread's next call is a row of its own

first-there : (t : ℕ) (ts : List ℕ) → first_of t ts < length ts → get_or ts (first_of t ts) 0 ≡ t
first-there t [] l = absurd (omega arith)
first-there t (x ∷ ts) l = elim (ℕ_discrete x t) [
  | yes e ↦ rw (eq-eqb x t e) e
  | no n ↦ let k : suc (first_of t ts) < suc (length ts) = rw (ne_eqb x t n) at l in
      rw (ne_eqb x t n) (first-there t ts (omega arith))
]

next-own : (t : ℕ) (ts : List ℕ) (p : ℕ) → next_row t ts p < length ts → get_or ts (next_row t ts p) 0 ≡ t
next-own t ts p l =
    sym (get_or-drop p ts (first_of t (drop p ts)) 0)
    ∙ first-there t (drop p ts) (omega (arith, length-drop p ts))

behind-own : (t : ℕ) (ts : List ℕ) (p : ℕ) → behind_call t ts p < length ts → get_or ts (behind_call t ts p) 0 ≡ t
behind-own t ts p =
    if-both (λ n. n < length ts → get_or ts n 0 ≡ t) (ltb (next_row t ts (suc p)) (length ts))
    (λ e l. next-own t ts (suc p) l) (λ e l. next-own t ts 0 l)

first-at : (ts : List ℕ) (t n u : ℕ) → u < n → get_or (first_calls ts t n) u 0 ≡ next_row (t + u) ts 0
first-at ts t zero u l = absurd (omega arith)
first-at ts t (suc n) zero l = let e : t + 0 ≡ t = omega arith in ap (λ (v : ℕ). next_row v ts 0) (sym e)
first-at ts t (suc n) (suc u) l =
    let e : suc t + u ≡ t + suc u = omega arith in
    first-at ts (suc t) n u (omega arith) ∙ ap (λ (v : ℕ). next_row v ts 0) e

pub begun-places : (ts : List ℕ) (u : ℕ) → u < 64 → get_or (first_calls ts 0 64) u 0 ≡ next_row u ts 0
begun-places ts u l = let e : 0 + u ≡ u = omega arith in
    first-at ts 0 64 u l ∙ ap (λ (v : ℕ). next_row v ts 0) e

placed-set : (ts next : List ℕ) (t p : ℕ) → t < 64 → length next ≡ 64 → Placed ts next
    → Placed ts (set next t (behind_call t ts p))
placed-set ts next t p l long h u k =
    elim (ℕ_discrete u t) [
      | yes e ↦ rw (e, get_or-set_same next t (behind_call t ts p) 0 (omega arith)) (behind-own t ts p)
      | no n ↦ rw (get_or-set_other next t u (behind_call t ts p) 0 n) (h u k)
    ]

module _ (x : Site) where
  -- ---- at the start

  pub begun-fit : Fit x 0 (begun x)
  begun-fit =
      record {
        small =
            record {
              tally = nothing-few 0;
              row = omega arith;
              since = λ u. rw (zero-at 64 u) (omega arith);
              done = λ u. rw (zero-at 64 u) (omega arith);
              failed = λ u. rw (zero-at 64 u) (omega arith);
              long = refl;
              done_long = refl;
            };
        long = refl;
        placed = λ u k. rw (begun-places x.threads u k) (next-own u x.threads 0);
        settled = λ u k. rw (zero-at 64 u) refl;
      }

  pub fit-more : {m n : ℕ} {g : Going} → m ≤ n → Fit x m g → Fit x n g
  fit-more {m} {n} {g} l h =
      record { small = small-more m n g l h.small; long = h.long; placed = h.placed; settled = h.settled }

  pub measures-fit : {m : ℕ} {g : Going} → Fit x m g → Fit x m (measures g)
  measures-fit {m} {g} h =
      record {
        small = small-measures m g h.small;
        long = h.long;
        placed = h.placed;
        settled = h.settled;
      }

  -- ---- a turn

  -- finishing calls leaves the places of the next ones
  finished-next : (hold think n : ℕ) (g : Going) → (finished hold think n g).next ≡ g.next
  unfolding finished
  finished-next hold think zero g = refl
  finished-next hold think (suc n) g =
      if-both (λ (h : Going). h.next ≡ g.next) (is_over (finished hold think n g) n) (λ e. finished-next hold think n g) (λ e. finished-next hold think n g)

  abbrev pub FitAfter : ℕ → Went → Type 0
  FitAfter m (on g) = Fit x m g
  FitAfter m (stopped n g) = Fit x m g

  passes-fit : (t : ℕ) {m : ℕ} {g : Going} → Fit x m g → FitAfter (m + 128) (act x t g passing)
  passes-fit t {m} {g} f =
      record {
        small = small-more (m + 1) (m + 128) _ (omega arith) (small-passes m g f.small);
        long = f.long;
        placed = f.placed;
        settled = f.settled;
      }

  module _ (few : x.sizes.threads ≤ 64) (t : ℕ) (l : t < 64) {m : ℕ} {g : Going} (f : Fit x m g) where
    -- what is left of it while a row is made
    record Part (n : ℕ) (h : Going) : Type 0 where
      small : Small n h
      long : length h.next ≡ 64
      placed : Placed x.threads h.next

    begins-part : {n : ℕ} {h : Going} (o : ℕ) → Part n h → Part n (begins x.threads t o h)
    begins-part {n} {h} o p =
        record {
          small = small-begins n x.threads t o h p.small;
          long = length-set h.next t _ ∙ p.long;
          placed = placed-set x.threads h.next t (get_or h.next t 0) l p.long p.placed;
        }

    -- the calls that are over are finished
    finished-fit : (h : Going) → Part (m + 64) h
        → Fit x (m + 128) (finished x.hold x.think x.sizes.threads h)
    finished-fit h p =
        let e = finished-next x.hold x.think x.sizes.threads h in
        record {
          small = small-more (m + 64 + x.sizes.threads) (m + 128) _ (omega arith)
              (small-finished x.hold x.think (m + 64) x.sizes.threads h p.small);
          long = ap length e ∙ p.long;
          placed = rw e p.placed;
          settled = finished-settled x.hold x.think x.sizes.threads h;
        }

    row-fit : (o : ℕ) (y : Outcome) → FitAfter (m + 128) (row_of x t o g y)
    row-fit o (refused n) = fit-more (omega arith) f
    row-fit o (taken s e) =
        let p : Part (m + 64) (makes t s e g) =
        record { small = small-makes m t s e g f.small; long = f.long; placed = f.placed } in
        finished-fit _ (if-both (Part (m + 64)) (eqb o 0) (λ _. p) (λ _. begins-part o p))

    act-fit : (d : Due) → FitAfter (m + 128) (act x t g d)
    act-fit passing = passes-fit t f
    act-fit pausing =
        record {
          small = small-more (m + 1) (m + 128) _ (omega arith) (small-pauses m t g f.small);
          long = f.long;
          placed = f.placed;
          settled = f.settled;
        }
    act-fit (getting o) = row-fit o (step x.sizes g.state (record { thread = t; order = o }))

    near-fit : FitAfter (m + 128) (at_turn x t g)
    unfolding at_turn
    near-fit = act-fit (due x t g)

  pub turn-fit : x.sizes.threads ≤ 64 → (t : ℕ) {m : ℕ} {g : Going} → Fit x m g → FitAfter (m + 128) (at_turn x t g)
  unfolding at_turn due
  turn-fit few t {m} {g} f =
      dec-both (dec_lt t x.sizes.threads) (λ k. near-fit few t (omega arith) f)
      (λ k. rw (le-ltb t x.sizes.threads (omega arith)) (passes-fit t f))
