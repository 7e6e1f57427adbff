-- What a turn is for, by the program counter of its thread, its next call and its pause.
use Rattle.lock.proofs.Library.{ℕ, zero, suc, ◌+◌, ◌-◌, ◌≤◌, ◌<◌, ◌≡◌, refl, ap, ◌∙◌, ◌≢◌, List, arith, not, eqb}
use Rattle.lock.proofs.Library.{get_or, set, length, lt-ltb, le-ltb}
use Rattle.lock.specs.declared.Standing.{Standing}
use Rattle.lock.specs.declared.Sizes.{Sizes}
use Rattle.lock.specs.Run.{step}
use Rattle.cells.specs.View.{pc, node, route, below, seen, state_of}
use Rattle.cells.proofs.Parts.{thread-is}
use Rattle.cells.proofs.Standings.{standings, calling-at, asleep-at}
use Rattle.lock.specs.Bound.{steps_before}
use Rattle.cells.specs.Layout.{ASLEEP}
use Rattle.site_turn.specs.Turns.{LOOK}
use Rattle.step.{specs.Reached.Reached, proofs.Reach.reached-within}
use Rattle.site_model.specs.Tally.{passed_over}
use Rattle.site_model.specs.Site.{Site, Going, Due, passing, pausing, getting, stands_at}
use Rattle.site_model.specs.Site.{due, due_in, due_outside, act, row_of, at_turn}
use Rattle.site_turn.specs.Turns.{Plan, SiteState, Purpose, site_in, going_of, due_of, IsFor, Turnable, Turned}
use Rattle.site_turn.specs.declared.Purpose.TheVariants.{PassedOver, Spent, Row}
use Rattle.std.specs.Prelude.{Result, Ok}
use Rattle.lock.specs.declared.Refusal.{Refusal}
use Rattle.lock.specs.Demand.{one}
use Rattle.site_turn.proofs.Over.{stands_there, outside-by}

-- ---- what a turn is for, of any site and whatever is known

module _ (x : Site) (t : ℕ) (g : Going) where
  far-due : x.sizes.threads ≤ t → due x t g ≡ passing
  unfolding due
  far-due h = rw (le-ltb t x.sizes.threads h)

  near-due : t < x.sizes.threads → (d : Due) → due_in x t g (stands_at g.state t) ≡ d → due x t g ≡ d
  unfolding due
  near-due near d e = rw (lt-ltb t x.sizes.threads near) e

-- ---- by the program counter

module _ {z : Sizes} {l : List ℕ} (reached : Reached z steps_before l) {t : ℕ} (near : t < z.threads) where
  there : t < 64
  there = omega (arith, near, reached.range.threads)

  asleep-is : pc l t ≡ ASLEEP → stands_at (state_of l) t ≡ Standing.Asleep
  unfolding stands_at
  asleep-is e = rw (thread-is l t there) (asleep-at (pc l t) (node l t) (route l t) (below l t) (seen l t) e)

  calling-is : LOOK ≤ pc l t → pc l t ≢ ASLEEP → stands_at (state_of l) t ≡ Standing.Calling
  unfolding stands_at
  calling-is h n =
      rw (thread-is l t there)
      (calling-at (pc l t) (node l t) (route l t) (below l t) (seen l t) (λ e. omega arith) (λ e. omega arith)
      (λ e. omega arith) n)

  outside-is : pc l t < LOOK → (x : Site) (g : Going) → due_in x t g (stands_at (state_of l) t) ≡ due_outside x t g
  outside-is h x g = stands_there (λ s. due_in x t g s ≡ due_outside x t g) l t there (from (pc l t) h)
    where
      from : (n : ℕ) → n < LOOK → due_in x t g (get_or (standings (route l t)) n Standing.Calling) ≡ due_outside x t g
      from zero h = refl
      from (suc zero) h = refl
      from (suc (suc zero)) h = refl
      from (suc (suc (suc n))) h = absurd (omega arith)

-- ---- what it is for

outside-due : (k : Plan) (s : SiteState) {t : ℕ} → Reached k.sizes steps_before s.lock → t < k.sizes.threads
    → pc s.lock t < LOOK → (d : Due) → due_outside (site_in k) t (going_of s) ≡ d → due (site_in k) t (going_of s) ≡ d
outside-due k s {t} reached near h d e =
    near-due (site_in k) t (going_of s) near d (outside-is reached near h (site_in k) (going_of s) ∙ e)

module _ {k : Plan} {s : SiteState} {t : ℕ} where
  -- a turn that is passed over
  passing-for : due (site_in k) t (going_of s) ≡ passing → IsFor k s t PassedOver
  passing-for e = record { is = e; spent = λ q. absurd (cc); gets = λ o q. absurd (cc) }

  pub far-for : k.sizes.threads ≤ t → IsFor k s t PassedOver
  far-for h = passing-for (far-due (site_in k) t (going_of s) h)

  module _ (reached : Reached k.sizes steps_before s.lock) (near : t < k.sizes.threads) where
    pub asleep-for : pc s.lock t ≡ ASLEEP → IsFor k s t PassedOver
    asleep-for q = passing-for (near-due (site_in k) t (going_of s) near passing (rw (asleep-is reached near q)))

    pub calling-for : LOOK ≤ pc s.lock t → pc s.lock t ≢ ASLEEP → IsFor k s t (Row 0)
    calling-for h n =
        record {
          is = near-due (site_in k) t (going_of s) near (getting 0) (rw (calling-is reached near h n));
          spent = λ q. absurd (cc);
          gets = λ o q. record { there = near; call = λ i. absurd (i (cc)) };
        }

    module _ (h : pc s.lock t < LOOK) where
      pub done-for : length k.threads.now ≤ get_or s.next t 0 → IsFor k s t PassedOver
      done-for m = passing-for (outside-due k s reached near h passing (rw (le-ltb (get_or s.next t 0) (length k.threads.now) m)))

      module _ (m : get_or s.next t 0 < length k.threads.now) where
        pub spent-for : 0 < get_or s.pause t 0 → IsFor k s t Spent
        spent-for n =
            record {
              is = outside-due k s reached near h pausing
                  (rw (lt-ltb (get_or s.next t 0) (length k.threads.now) m, lt-ltb 0 (get_or s.pause t 0) n));
              spent = λ _. (near, h, n);
              gets = λ o q. absurd (cc);
            }

        pub call-for : get_or s.pause t 0 ≤ 0 → IsFor k s t (Row (get_or k.orders.now (get_or s.next t 0) 0))
        call-for n =
            record {
              is = outside-due k s reached near h (getting (get_or k.orders.now (get_or s.next t 0) 0))
                  (rw (lt-ltb (get_or s.next t 0) (length k.threads.now) m, le-ltb 0 (get_or s.pause t 0) n));
              spent = λ q. absurd (cc);
              gets = λ o q. record { there = near; call = λ _. m };
            }

-- ---- what it does

module _ {k : Plan} {s : SiteState} (d : Turnable k s) (t : ℕ) where
  turn_by : {w : Purpose} → IsFor k s t w → at_turn (site_in k) t (going_of s) ≡ act (site_in k) t (going_of s) (due_of w)
  unfolding at_turn
  turn_by f = ap (act (site_in k) t (going_of s)) f.is

  pub passed-turn : IsFor k s t PassedOver
      → Turned k t (at_turn (site_in k) t (going_of s)) s (record s { tally = passed_over s.tally }) (Ok tt)
  passed-turn f =
      record {
        went = turn_by f;
        waiting = record { long = d.waiting.long; writing = d.waiting.writing; reading = d.waiting.reading };
        keeps = λ n h. reached-within k.sizes (omega arith) h;
      }

  pub spent-turn : IsFor k s t Spent → {h n : ℕ} → h ≡ one (not (eqb (pc s.lock t) 0))
      → n ≡ one (not (not (eqb (pc s.lock t) 0)))
      → Turned k t (at_turn (site_in k) t (going_of s)) s
      (record s {
        pause = set s.pause t (get_or s.pause t 0 - 1);
        tally = record s.tally { holding = s.tally.holding + h; thinking = s.tally.thinking + n };
      }) (Ok tt)
  spent-turn f e q =
      let p = f.spent refl in
      rw (e, q)
      (record {
        went = turn_by f ∙ rw (outside-by s.lock t (there d.reached p.0) p.1).1;
        waiting = record { long = d.waiting.long; writing = d.waiting.writing; reading = d.waiting.reading };
        keeps = λ n h. reached-within k.sizes (omega arith) h;
      })

  pub row-turn : {o : ℕ} → IsFor k s t (Row o) → {s' : SiteState} {r : Result (Unit {0}) Refusal}
      → Turned k t (row_of (site_in k) t o (going_of s) (step k.sizes (state_of s.lock) (record { thread = t; order = o }))) s s' r
      → Turned k t (at_turn (site_in k) t (going_of s)) s s' r
  row-turn f y = record { went = turn_by f ∙ y.went; waiting = y.waiting; keeps = y.keeps }
