-- Calls that are over: by the program counter, and what is left of who waits.
use Rattle.lock.proofs.Library.{ℕ, zero, suc, ◌+◌, ◌-◌, ◌≤◌, ◌<◌, ◌≡◌, refl, sym, ap, subst, ◌∙◌, ◌≢◌, Bool, true, false}
use Rattle.lock.proofs.Library.{not, List, arith, eqb, get_or, set, length-set, ne_eqb}
use native.Mathlib.Numerals.{add-one}
use Rattle.lock.proofs.Choice.{and-false}
use Rattle.std.specs.Int.{from_bool}
use Rattle.lock.specs.Demand.{one}
use Rattle.std.specs.Prelude.{if◌then◌else◌}
use Rattle.lock.specs.declared.Standing.{Standing}
use Rattle.cells.specs.View.{pc, node, route, below, seen, state_of}
use Rattle.cells.proofs.Parts.{thread-is}
use Rattle.cells.proofs.Standings.{standings, stands, late-standing}
use Rattle.site_model.specs.Tally.{is_call, is_write_lock, is_read_lock, call_over}
use Rattle.site_model.specs.Site.{in_call, holds, stands_at, is_over, finished_at, finished}
use Rattle.site_model.specs.Code.{Small}
use Rattle.site_model.proofs.Counts.{counted-le, counted-set, small-more, small-finished}
use Rattle.site_model.specs.declared.Tally.{Tally}
use Rattle.site_turn.specs.Turns.{SiteState, going_of, Waiting, reordered, Ends, Finishable, MADE, ROOM}

-- ---- a thread's standing, by its program counter

pub stands_there : (P : Standing → Type 0) (l : List ℕ) (u : ℕ) → u < 64
    → P (get_or (standings (route l u)) (pc l u) Standing.Calling) → P (stands_at (state_of l) u)
unfolding stands_at
stands_there P l u h p =
    rw (thread-is l u h) (rw (stands (pc l u) (node l u) (route l u) (below l u) (seen l u)) p)

pub outside-by : (l : List ℕ) (u : ℕ) → u < 64 → pc l u < 3
    → (in_call (stands_at (state_of l) u) ≡ false) × (holds (stands_at (state_of l) u) ≡ not (eqb (pc l u) 0))
outside-by l u h k =
    stands_there (λ x. (in_call x ≡ false) × (holds x ≡ not (eqb (pc l u) 0))) l u h (from (pc l u) k)
  where
    from : (n : ℕ) → n < 3 → (in_call (get_or (standings (route l u)) n Standing.Calling) ≡ false)
        × (holds (get_or (standings (route l u)) n Standing.Calling) ≡ not (eqb n 0))
    from zero k = (refl, refl)
    from (suc zero) k = (refl, refl)
    from (suc (suc zero)) k = (refl, refl)
    from (suc (suc (suc n))) k = absurd (omega arith)

pub inside-by : (l : List ℕ) (u : ℕ) → u < 64 → 3 ≤ pc l u → in_call (stands_at (state_of l) u) ≡ true
inside-by l u h k = stands_there (λ x. in_call x ≡ true) l u h (from (pc l u) k)
  where
    from : (n : ℕ) → 3 ≤ n → in_call (get_or (standings (route l u)) n Standing.Calling) ≡ true
    from zero k = absurd (omega arith)
    from (suc zero) k = absurd (omega arith)
    from (suc (suc zero)) k = absurd (omega arith)
    from (suc (suc (suc n))) k = late-standing n (λ x. in_call x ≡ true) refl refl

-- ---- a test as a number

one-from : (b : Bool) → from_bool b ≡ one b
one-from true = refl
one-from false = refl

pub one-is : {b b' : Bool} {n : ℕ} → n ≡ from_bool b → b ≡ b' → n ≡ one b'
one-is {b} e q = e ∙ one-from b ∙ ap one q

-- ---- who waits, when a thread's order becomes another

module _ {s : SiteState} (w : Waiting s) where
  pub few-waiting : (s.writing ≤ 64) × (s.reading ≤ 64)
  few-waiting = (
    omega (arith, w.writing, counted-le is_write_lock s.order, w.long),
    omega (arith, w.reading, counted-le is_read_lock s.order, w.long),
  )

  module _ (t : ℕ) (l : t < 64) where
    -- it may be among those that are counted
    pub counted-among : (one (is_write_lock (get_or s.order t 0)) ≤ s.writing) × (one (is_read_lock (get_or s.order t 0)) ≤ s.reading)
    counted-among = (
      omega (arith, w.writing, counted-set is_write_lock s.order t 0 (omega (arith, w.long))),
      omega (arith, w.reading, counted-set is_read_lock s.order t 0 (omega (arith, w.long))),
    )

    pub reordered-waiting : (o : ℕ) → Waiting (reordered t o s)
    reordered-waiting o =
        record {
          long = length-set s.order t o ∙ w.long;
          writing = omega (arith, w.writing, counted-set is_write_lock s.order t o (omega (arith, w.long)));
          reading = omega (arith, w.reading, counted-set is_read_lock s.order t o (omega (arith, w.long)));
        }

-- ---- one thread's call

module _ (hold think u : ℕ) {s : SiteState} (w : Waiting s) where
  stays : is_over (going_of s) u ≡ false → Ends (finished_at hold think u) s s
  stays h = record { going = rw h; lock = refl; waiting = w }

  module _ (h : u < 64) where
    -- it still is in it
    pub inside-ends : 3 ≤ pc s.lock u → Ends (finished_at hold think u) s s
    inside-ends k = stays (rw (inside-by s.lock u h k) (and-false (is_call (get_or s.order u 0))))

    -- it is over
    module _ (n : get_or s.order u 0 ≢ 0) (k : pc s.lock u < 3) where
      over : is_over (going_of s) u ≡ true
      over = rw ((outside-by s.lock u h k).0, ne_eqb (get_or s.order u 0) 0 n)

      paused : (b : Bool) → (if b then think else hold) ≡ (if not b then hold else think)
      paused true = refl
      paused false = refl

      pub over-ends : {p : ℕ} {y : Tally} {s' : SiteState} → p ≡ (if eqb (pc s.lock u) 0 then think else hold)
          → y ≡ call_over (get_or s.order u 0) (s.row - get_or s.since u 0) s.tally
          → s' ≡ reordered u 0 (record s {
            pause = set s.pause u p;
            done = set s.done u (get_or s.done u 0 + 1);
            tally = y;
          })
          → Waiting s' → Ends (finished_at hold think u) s s'
      over-ends e q is v =
          record {
            going = rw (is, q, e, over, (outside-by s.lock u h k).1, paused (eqb (pc s.lock u) 0));
            lock = rw is;
            waiting = v;
          }

-- ---- all threads' calls

module _ (hold think : ℕ) {s₀ : SiteState} where
  pub none_yet : Waiting s₀ → Ends (finished hold think 0) s₀ s₀
  unfolding finished
  none_yet w = record { going = refl; lock = refl; waiting = w }

  module _ (u : ℕ) {s : SiteState} (h : Ends (finished hold think u) s₀ s) where
    pub next-finishable : u < 64 → Finishable MADE s₀ → Finishable ROOM s
    next-finishable lt k =
        record {
          small =
              subst (Small ROOM) (sym h.going)
              (small-more (MADE + u) ROOM _ (omega arith) (small-finished hold think MADE u _ k.small));
          waiting = h.waiting;
        }

    pub one_more : {s' : SiteState} → Ends (finished_at hold think u) s s' → Ends (finished hold think (u + 1)) s₀ s'
    unfolding finished
    one_more {s'} k =
        subst (λ n. Ends (finished hold think n) s₀ s') (sym (add-one u))
        (record {
          going = k.going ∙ ap (finished_at hold think u) h.going;
          lock = k.lock ∙ h.lock;
          waiting = k.waiting;
        })
