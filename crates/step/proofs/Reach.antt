-- What a row may take for granted of a lock that rows have led to; the fresh lock; one row more.
use Rattle.lock.proofs.Library.{ℕ, suc, ◌≤◌, ◌<◌, ◌≡◌, refl, sym, subst, ◌∙◌, List, [], ◌∷◌, ◌++◌, arith, length, get_or}
use Rattle.lock.proofs.Library.{take, drop, length-append, dec_lt, List·getD-eq-default}
use Rattle.lock.specs.{Bound.most_steps, declared.{Sizes.Sizes, Phase.TheVariants.Look}, Call.op, State.fresh}
use Rattle.lock.{specs.{State.{Outcome, taken, refused}, Machine.runs, Run.{Row, step, run}}, proofs.Machine.run_more}
use Rattle.laws.proofs.{Cases.dec-both, Role.{place, Inv}, Runs.{held, same_at}}
use Rattle.laws.proofs.Bounds.{Bounded, op-bounded, direct-most, count_most}
use Rattle.laws.proofs.Failures.{failures-most}
use Rattle.cells.specs.Layout.{ASLEEP}
use Rattle.cells.specs.View.{word_of, phases, pc, node, route, below, seen, failures, phase_at, state_of, fresh_cells}
use Rattle.cells.specs.View.{queued_writers}
use Rattle.cells.proofs.{Parts.{thread-is, word-is}, Queues.writers-long}
use Rattle.rows.specs.Outcome.{At, AtNode, Comes}
use Rattle.std.specs.Prelude.{Result}
use Rattle.lock.specs.declared.{Entry.Entry, Refusal.Refusal}
use Rattle.step.specs.Reached.{Reached, Ready, Begun, Steps}

module _ {z : Sizes} {l : List ℕ} {t : ℕ} (r : Ready z l t) where
  inv : Inv z (state_of l)
  inv = subst (Inv z) r.reached.there (held z r.reached.range r.reached.rows).inv

  pub there : t < 64
  there = let m = r.mine in let n = r.reached.range.threads in omega arith

  -- its program counter is one of those that have a phase of their own: node 32 is no lock's
  pub counter : pc l t ≤ ASLEEP
  unfolding place
  counter =
      dec-both (dec_lt ASLEEP (pc l t))
      (λ a. let ps = phases (node l t) (route l t) (below l t) (seen l t) in
      let e = List·getD-eq-default ps (Look 32) {n = pc l t} a in
      let k : 32 < z.nodes = rw (thread-is l t there, e) at (inv.right t) in
      let m = r.reached.range.nodes in
      absurd (omega arith))
      (λ a. omega arith)

  few : failures l t ≤ most_steps
  few =
      let f = rw (r.reached.there, thread-is l t there)
      at (failures-most z r.reached.range r.reached.rows t r.mine) in
      omega (arith, f, r.reached.all, r.reached.few)

  count : (w : ℕ) → w < 32 → (word_of (get_or l w 0)).tree < 65535
  count w h = let k = rw (word-is l w h) at (count_most z (state_of l) inv w) in omega arith

  direct : (word_of (get_or l 0 0)).direct < 65535
  direct = let d = rw (word-is l 0 (omega arith)) at (direct-most z (state_of l) inv) in omega arith

  pub bounded : Bounded z (state_of l) (op z.fan (phase_at l t))
  bounded = rw (thread-is l t there) at (op-bounded z (state_of l) inv t there)

  pub at : At l t
  at = record {
    shaped = r.reached.shaped;
    there = there;
    room = record { direct = direct; tree = count 0 (omega arith) };
    few = few;
  }

  pub at-node : node l t < z.nodes → AtNode l t
  at-node h =
      let n : node l t < 32 = (let m = r.reached.range.nodes in omega arith) in
      record { shaped = r.reached.shaped; there = there; inside = n; room = count (node l t) n; few = few }

  pub in_tree : node l t < z.nodes → AtNode l t × (0 < z.fan)
  in_tree h = (at-node h, r.reached.range.fan_least)

  pub has_room : length (state_of l).queue.writers < 64 → queued_writers l < 64
  unfolding state_of
  has_room h = rw (writers-long r.reached.shaped.kept) at h

-- ---- the fresh lock

fresh-is : state_of fresh_cells ≡ fresh
unfolding state_of
fresh-is = refl

pub begun : (l : List ℕ) → l ≡ fresh_cells → Begun l
unfolding run runs
begun l e =
    rw e
    (record {
      cells = refl;
      state = fresh-is;
      reached = λ z h. record {
        shaped = record {
          long = refl;
          kept = record { within = omega arith; long = refl; inside = omega arith; numbers = nobody };
        };
        range = h;
        rows = [];
        few = omega arith;
        all = refl;
        there = sym fresh-is;
      };
    })
  where
    nobody : (i : ℕ) → get_or (take 64 (drop 64 fresh_cells)) i 0 < 64
    nobody i = let o : ℕ = 0 in rw (same_at 64 i o) (omega arith)

-- ---- kept by each row

module _ (z : Sizes) where
  -- a lock that so many rows have led to is one that more may have led to
  pub reached-within : {n k : ℕ} {l : List ℕ} → n ≤ k → Reached z n l → Reached z k l
  reached-within h r = record {
    shaped = r.shaped;
    range = r.range;
    rows = r.rows;
    few = (let f = r.few in omega arith);
    all = r.all;
    there = r.there;
  }

  reached-more : {n : ℕ} {l l' : List ℕ} {m : Result Entry Refusal} (r : Row)
      → Comes l l' m (step z (state_of l) r) → Reached z n l → Reached z (suc n) l'
  unfolding run
  reached-more {n} {l} {l'} {m} r c h = from (step z (state_of l) r) refl c
    where
      from : (o : Outcome) → step z (state_of l) r ≡ o → Comes l l' m o → Reached z (suc n) l'
      from (taken s' e) q c =
          let k = run_more (step z) fresh h.rows r {t = s'} {y = e} h.all (rw h.there q) in
          record {
            shaped = c.left.shaped;
            range = h.range;
            rows = h.rows ++ r ∷ [];
            few = omega (arith, h.few, length-append h.rows (r ∷ []));
            all = k.0;
            there = k.1 ∙ sym c.left.state;
          }
      from (refused a) q c =
          record {
            shaped = c.left.shaped;
            range = h.range;
            rows = h.rows;
            few = (let f = h.few in omega arith);
            all = h.all;
            there = h.there ∙ sym c.left.state;
          }

  pub stepped : {r : Row} {l l' : List ℕ} {m : Result Entry Refusal} → Comes l l' m (step z (state_of l) r) → Steps z r l l' m
  stepped {r} c = record { comes = c; keeps = λ n h. reached-more r c h }
