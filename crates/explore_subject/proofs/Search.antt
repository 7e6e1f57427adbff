-- One lock: the locks of records, the rows that are tried, and that every other is refused.
use Rattle.lock.proofs.Library.{ℕ, suc, ◌+◌, ◌-◌, ◌/◌, ◌%◌, ◌≤◌, ◌<◌, ◌≡◌, refl, sym, ap, subst, ◌∙◌}
use Rattle.lock.proofs.Library.{Bool, true, false}
use Rattle.lock.proofs.Library.{◌⊎◌, inl, inr, none, List, arith, dec_lt, length, lt-ltb, le-ltb}
use Rattle.std.specs.Prelude.{Result, is_err}
use Rattle.lock.specs.{declared.{Sizes.Sizes, Entry.Entry}, Machine.{Row}, File.InRange}
use Rattle.lock.specs.{State.{State, Outcome, taken, refused, perform}, Call.{decode, obey}, Run.{row_op, step}}
use Rattle.cells.specs.View.{phase_at, state_of, Leaves}
use Rattle.lock.specs.declared.Refusal.{Refusal}
use Rattle.rows.specs.Outcome.{Comes, Tried}
use Rattle.journal.specs.Came.{Came}
use Rattle.step.specs.Reached.{Reached, Ready, Begun}
use Rattle.step.proofs.Reach.{reached-within, stepped}
use Rattle.step.proofs.Orders.{decode-low, decode-high, decode-far, decode-behind, step-there}
use Rattle.explore_store.specs.Store.{record_at, stored, head_of, depth_at, lock_of, lock_at, Before, Adds}
use Rattle.explore_store.specs.declared.Record.{Record}
use Rattle.lock.proofs.Choice.{clash}
use Rattle.explore_machine.proofs.Closed.{forgets-one}
use Rattle.explore_store.proofs.Store.{locks-alike, before-stored, stored_there}
use Rattle.explore_subject.specs.Search.{one, Lawful, Refusing, order_of, Only, OfOne, Sound, Kept, Trying, Tries}
use Rattle.explore_subject.specs.Search.{Small, sizes_for}
use Rattle.explore_subject.proofs.Growing.{not_taken, tries-failed, tries-refused, tries-found, tries-added}

-- ---- one row

kept-as : (z : Sizes) {n : ℕ} {st st' : List ℕ} → Before n st st' → Kept (one z) n st st'
kept-as z b = record { before = b; same = λ i l. ap lock_of (b.same i l) }

pub reached-alike : {z : Sizes} {n : ℕ} {l l' : List ℕ} → Leaves l' (state_of l) → Reached z n l → Reached z n l'
reached-alike h r = record {
  shaped = h.shaped;
  range = r.range;
  rows = r.rows;
  few = r.few;
  all = r.all;
  there = r.there ∙ sym h.state;
}

pub ready-here : {z : Sizes} {st : List ℕ} {n i : ℕ} {l : List ℕ} {t : ℕ}
    → Trying (one z) st n i l → t < z.threads → Ready z l t
ready-here {z} y h = record { reached = reached-within z (let k = y.shallow in omega arith) y.after; mine = h }

module _ {z : Sizes} {st : List ℕ} {n i : ℕ} {l₀ : List ℕ} (s : Sound (one z) st n) (y : Trying (one z) st n i l₀)
    (t o : ℕ) {l₁ : List ℕ} {m : Result Entry Refusal} (c : Comes l₀ l₁ m (step z (state_of l₀) (record { thread = t; order = o }))) where
  came : Came (λ (e : Entry). e) (state_of l₀) (state_of l₁) m (step z (state_of l₀) (record { thread = t; order = o }))
  came = record { left = c.left.state; is = c.is; fair = c.fair }

  pub one-refused : {b : Bool} → is_err m ≡ true → Tries (one z) (Only t o) i st n st n l₁ b
  one-refused h = tries-refused (one z) s y t o came h (reached-alike (from _ c) y.after)
    where
      from : (q : Outcome) → Comes l₀ l₁ m q → Leaves l₁ (state_of l₀)
      from (taken s' e) k = absurd (not_taken m h k.is)
      from (refused a) k = k.left

  -- it is taken, and led to a lock that the record x stands for: whether that is found or new
  pub one-taken : {l₂ st₁ l₃ : List ℕ} (x : Record) → is_err m ≡ false → Leaves l₂ (state_of l₁) → lock_of x ≡ l₂
      → x.head ≡ head_of i (depth_at st i + 1) t o → (t < 256) × (o < 256)
      → {j : ℕ} {ok : Bool} → Adds st n x st₁ j ok → l₃ ≡ lock_at st i → Tries (one z) (Only t o) i st n st₁ j l₃ ok
  one-taken {l₂} {st₁} {l₃} x h v w head small {j} {ok} a e = by a
    where
      there : Reached z (suc (depth_at st i)) l₂
      there = reached-alike v ((stepped z c).keeps (depth_at st i) y.after)

      by : Adds st n x st₁ j ok → Tries (one z) (Only t o) i st n st₁ j l₃ ok
      by (inl a) =
          rw (a.same, a.count, a.told)
          (tries-found (one z) s y t o came h v.state there small a.within
          (rw (← w) (locks-alike (record_at st a.place) x a.key)) e)
      by (inr (inl a)) = rw (a.same, a.count, a.told) (tries-failed (one z) s y refl)
      by (inr (inr a)) =
          let here = stored_there st n x a.room in
          rw (a.here, a.count, a.told)
          (tries-added (one z) s y t o came h v.state there small
          (omega (arith, a.room, (before-stored st n x).long)) (kept-as z (before-stored st n x))
          (ap (λ (u : Record). u.head) here ∙ head) (ap lock_of here ∙ w) e)

-- ---- the row itself

pub row_made : {z : Sizes} {l l' : List ℕ} {m : Result Entry Refusal} (t o : ℕ) → Ready z l t
    → Comes l l' m (perform z (state_of l) t (obey z.fan (phase_at l t) (decode z o)))
    → Comes l l' m (step z (state_of l) (record { thread = t; order = o }))
row_made {z} {l} {l'} {m} t o r c =
    subst (Comes l l' m) (sym (step-there z l t o r.reached.range.threads r.mine)) c

pub row_goes : {z : Sizes} {l l' : List ℕ} {m : Result Entry Refusal} (t o : ℕ) → Ready z l t → o ≡ 0
    → Tried z t (phase_at l t) l l' m → Comes l l' m (step z (state_of l) (record { thread = t; order = o }))
unfolding obey
row_goes t o r e c = rw e (row_made t 0 r c)

-- ---- the first record

pub sound-start : {z : Sizes} {l : List ℕ} (st : List ℕ) (r : Record)
    → InRange z → Begun l → 8 ≤ length st → r.head ≡ 0 → lock_of r ≡ l → Sound (one z) (stored st 0 r) 1
sound-start {z} {l} st r h b room head w =
    let here : record_at (stored st 0 r) 0 ≡ r = stored_there st 0 r (omega arith) in
    let top : depth_at (stored st 0 r) 0 ≡ 0 =
    ap (λ (u : Record). u.head / 65536 % 65536) here ∙ ap (λ (u : ℕ). u / 65536 % 65536) head in
    record {
      room = omega (arith, (before-stored st 0 r).long);
      some = omega arith;
      first = ap (λ (u : Record). state_of (lock_of u)) here ∙ ap state_of w ∙ b.state;
      top = top;
      reached = λ i k. let e : i ≡ 0 = omega arith in rw (e, top, here, w) (b.reached z h);
      led = λ i p k. absurd (omega arith);
      ordered = λ i j l k. let e : i ≡ 0 = omega arith in let f : j ≡ 0 = omega arith in rw (e, f) (omega arith);
    }

pub added-first : {st st' : List ℕ} {m : ℕ} {r : Record} → Adds st 0 r st' m true → (m ≡ 1) × (st' ≡ stored st 0 r)
added-first (inl a) = absurd (let l = a.within in omega arith)
added-first (inr (inl a)) = (let q = a.told in clash cc)
added-first (inr (inr a)) = (let q = a.count in (omega arith, a.here))

-- ---- the sizes

pub small-sizes : (n f t : ℕ) → 1 ≤ n → n ≤ 8 → 1 ≤ f → f ≤ 16 → 1 ≤ t → t ≤ 8 → Small (sizes_for n f t)
small-sizes n f t a b c d e g = record {
  range = record {
    nodes_least = a;
    nodes = omega arith;
    fan_least = c;
    fan = d;
    threads_least = e;
    threads = omega arith;
    items = omega arith;
  };
  nodes = b;
  threads = g;
  items = refl;
}

-- ---- every row is one of those that are tried, or is refused

module _ (z : Sizes) (none-booked : z.items ≡ 0) (s : State) where
  module _ (t o : ℕ) where
    abbrev Known : Type 0
    Known = OfOne z (record { thread = t; order = o }) ⊎ Refusing (step z s (record { thread = t; order = o }))

    far : z.threads ≤ t → Known
    unfolding step row_op perform
    far h = inr (record { number = 5; is = rw (le-ltb t z.threads h) })

    module _ (h : t < z.threads) where
      unknown : decode z o ≡ none → Known
      unfolding step row_op perform obey
      unknown d = inr (record { number = 6; is = rw (lt-ltb t z.threads h, d) })

      known : (k : ℕ) → k < 5 + z.nodes → o ≡ order_of k → Known
      known k l e = inl (record {
        there = h;
        tried = record { kind = k; known = l; is = ap (λ (x : ℕ). record { thread = t; order = x }) e };
      })

      low : o < 5 → Known
      low l = known o (omega arith) (rw (lt-ltb o 5 l))

      at-node : 64 ≤ o → o - 64 < z.nodes → Known
      at-node g l = known (o - 59) (omega arith) (rw (le-ltb (o - 59) 5 (omega arith)) (omega arith))

      there : Known
      there = elim (dec_lt o 5) [
        | yes a ↦ low a
        | no a ↦ elim (dec_lt o 64) [
          | yes b ↦ unknown (decode-low z o
              (λ q. omega arith) (λ q. omega arith) (λ q. omega arith) (λ q. omega arith) (λ q. omega arith) b)
          | no b ↦ elim (dec_lt o 96) [
            | yes c ↦ elim (dec_lt (o - 64) z.nodes) [
              | yes d ↦ at-node (omega arith) d
              | no d ↦ unknown (decode-far z o (omega arith) c (omega arith))
            ]
            | no c ↦ elim (dec_lt o 128) [
              | yes d ↦ unknown (decode-behind z o (omega arith) (omega arith) d (omega arith))
              | no d ↦ unknown (decode-high z o (omega arith) (omega arith))
            ]
          ]
        ]
      ]

    either : Known
    either = elim (dec_lt t z.threads) [
      | yes h ↦ there h
      | no h ↦ far (omega arith)
    ]

  pub every-row : (r : Row) → OfOne z r ⊎ Refusing (step z s r)
  every-row r = either r.thread r.order

pub lawful-one : (z : Sizes) → Small z → Lawful (one z) (OfOne z)
lawful-one z small = record {
  every = every-row z small.items;
  forgets = forgets-one z;
  none = λ st. omega arith;
  bounded = λ st n h. omega arith;
}
