-- Two locks: those of records, the rows that are tried, and that every other is refused.
use Rattle.lock.proofs.Library.{ℕ, zero, suc, ◌+◌, ◌-◌, ◌/◌, ◌%◌, ◌≤◌, ◌<◌, ◌≡◌, ◌≢◌, refl, sym, ap, ap₂, subst, ◌∙◌}
use Rattle.lock.proofs.Library.{Bool, true, false, ◌&&◌, ◌⊎◌, inl, inr, List, [], ◌∷◌, arith, ℕ_discrete, dec_lt}
use Rattle.lock.proofs.Library.{length, get_or, set, eqb, ltb, lt-ltb, le-ltb, ne_eqb}
use Rattle.lock.proofs.Choice.{and-false, by-test, not-both, clash}
use Rattle.lock.specs.{declared.{Sizes.Sizes, Standing.Standing}, File.InRange}
use Rattle.lock.specs.{Machine.{Row, OutcomeOf, taken, refused}, State.{State, thread_at}, Phase.standing, Run.step}
use Rattle.cells.specs.View.{pc, node, route, below, seen, state_of, Leaves}
use Rattle.cells.proofs.{Parts.thread-is, Standings.{standings, stands, late-standing}}
use Rattle.std.specs.Prelude.{Result, is_err}
use Rattle.lock.specs.{declared.{Entry.Entry, Refusal.Refusal}}
use Rattle.journal.specs.Came.{Came}
use Rattle.pair.specs.Pair.{Side, first, second, Pair, side_of, lowered, own_row, barred, turned, Note, written, turn}
use Rattle.pair.specs.Pair.{lock_of as of_side}
use Rattle.pair.{specs.{Calls.OneCall, Apart.is}, proofs.Apart.by_side}
use Rattle.progress.specs.LockOrder.{asks_for}
use Rattle.step.proofs.Orders.{decode-low, decode-high, decode-far, decode-node, decode-behind}
use Rattle.turn.specs.Turn.{cells_of, pair_in, Begins, Place, Turned}
use Rattle.turn.proofs.Both.{begins-fresh, placed, place-within}
use Rattle.turn.proofs.Both.{Only as Changed, stored as changed}
use Rattle.explore_machine.specs.Locks.{stands_idle, out_of_order, turn_in}
use Rattle.explore_store.specs.Store.{record_at, stored, head_of, depth_at, lock_of, Before}
use Rattle.explore_store.specs.declared.Record.{Record}
use Rattle.explore_store.proofs.Store.{locks-alike, before-stored, stored_there}
use Rattle.explore_machine.proofs.Locks.{forgets-two}
use Rattle.explore_subject.specs.Search.{Lawful, Refusing, order_of, Only, OfOne, Sound, Kept, Trying, Tries, Small}
use Rattle.explore_pair.specs.declared.Records.{Records}
use Rattle.explore_subject.proofs.Growing.{not_taken, tries-failed, tries-barred, tries-refused, tries-found, tries-added}
use Rattle.explore_subject.proofs.Search.{reached-alike, every-row}
use Rattle.explore_pair.specs.Both.{locks_of, locks_at, both, order_in, orders_of, OfBoth, Tidied, AddsBoth}

-- ---- two locks in place

pub pair-tidied : {ls ls' : List (List ℕ)} → Tidied ls ls' → pair_in ls' ≡ pair_in ls
pair-tidied t = rw ((t.each first).state, (t.each second).state)

pub place-tidied : {z : Sizes} {n : ℕ} {ls ls' : List (List ℕ)} → Tidied ls ls' → Place z ls n → Place z ls' n
place-tidied t p = record {
  long = t.long;
  reached = λ x. reached-alike (t.each x) (p.reached x);
  calls = subst OneCall (sym (pair-tidied t)) p.calls;
}

-- the same states, in numbers that rows have led to
pub as-tidied : {z : Sizes} {n : ℕ} {ls ls' : List (List ℕ)} → pair_in ls' ≡ pair_in ls → Place z ls' n → Tidied ls ls'
as-tidied {ls = ls} {ls' = ls'} e p = record { long = p.long; each = each }
  where
    each : (x : Side) → Leaves (cells_of x ls') (state_of (cells_of x ls))
    each first = record { state = ap (λ (u : Pair). u.one) e; shaped = (p.reached first).shaped }
    each second = record { state = ap (λ (u : Pair). u.two) e; shaped = (p.reached second).shaped }

-- one lock after the other
pub tidied-both : (ls : List (List ℕ)) (l₁ l₂ : List ℕ) → length ls ≡ 2 → Leaves l₁ (state_of (cells_of first ls))
    → Leaves l₂ (state_of (cells_of second (set ls 0 l₁))) → Tidied ls (set (set ls 0 l₁) 1 l₂)
tidied-both ls l₁ l₂ h m n = record { long = b.long ∙ a.long ∙ h; each = each }
  where
    a : Changed first ls (set ls 0 l₁) l₁
    a = changed first ls l₁ h

    b : Changed second (set ls 0 l₁) (set (set ls 0 l₁) 1 l₂) l₂
    b = changed second (set ls 0 l₁) l₂ (a.long ∙ h)

    each : (x : Side) → Leaves (cells_of x (set (set ls 0 l₁) 1 l₂)) (state_of (cells_of x ls))
    each first = rw (b.rest, a.own) m
    each second = rw (b.own, ← a.rest) n

pub unpacked-both : (ls : List (List ℕ)) (r q : Record) {l₁ l₂ : List ℕ} → length ls ≡ 2 → l₁ ≡ lock_of r → l₂ ≡ lock_of q
    → set (set ls 0 l₁) 1 l₂ ≡ locks_of r q
unpacked-both [] r q h e f = absurd (omega arith)
unpacked-both (a ∷ []) r q h e f = absurd (omega arith)
unpacked-both (a ∷ b ∷ []) r q h e f = rw (e, f)
unpacked-both (a ∷ b ∷ c ∷ ls) r q h e f = absurd (omega arith)

pub both-are : (ls : List (List ℕ)) (r q : Record) → length ls ≡ 2 → lock_of r ≡ get_or ls 0 [] → lock_of q ≡ get_or ls 1 []
    → locks_of r q ≡ ls
both-are [] r q h e f = absurd (omega arith)
both-are (a ∷ []) r q h e f = absurd (omega arith)
both-are (a ∷ b ∷ []) r q h e f = rw (e, f)
both-are (a ∷ b ∷ c ∷ ls) r q h e f = absurd (omega arith)

pub place-long : {z : Sizes} {n : ℕ} {ls : List (List ℕ)} → Place z ls n → (x : Side) → length (cells_of x ls) ≡ 512
place-long p x = (p.reached x).shaped.long

-- ---- one row

kept-as : (o : Bool) (z : Sizes) {n : ℕ} {x x' : List ℕ × List ℕ}
    → Before n x.0 x'.0 → Before n x.1 x'.1 → Kept (both o z) n x x'
kept-as o z b c = record {
  before = b;
  same = λ i l. ap₂ (λ (r q : Record). locks_of r q) (b.same i l) (c.same i l);
}

module _ (o : Bool) {z : Sizes} {x : List ℕ × List ℕ} {n i : ℕ} {ls₀ : List (List ℕ)} (s : Sound (both o z) x n)
    (y : Trying (both o z) x n i ls₀) (t c : ℕ) where
  abbrev row : Row
  row = record { thread = t; order = c }

  -- it is out of order, and not made
  pub both-barred : {b : Bool} → o ≡ true → out_of_order z (pair_in ls₀) row ≡ true
      → Tries (both o z) (Only t c) i x n x n ls₀ b
  both-barred p q = tries-barred (both o z) s y t c (record { number = 7; is = rw (p, q) })

  module _ (h : (o && out_of_order z (pair_in ls₀) row) ≡ false) {ls₁ : List (List ℕ)} {w : Result Entry Refusal}
      (k : Turned z row ls₀ ls₁ w) where
    came : Came written (pair_in ls₀) (pair_in ls₁) w (turn_in o z (pair_in ls₀) row)
    came = rw h k.comes

    there : Place z ls₁ (suc (depth_at x.0 i))
    there = k.keeps (depth_at x.0 i) y.after

    pub both-refused : {b : Bool} → is_err w ≡ true → Tries (both o z) (Only t c) i x n x n ls₁ b
    both-refused f =
        tries-refused (both o z) s y t c {l₁ = ls₁} came f
        (place-tidied (as-tidied (from (turn z (pair_in ls₀) row) k.comes) there) y.after)
      where
        from : (q : OutcomeOf Pair Note) → Came written (pair_in ls₀) (pair_in ls₁) w q → pair_in ls₁ ≡ pair_in ls₀
        from (taken s' e) g = absurd (not_taken w f g.is)
        from (refused a) g = g.left

    -- it is taken, and led to locks that the records r and q stand for: whether they are found or new
    pub both-taken : {ls₂ ls₃ : List (List ℕ)} {x₁ : List ℕ × List ℕ} (r q : Record) → is_err w ≡ false → Tidied ls₁ ls₂
        → locks_of r q ≡ ls₂ → r.head ≡ head_of i (depth_at x.0 i + 1) t c → (t < 256) × (c < 256)
        → {m : ℕ} {ok : Bool} → AddsBoth x n (record { one = r; two = q }) x₁ m ok → ls₃ ≡ locks_at x i
        → Tries (both o z) (Only t c) i x n x₁ m ls₃ ok
    both-taken {ls₂} {ls₃} {x₁} r q f v e head small {m} {ok} a l = by a
      where
        by : AddsBoth x n (record { one = r; two = q }) x₁ m ok → Tries (both o z) (Only t c) i x n x₁ m ls₃ ok
        by (inl a) =
            rw (a.same, a.count, a.told)
            (tries-found (both o z) s y t c {l₁ = ls₁} came f (pair-tidied v) (place-tidied v there) small a.within
            (rw (← e) (ap₂ (λ (p q : State). record { one = p; two = q })
            (locks-alike (record_at x.0 a.place) r a.key)
            (locks-alike (record_at x.1 a.place) q a.other))) l)
        by (inr (inl a)) = rw (a.same, a.count, a.told) (tries-failed (both o z) s y refl)
        by (inr (inr a)) =
            let p = a.room.0 in
            let p' = a.room.1 in
            let here = stored_there x.0 n r (omega arith) in
            let here' = stored_there x.1 n q (omega arith) in
            let b = before-stored x.0 n r in
            let b' = before-stored x.1 n q in
            rw (a.here, a.count, a.told)
            (tries-added (both o z) s y t c {l₁ = ls₁} came f (pair-tidied v) (place-tidied v there) small
            (omega (arith, b.long), omega (arith, b'.long)) (kept-as o z b b')
            (ap (λ (u : Record). u.head) here ∙ head) (ap₂ (λ (r q : Record). locks_of r q) here here' ∙ e) l)

-- a row may be made
pub place_here : (o : Bool) {z : Sizes} {x : List ℕ × List ℕ} {n i : ℕ} {ls : List (List ℕ)}
    → Trying (both o z) x n i ls → Place z ls 4294967293
place_here o y = place-within (let k = y.shallow in omega arith) y.after

-- ---- the first records

pub sound-both : (o : Bool) {z : Sizes} {ls : List (List ℕ)} (st ts : List ℕ) (r q : Record)
    → InRange z → Begins ls → 8 ≤ length st → 8 ≤ length ts → r.head ≡ 0 → locks_of r q ≡ ls
    → Sound (both o z) (stored st 0 r, stored ts 0 q) 1
sound-both o {z} {ls} st ts r q h b room room' head w =
    let here : record_at (stored st 0 r) 0 ≡ r = stored_there st 0 r (omega arith) in
    let here' : record_at (stored ts 0 q) 0 ≡ q = stored_there ts 0 q (omega arith) in
    let top : depth_at (stored st 0 r) 0 ≡ 0 =
    ap (λ (u : Record). u.head / 65536 % 65536) here ∙ ap (λ (u : ℕ). u / 65536 % 65536) head in
    let all : locks_at (stored st 0 r, stored ts 0 q) 0 ≡ ls = ap₂ (λ (r q : Record). locks_of r q) here here' ∙ w in
    record {
      room = (omega (arith, (before-stored st 0 r).long), omega (arith, (before-stored ts 0 q).long));
      some = omega arith;
      first = ap pair_in all ∙ begins-fresh b;
      top = top;
      reached = λ i k. let e : i ≡ 0 = omega arith in rw (e, top, all) (placed h b);
      led = λ i p k. absurd (omega arith);
      ordered = λ i j l k. let e : i ≡ 0 = omega arith in let f : j ≡ 0 = omega arith in rw (e, f) (omega arith);
    }

-- ---- every row is one of those that are tried, or is refused

module _ (z : Sizes) (none-booked : z.items ≡ 0) (o : Bool) (s : Pair) where
  module _ (t c : ℕ) where
    abbrev r : Row
    r = record { thread = t; order = c }

    abbrev x : Side
    x = side_of s r

    tried : (k : ℕ) → k < orders_of z → t < z.threads → c ≡ order_in z k → OfBoth z r
    tried k l h e = record {
      there = h;
      tried = record { kind = k; known = l; is = ap (λ (u : ℕ). record { thread = t; order = u }) e };
    }

    -- the order is the row's lock's own
    known : OfOne z (own_row r) → OfBoth z r
    known u =
        let j = u.tried.kind in
        let l = u.tried.known in
        let e : lowered c ≡ order_of j = ap (λ (q : Row). q.order) u.tried.is in
        by-test (ltb 128 c && ltb c 224) (λ b. second-lock j l e b) (λ b. (
        let f : c ≡ order_of j = rw b at e in
        tried j (omega arith) u.there (rw (lt-ltb j (5 + z.nodes) l) f)))
      where
        above : (ltb 128 c && ltb c 224) ≡ true → 128 < c
        above b = elim (dec_lt 128 c) [
          | yes h ↦ h
          | no h ↦ not-both false (rw (le-ltb 128 c (omega arith)) at b) refl
        ]

        second-lock : (j : ℕ) → j < 5 + z.nodes → lowered c ≡ order_of j → (ltb 128 c && ltb c 224) ≡ true → OfBoth z r
        second-lock j l e b =
            let f : c - 128 ≡ order_of j = rw b at e in
            let h = above b in
            elim (ℕ_discrete j 0) [
              | yes q ↦ (let g : c - 128 ≡ 0 = rw q at f in absurd (omega arith))
              | no q ↦
                  let g : j + (4 + z.nodes) - (4 + z.nodes) ≡ j = omega arith in
                  let d : c ≡ 128 + order_of j = omega arith in
                  tried (j + (4 + z.nodes)) (omega arith) u.there
                  (rw (le-ltb (j + (4 + z.nodes)) (5 + z.nodes) (omega arith), g) d)
            ]

    refuses : Refusing (step z (of_side x s) (own_row r)) → Refusing (turn_in o z s r)
    refuses q =
        let e : turn z s r ≡ refused q.number =
        by_side z s r x (barred s x r) refl refl ∙ ap (turned s x (barred s x r)) q.is in
        by-test (o && out_of_order z s r) (λ b. record { number = 7; is = rw b })
        (λ b. record { number = q.number; is = rw b e })

    either : OfBoth z r ⊎ Refusing (turn_in o z s r)
    either = elim (every-row z none-booked (of_side x s) (own_row r)) [
      | inl u ↦ inl (known u)
      | inr q ↦ inr (refuses q)
    ]

  pub every-both : (r : Row) → OfBoth z r ⊎ Refusing (turn_in o z s r)
  every-both r = either r.thread r.order

-- the largest order of one lock
pub order_small : (k : ℕ) → k < 13 → order_of k ≤ 71
order_small k h = elim (dec_lt k 5) [
  | yes a ↦ rw (lt-ltb k 5 a) (omega arith)
  | no a ↦ rw (le-ltb k 5 (omega arith)) (omega arith)
]

-- ---- lock order

-- program counter 0 alone is that of an idle thread
pub idle-is : (m : List ℕ) (t : ℕ) → t < 64 → eqb (pc m t) 0 ≡ stands_idle (standing (thread_at (state_of m) t).phase)
idle-is m t h = rw (thread-is m t h, stands (pc m t) (node m t) (route m t) (below m t) (seen m t)) (from (pc m t))
  where
    from : (k : ℕ) → eqb k 0 ≡ stands_idle (get_or (standings (route m t)) k Standing.Calling)
    from zero = refl
    from (suc zero) = refl
    from (suc (suc zero)) = refl
    from (suc (suc (suc k))) =
        let e = ne_eqb (suc (suc (suc k))) 0 (λ q. omega arith) in
        late-standing k (λ (s : Standing). eqb (suc (suc (suc k))) 0 ≡ stands_idle s) e e

module _ (z : Sizes) (small : Small z) (s : Pair) (t c : ℕ) where
  abbrev asks : Bool
  asks = asks_for z first s (record { thread = t; order = c })

  abbrev mine : Bool
  mine = is first (side_of s (record { thread = t; order = c }))

  own : c ≤ 128 → lowered c ≡ c
  own h = rw (le-ltb 128 c h)

  pub asks-low : c ≢ 1 → c < 64 → asks ≡ false
  asks-low a h = elim (ℕ_discrete c 0) [
    | yes e ↦ rw e (and-false (is first (side_of s (record { thread = t; order = 0 }))))
    | no n₀ ↦ elim (ℕ_discrete c 2) [
      | yes e ↦ rw e
      | no n₂ ↦ elim (ℕ_discrete c 3) [
        | yes e ↦ rw e
        | no n₃ ↦ elim (ℕ_discrete c 4) [
          | yes e ↦ rw e
          | no n₄ ↦ rw (own (omega arith), decode-low z c n₀ a n₂ n₃ n₄ h) (and-false mine)
        ]
      ]
    ]
  ]

  pub asks-node : 64 ≤ c → c - 64 < z.nodes → asks ≡ true
  asks-node h k =
      let m = small.nodes in
      rw (
        ne_eqb c 0 (λ q. omega arith),
        own (omega arith),
        le-ltb 128 c (omega arith),
        decode-node z c h (omega arith) k,
      )

  pub asks-far : 64 ≤ c → z.nodes ≤ c - 64 → asks ≡ false
  asks-far h k =
      let i = small.items in
      elim (dec_lt c 96) [
        | yes a ↦ rw (own (omega arith), decode-far z c h a k) (and-false mine)
        | no a ↦ elim (dec_lt c 128) [
          | yes b ↦ rw (own (omega arith), decode-behind z c h (omega arith) b (omega arith)) (and-false mine)
          | no b ↦ elim (ℕ_discrete c 128) [
            | yes e ↦ rw (own (omega arith), decode-high z c h (omega arith)) (and-false mine)
            | no e ↦ rw (ne_eqb c 0 (λ q. omega arith), lt-ltb 128 c (omega arith))
          ]
        ]
      ]

-- ---- what a search asks

pub lawful-both : (o : Bool) (z : Sizes) → Small z → Lawful (both o z) (OfBoth z)
lawful-both o z small = record {
  every = every-both z small.items o;
  forgets = forgets-two o z;
  none = λ x. (omega arith, omega arith);
  bounded = λ x n h. (let a = h.0 in omega arith);
}

-- the first records are new
pub added-both : {x x' : List ℕ × List ℕ} {m : ℕ} {r : Records} → AddsBoth x 0 r x' m true
    → (m ≡ 1) × (x' ≡ (stored x.0 0 r.one, stored x.1 0 r.two))
added-both (inl a) = absurd (let l = a.within in omega arith)
added-both (inr (inl a)) = (let q = a.told in clash cc)
added-both (inr (inr a)) = (let q = a.count in (omega arith, a.here))
