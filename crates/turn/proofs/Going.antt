-- Order 0, tried at one lock after the other: a lock that refuses stays as it is, and the other one has the call, if
-- there is one.
use Rattle.lock.proofs.Library.{ℕ, ◌+◌, ◌≤◌, ◌<◌, ◌≡◌, refl, sym, ap, subst, ◌∙◌, true, false, List, [], arith}
use Rattle.lock.proofs.{Library.{length, get_or, set, lt-ltb}, Choice.{by-test, clash}}
use Rattle.lock.specs.{declared.Sizes.Sizes, Machine.{Row, taken, refused}, Call.{op, obey}, State.{State, Outcome}}
use Rattle.lock.specs.{State.perform, Run.step, Bound.steps_before}
use Rattle.lock.specs.{declared.{Entry.Entry, Refusal.{Refusal, TheVariants.Unsuitable}}, Refusal.number_of}
use Rattle.std.specs.Prelude.{Result, Ok, Err}
use Rattle.pair.specs.Pair.{other, Side, first, second, Pair, lock_of, busy, side_of, written, base, turned, turn}
use Rattle.pair.specs.Calls.{OneCall}
use Rattle.pair.proofs.Calls.{rests-refused, goes-seven}
use Rattle.cells.specs.View.{phase_at, state_of, Shaped}
use Rattle.rows.specs.Outcome.{Comes, Tried as Made}
use Rattle.step.{specs.Reached.{Ready, Reached}, proofs.Orders.step-there}
use Rattle.journal.specs.Came.{Came}
use Rattle.turn.specs.Turn.{place_of, cells_of, pair_in, Place, Turned}
use Rattle.turn.proofs.{Both.{place_at, stored, place-within}, Turning.noted, Rows.{ready, made_at, small_at}}

-- ---- locks that stand for the same states

pub record Alike (z : Sizes) (ls ls' : List (List ℕ)) : Type 0 where
  pub pair : pair_in ls' ≡ pair_in ls
  pub place : (n : ℕ) → Place z ls n → Place z ls' n

itself : (z : Sizes) (ls : List (List ℕ)) → Alike z ls ls
itself z ls = record { pair = refl; place = λ n p. p }

reached-alike : {z : Sizes} {n : ℕ} {l : List ℕ} (l' : List ℕ)
    → Shaped l' → state_of l' ≡ state_of l → Reached z n l → Reached z n l'
reached-alike l' h e r =
    record { shaped = h; range = r.range; rows = r.rows; few = r.few; all = r.all; there = r.there ∙ sym e }

module _ (z : Sizes) (ls : List (List ℕ)) (l' : List ℕ) (long : length ls ≡ 2) (h : Shaped l') where
  set_pair : (x : Side) → state_of l' ≡ state_of (cells_of x ls) → pair_in (set ls (place_of x) l') ≡ pair_in ls
  set_pair first e = let o = stored first ls l' long in rw (o.own, o.rest, e)
  set_pair second e = let o = stored second ls l' long in rw (o.own, o.rest, e)

  set-alike : (x : Side) → state_of l' ≡ state_of (cells_of x ls) → Alike z ls (set ls (place_of x) l')
  set-alike x e =
      record {
        pair = set_pair x e;
        place = λ n p. place_at x (stored x ls l' long) long (reached-alike l' h e (p.reached x))
            (p.reached (other x)) (subst OneCall (sym (set_pair x e)) p.calls);
      }

-- ---- at the lock x

-- a thread without a call in the state s
abbrev pub Refuses : Sizes → ℕ → State → Type 0
Refuses z t s = step z s (record { thread = t; order = 0 }) ≡ refused 7

module _ (z : Sizes) (t : ℕ) (ls : List (List ℕ)) (p : Place z ls steps_before) (near : t < z.threads) where
  abbrev row : Row
  row = record { thread = t; order = 0 }

  own-state : (x : Side) → lock_of x (pair_in ls) ≡ state_of (cells_of x ls)
  own-state first = refl
  own-state second = refl

  going : (x : Side) → busy (state_of (cells_of x ls)) t ≡ true → side_of (pair_in ls) row ≡ x
  going first h = let k : busy (state_of (cells_of second ls)) t ≡ false = rw h at (p.calls t) in rw k
  going second h = rw h

  module _ (x : Side) where
    abbrev l : List ℕ
    l = cells_of x ls

    stepped-is : step z (state_of l) row ≡ perform z (state_of l) t (op z.fan (phase_at l t))
    unfolding obey
    stepped-is = step-there z l t 0 (p.reached x).range.threads near

    -- it took the row: the call is there
    calls-there : {l' : List ℕ} {e : Entry} → Made z t (phase_at l t) l l' (Ok e) → busy (state_of l) t ≡ true
    calls-there {l'} {e} c =
        by-test (busy (state_of l) t) (λ k. k)
        (λ k. let o = rw (lt-ltb t z.threads near) at (rests-refused z (state_of l) t k) in
        let d : Comes l l' (Ok e) (refused 7) = subst (Comes l l' (Ok e)) (sym stepped-is ∙ o) c in
        let no : Ok e ≡ Err 7 = d.is in clash cc)

    pub tried-taken : {l' : List ℕ} {e : Entry} → Made z t (phase_at l t) l l' (Ok e)
        → (e.word < 64) × Turned z row ls (set ls (place_of x) l') (Ok (noted x e))
    unfolding obey
    tried-taken {l'} c =
        let own = going x (calls-there c) in
        (small_at z t ls p near x 0 own refl c, made_at z t ls p near x 0 own refl c (stored x ls l' p.long))

    -- it refused the row: it stays as it is
    pub tried : {l' : List ℕ} {r : Refusal} → Made z t (phase_at l t) l l' (Err r)
        → Alike z ls (set ls (place_of x) l') × Refuses z t (lock_of x (pair_in ls))
    tried {l'} {r} c =
        let k = so (perform z (state_of l) t (op z.fan (phase_at l t))) refl c in
        (set-alike z ls l' p.long c.left.shaped x k.1, rw (own-state x) (stepped-is ∙ k.0))
      where
        so : (q : Outcome) → perform z (state_of l) t (op z.fan (phase_at l t)) ≡ q
            → Comes l l' (Err r) q
            → (perform z (state_of l) t (op z.fan (phase_at l t)) ≡ refused 7) × (state_of l' ≡ state_of l)
        so (taken s e) q k = let no : Err (number_of r) ≡ Ok e = k.is in clash cc
        so (refused a) q k =
            (q ∙ ap (λ (m : ℕ). refused m) (goes-seven z (state_of l) t z.fan (phase_at l t) a q), k.left.state)

-- ---- the loop over the two locks, which were ls₀

-- the locks that have refused so far, by the place of the next and what is added to its words
pub data Asked (z : Sizes) (t : ℕ) (s : Pair) : ℕ → ℕ → Type 0 where
  neither : Asked z t s 0 0
  one : Refuses z t s.one → Asked z t s 1 64
  both : Refuses z t s.one → Refuses z t s.two → Asked z t s 2 64

pub record Sofar (z : Sizes) (t : ℕ) (ls₀ ls : List (List ℕ)) (side add : ℕ) : Type 0 where
  pub alike : Alike z ls₀ ls
  pub asked : Asked z t (pair_in ls₀) side add

pub begun : (z : Sizes) (t : ℕ) (ls : List (List ℕ)) → Sofar z t ls ls 0 0
begun z t ls = record { alike = itself z ls; asked = neither }

-- the lock that is tried next
pub record Next (z : Sizes) (t : ℕ) (s : Pair) (side add : ℕ) : Type 0 where
  pub at : Side
  pub place : side ≡ place_of at
  pub more : add ≡ base at
  pub onward : Refuses z t (lock_of at s) → Asked z t s (side + 1) 64

next_of : {z : Sizes} {t : ℕ} {s : Pair} {side add : ℕ}
    → Asked z t s side add → side < 2 → Next z t s side add
next_of neither lt = record { at = first; place = refl; more = refl; onward = λ h. one h }
next_of (one k) lt = record { at = second; place = refl; more = refl; onward = λ h. both k h }
next_of (both a b) lt = absurd (omega arith)

-- both refuse the row, and so does the pair
either : (z : Sizes) (t : ℕ) (s : Pair)
    → Refuses z t s.one → Refuses z t s.two → turn z s (record { thread = t; order = 0 }) ≡ refused 7
unfolding turn
either z t s a b =
    by-test (busy s.two t) (λ k. rw k (ap (turned s second false) b)) (λ k. rw k (ap (turned s first false) a))

alike_turned : {z : Sizes} {r : Row} {ls ls₁ ls₂ : List (List ℕ)} {w : Result Entry Refusal}
    → Alike z ls ls₁ → Turned z r ls₁ ls₂ w → Turned z r ls ls₂ w
alike_turned {z} {r} {ls} {ls₁} {ls₂} {w} a h =
    record {
      comes = subst (λ (s : Pair). Came written s (pair_in ls₂) w (turn z s r)) a.pair h.comes;
      keeps = λ n p. h.keeps n (a.place n p);
    }

module _ (z : Sizes) (t : ℕ) (ls₀ : List (List ℕ)) (p : Place z ls₀ steps_before) (near : t < z.threads) where
  abbrev s : Pair
  s = pair_in ls₀

  module _ {ls : List (List ℕ)} {side add : ℕ} (h : Sofar z t ls₀ ls side add) where
    -- both refused
    pub neither-takes : 2 ≤ side → Turned z (record { thread = t; order = 0 }) ls₀ ls (Err Unsuitable)
    neither-takes lt = from h.asked lt
      where
        from : {k m : ℕ} → Asked z t s k m → 2 ≤ k → Turned z (record { thread = t; order = 0 }) ls₀ ls (Err Unsuitable)
        from neither q = absurd (omega arith)
        from (one a) q = absurd (omega arith)
        from (both a b) q =
            record {
              comes = subst (Came written s (pair_in ls) (Err Unsuitable))
                  (sym (either z t s a b)) (record { left = h.alike.pair; is = refl; fair = omega arith });
              keeps = λ n k. place-within (omega arith) (h.alike.place n k);
            }

    -- one more is tried
    module _ (lt : side < 2) where
      pub next : Next z t (pair_in ls₀) side add
      next = next_of h.asked lt

      now : Place z ls steps_before
      now = h.alike.place steps_before p

      pub next-ready : Ready z (get_or ls side []) t
      next-ready = rw next.place (ready z t ls now near next.at)

      module _ {l' : List ℕ} {w : Result Entry Refusal}
          (c : Made z t (phase_at (get_or ls side []) t) (get_or ls side []) l' w) where
        there : Made z t (phase_at (cells_of next.at ls) t) (cells_of next.at ls) l' w
        there = rw next.place at c

        pub takes : {e : Entry} → w ≡ Ok e
            → (e.word < 64) × (add ≤ 64)
            × Turned z (record { thread = t; order = 0 }) ls₀ (set ls side l')
            (Ok (record { kind = e.kind; word = e.word + add }))
        takes {e} i =
            let k = tried-taken z t ls now near next.at (rw i at there) in (
              k.0,
              small next.at next.more,
              entered next.at next.place next.more (alike_turned h.alike k.1),
            )
          where
            small : (x : Side) → add ≡ base x → add ≤ 64
            small first e = omega arith
            small second e = omega arith

            entered : (x : Side) → side ≡ place_of x → add ≡ base x
                → Turned z (record { thread = t; order = 0 }) ls₀ (set ls (place_of x) l') (Ok (noted x e))
                → Turned z (record { thread = t; order = 0 }) ls₀ (set ls side l')
                (Ok (record { kind = e.kind; word = e.word + add }))
            entered x p m d = rw (p, m) d

        pub denies : {r : Refusal} → w ≡ Err r → Sofar z t ls₀ (set ls side l') (side + 1) 64
        denies i =
            let (a, k) = tried z t ls now near next.at (rw i at there) in
            let r = subst (λ (s : Pair). Refuses z t (lock_of next.at s)) h.alike.pair k in
            record {
              alike = rw next.place
                  (record { pair = a.pair ∙ h.alike.pair; place = λ m q. a.place m (h.alike.place m q) });
              asked = next.onward r;
            }
