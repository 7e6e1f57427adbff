-- The ways in which a row of two locks goes, as the code takes them: by the order, and by who is in a call.
use Rattle.lock.proofs.Library.{ℕ, ◌-◌, ◌≤◌, ◌<◌, ◌≡◌, refl, sym, subst, ◌≢◌, true, false, not, ◌&&◌, List}
use Rattle.lock.proofs.{Library.{none, arith, eqb, set, ne_eqb, lt-ltb, le-ltb}, Choice.by-test}
use Rattle.lock.specs.{declared.Sizes.Sizes, Machine.Row, Call.{decode, obey}, Run.row_refusal, State.perform}
use Rattle.lock.specs.Bound.{steps_before}
use Rattle.pair.specs.Pair.{Side, first, second, other, busy, side_of, lowered, own_row}
use Rattle.cells.specs.View.{state_of, Shaped}
use Rattle.std.specs.Prelude.{Result, Ok, Err}
use Rattle.lock.specs.{declared.{Entry.Entry, Refusal.{Refusal, TheVariants.{NoSuchThread, NoSuchOrder, Unsuitable}}}, Refusal.number_of}
use Rattle.rows.proofs.Rows as made
use Rattle.orders.proofs.Refusals as refusals
use Rattle.step.specs.Reached.{Ready, Obeys, Steps}
use Rattle.step.proofs.{Reach.{reached-within, stepped}, Orders.{step-there, decode-far}}
use Rattle.turn.specs.Turn.{place_of, cells_of, pair_in, refused_new, Place, Turned}
use Rattle.turn.proofs.{Turning.{far, barred, lifted, made-there, small-there, as-it-is}, Both.Only}
use Rattle.turn.proofs.Both.{unchanged, stored, at-lock}

-- a thread that is not there
pub far-row : (z : Sizes) (t o : ℕ) (ls : List (List ℕ))
    → z.threads ≤ t → Turned z (record { thread = t; order = o }) ls ls (Err NoSuchThread)
far-row z t o ls h =
    at-lock z (record { thread = t; order = o }) ls
    (side_of (pair_in ls) (record { thread = t; order = o })) refl (unchanged _ ls) (far z _ t o _ _ h)

-- an order above 128 is the second lock's
pub own-second : (ls : List (List ℕ)) (t o : ℕ)
    → 128 < o → side_of (pair_in ls) (record { thread = t; order = o }) ≡ second
own-second ls t o high = rw (ne_eqb o 0 (λ e. omega arith), lt-ltb 128 o high)

-- an order of the first lock, by whether the thread t is in a call at the second
pub record First (z : Sizes) (t : ℕ) (ls : List (List ℕ)) (o : ℕ) : Type 0 where
  pub bars : busy (state_of (cells_of second ls)) t ≡ true
      → Turned z (record { thread = t; order = o }) ls ls (Err Unsuitable)
  pub makes : {l' : List ℕ} {w : Result Entry Refusal} → busy (state_of (cells_of second ls)) t ≡ false
      → Obeys z t (decode z o) (cells_of first ls) l' w → Turned z (record { thread = t; order = o }) ls (set ls 0 l') w

module _ (z : Sizes) (t : ℕ) (ls : List (List ℕ)) (p : Place z ls steps_before) (near : t < z.threads) where
  abbrev row : ℕ → Row
  row o = record { thread = t; order = o }

  pub there : t < 64
  there = let h = (p.reached first).range.threads in omega arith

  pub may-begin : Shaped (cells_of first ls) × (t < 64)
  may-begin = ((p.reached first).shaped, there)

  pub ready : (x : Side) → Ready z (cells_of x ls) t
  ready x = record { reached = reached-within z (omega arith) (p.reached x); mine = near }

  -- ---- at the lock x, which the other does not bar: the thread obeyed there

  module _ (x : Side) (o : ℕ)
      (own : side_of (pair_in ls) (row o) ≡ x) (free : (not (eqb o 0) && busy (state_of (cells_of (other x) ls)) t) ≡ false)
      {l' : List ℕ} {w : Result Entry Refusal} (c : Obeys z t (decode z (lowered o)) (cells_of x ls) l' w) where
    pub steps : Steps z (own_row (row o)) (cells_of x ls) l' w
    steps = stepped z (rw (step-there z (cells_of x ls) t (lowered o) (p.reached x).range.threads near) c)

    pub made_at : {ls' : List (List ℕ)} → Only x ls ls' l' → Turned z (row o) ls ls' (lifted x w)
    made_at k = at-lock z (row o) ls x own k (made-there z x t o _ _ free steps)

  -- a row that was taken at the lock x: its own word is below 64
  pub small_at : (x : Side) (o : ℕ) (own : side_of (pair_in ls) (row o) ≡ x)
      (free : (not (eqb o 0) && busy (state_of (cells_of (other x) ls)) t) ≡ false)
      {l' : List ℕ} {e : Entry} → Obeys z t (decode z (lowered o)) (cells_of x ls) l' (Ok e) → e.word < 64
  small_at x o own free c =
      small-there z x t o _ (cells_of (other x) ls) free (ready x).reached (steps x o own free c)

  -- ---- a new call at the lock x, by whether the thread is in one at the other

  module _ (x : Side) (o : ℕ) (begins : o ≢ 0) (own : side_of (pair_in ls) (row o) ≡ x) where
    pub barred-new : busy (state_of (cells_of (other x) ls)) t ≡ true
        → {q : Refusal} → number_of q ≡ refused_new z (row (lowered o)) → Turned z (row o) ls ls (Err q)
    barred-new b {q} e =
        at-lock z (row o) ls x own (unchanged x ls) (barred z x t o _ _ (rw (ne_eqb o 0 begins) b) q e)

    module _ (b : busy (state_of (cells_of (other x) ls)) t ≡ false) where
      free : (not (eqb o 0) && busy (state_of (cells_of (other x) ls)) t) ≡ false
      free = rw (ne_eqb o 0 begins) b

      pub made-new : {l' : List ℕ} {w : Result Entry Refusal} → Obeys z t (decode z (lowered o)) (cells_of x ls) l' w
          → Turned z (row o) ls (set ls (place_of x) l') (lifted x w)
      made-new {l'} c = made_at x o own free c (stored x ls l' p.long)

      pub small-new : {l' : List ℕ} {e : Entry} → Obeys z t (decode z (lowered o)) (cells_of x ls) l' (Ok e) → e.word < 64
      small-new = small_at x o own free

  -- ---- orders of the second lock

  module _ (o : ℕ) (high : 128 < o) where
    is-new : o ≢ 0
    is-new q = omega arith

    pub barred-second : busy (state_of (cells_of first ls)) t ≡ true
        → {q : Refusal} → number_of q ≡ refused_new z (row (lowered o)) → Turned z (row o) ls ls (Err q)
    barred-second = barred-new second o is-new (own-second ls t o high)

    module _ (b : busy (state_of (cells_of first ls)) t ≡ false) where
      pub made-second : {l' : List ℕ} {w : Result Entry Refusal} → Obeys z t (decode z (lowered o)) (cells_of second ls) l' w
          → Turned z (row o) ls (set ls 1 l') (lifted second w)
      made-second = made-new second o is-new (own-second ls t o high) b

      pub small-second : {l' : List ℕ} {e : Entry} → Obeys z t (decode z (lowered o)) (cells_of second ls) l' (Ok e)
          → e.word < 64
      small-second = small-new second o is-new (own-second ls t o high) b

  -- ---- orders of the first lock

  module _ (o : ℕ) (begins : o ≢ 0) (low : o ≤ 128) where
    own_first : side_of (pair_in ls) (row o) ≡ first
    own_first = rw (ne_eqb o 0 begins, le-ltb 128 o low)

    same : lowered o ≡ o
    same = rw (le-ltb 128 o low)

    pub made-first : busy (state_of (cells_of second ls)) t ≡ false
        → {l' : List ℕ} {w : Result Entry Refusal} → Obeys z t (decode z o) (cells_of first ls) l' w
        → Turned z (row o) ls (set ls 0 l') w
    made-first b {l'} {w} c =
        let d : Obeys z t (decode z (lowered o)) (cells_of first ls) l' w = rw same c in
        subst (Turned z (row o) ls (set ls 0 l')) (as-it-is w) (made-new first o begins own_first b d)

    pub barred-first : busy (state_of (cells_of second ls)) t ≡ true
        → {q : Refusal} → number_of q ≡ refused_new z (row o) → Turned z (row o) ls ls (Err q)
    barred-first b e = barred-new first o begins own_first b (rw same e)

    -- neither 5 nor 6: by whether the thread is in a call at the second lock
    pub known-first : 0 ≡ row_refusal z (row o) → First z t ls o
    known-first q =
        record {
          bars = λ b. barred-first b (rw (sym q) refl);
          makes = λ b c. made-first b c;
        }

    -- there is no such order
    pub unknown : decode z o ≡ none → 6 ≡ row_refusal z (row o) → Turned z (row o) ls ls (Err NoSuchOrder)
    unfolding obey perform
    unknown d q =
        by-test (busy (state_of (cells_of second ls)) t) (λ b. barred-first b (rw (sym q) refl))
        (λ b. made_at first o own_first (rw (ne_eqb o 0 begins) b) {w = Err NoSuchOrder}
        (rw (same, d) (made.refuses NoSuchOrder (omega arith) (p.reached first).shaped refl)) (unchanged first ls))

  -- the orders that begin a call of the first lock by the match on the order byte
  pub writes : First z t ls 1
  writes = known-first 1 (λ q. omega arith) (omega arith) (rw (lt-ltb t z.threads near))

  pub unlocks : First z t ls 2
  unlocks = known-first 2 (λ q. omega arith) (omega arith) (rw (lt-ltb t z.threads near))

  module _ (o : ℕ) (g : 64 ≤ o) (h : o < 96) where
    some-order : o ≢ 0
    some-order q = omega arith

    pub locks-by : o - 64 < z.nodes → First z t ls o
    locks-by k = known-first o some-order (omega arith) (refusals.read-lock z t o near some-order g h k)

    pub no_node : z.nodes ≤ o - 64 → Turned z (row o) ls ls (Err NoSuchOrder)
    no_node k =
        unknown o some-order (omega arith) (decode-far z o g h k) (refusals.no_node z t o near some-order g h k)
