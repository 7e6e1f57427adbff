-- The two locks are apart.
use Rattle.lock.proofs.Library.{ℕ, ◌≡◌, refl, ap, ◌∙◌, Bool, true, false, not, List, [], ◌∷◌, eqb, length}
use Rattle.lock.proofs.{Choice.{and-false, by-test}, Demand.idle-at}
use Rattle.laws.proofs.Lock.{Entry, Sizes, standing, State, fresh, Outcome, taken, refused, step, Row, ResultOf, after}
use Rattle.laws.proofs.Lock.{follow, runs}
use Rattle.lock.specs.Run as lock
use Rattle.pair.specs.Pair.{Side, first, second, Pair, lock_of, with_lock, fresh_pair, busy, side_of, own_row, barred}
use Rattle.pair.specs.{Pair.{Note, turned, turn_at, turn, run}, Apart.{rows_at, own_rows, notes_at, own_entries}}
use Rattle.pair.specs.Apart.{Separate}

-- ---- a lock's own rows, on a single lock

-- all of them are taken
abbrev whole : Side → List Row → ResultOf Pair Note → lock.Result
whole x rs r = record {
  answer = 0;
  taken = length (own_rows x rs r.entries);
  state = lock_of x r.state;
  entries = own_entries x r.entries;
}

module _ (z : Sizes) where
  pub own : (x : Side) (s : Pair) (rs : List Row)
      → lock.run z (lock_of x s) (own_rows x rs (run z s rs).entries) ≡ whole x rs (run z s rs)
  unfolding run runs turn lock.run
  own x s [] = refl
  own x s (r ∷ rs) =
      from x (side_of s r) (barred s (side_of s r) r) (step z (lock_of (side_of s r) s) (own_row r)) refl (λ s'. own x s' rs)
    where
      from : (x y : Side) (b : Bool) (o : Outcome) → step z (lock_of y s) (own_row r) ≡ o
          → ((s' : Pair) → lock.run z (lock_of x s') (own_rows x rs (run z s' rs).entries) ≡ whole x rs (run z s' rs))
          → lock.run z (lock_of x s) (own_rows x (r ∷ rs) (follow s (λ s'. run z s' rs) (turned s y b o)).entries)
          ≡ whole x (r ∷ rs) (follow s (λ s'. run z s' rs) (turned s y b o))
      from x y b (refused n) q k = refl
      from x y true (taken l e) q k = refl
      from first first false (taken l e) q k = rw q (ap (lock.after e) (k (with_lock first l s)))
      from first second false (taken l e) q k = k (with_lock second l s)
      from second first false (taken l e) q k = k (with_lock first l s)
      from second second false (taken l e) q k = rw q (ap (lock.after e) (k (with_lock second l s)))

-- ---- its rows as they stand, on two locks

-- the lock x as it is in s, and the other one fresh
abbrev only : Side → Pair → Pair
only x s = with_lock x (lock_of x s) fresh_pair

abbrev left : Side → List Row → ResultOf Pair Note → ResultOf Pair Note
left x rs r = record {
  answer = 0;
  taken = length (rows_at x rs r.entries);
  state = only x r.state;
  entries = notes_at x r.entries;
}

-- nobody is busy in a fresh lock
pub idle-fresh : (t : ℕ) → busy fresh t ≡ false
unfolding standing
idle-fresh t = rw (idle-at 64 t)

-- a row by its side and by whether it is barred
pub by_side : (z : Sizes) (s : Pair) (r : Row) (y : Side) (b : Bool) → side_of s r ≡ y → barred s y r ≡ b
    → turn z s r ≡ turned s y b (step z (lock_of y s) (own_row r))
unfolding turn
by_side z s r y b p q =
    ap (λ (x : Side). turn_at z s x r) p
    ∙ ap (λ (c : Bool). turned s y c (step z (lock_of y s) (own_row r))) q

-- without the other lock's rows, a row is still for its lock
side-only : (x : Side) (s : Pair) (r : Row) → side_of s r ≡ x → side_of (only x s) r ≡ x
side-only first s r q =
    by-test (eqb r.order 0) (λ e. rw (idle-fresh r.thread, e)) (λ e. rw e (rw e at q))
side-only second s r q = q

-- and nothing bars it
bar-only : (x : Side) (s : Pair) (r : Row) → barred (only x s) x r ≡ false
bar-only first s r = rw (idle-fresh r.thread) (and-false (not (eqb r.order 0)))
bar-only second s r = rw (idle-fresh r.thread) (and-false (not (eqb r.order 0)))

still : (z : Sizes) (x : Side) (s : Pair) (r : Row) (l : State) (e : Entry)
    → side_of s r ≡ x → step z (lock_of x s) (own_row r) ≡ taken l e
    → turn z (only x s) r ≡ taken (with_lock x l fresh_pair) (record { side = x; entry = e })
still z first s r l e p q =
    by_side z (only first s) r first false (side-only first s r p) (bar-only first s r)
    ∙ ap (turned (only first s) first false) q
still z second s r l e p q =
    by_side z (only second s) r second false (side-only second s r p) (bar-only second s r)
    ∙ ap (turned (only second s) second false) q

module _ (z : Sizes) where
  pub rest : (x : Side) (s : Pair) (rs : List Row)
      → run z (only x s) (rows_at x rs (run z s rs).entries) ≡ left x rs (run z s rs)
  unfolding run runs
  rest x s [] = refl
  rest x s (r ∷ rs) = rw (by_side z s r _ _ refl refl) (from x
      (side_of s r) refl (barred s (side_of s r) r) (step z (lock_of (side_of s r) s) (own_row r)) refl (λ s'. rest x s' rs))
    where
      from : (x y : Side) → side_of s r ≡ y → (b : Bool) (o : Outcome) → step z (lock_of y s) (own_row r) ≡ o
          → ((s' : Pair) → run z (only x s') (rows_at x rs (run z s' rs).entries) ≡ left x rs (run z s' rs))
          → run z (only x s) (rows_at x (r ∷ rs) (follow s (λ s'. run z s' rs) (turned s y b o)).entries)
          ≡ left x (r ∷ rs) (follow s (λ s'. run z s' rs) (turned s y b o))
      from x y p b (refused n) q k = refl
      from x y p true (taken l e) q k = refl
      from first first p false (taken l e) q k =
          rw (still z first s r l e p q) (ap (after (record { side = first; entry = e })) (k (with_lock first l s)))
      from first second p false (taken l e) q k = k (with_lock second l s)
      from second first p false (taken l e) q k = k (with_lock first l s)
      from second second p false (taken l e) q k =
          rw (still z second s r l e p q) (ap (after (record { side = second; entry = e })) (k (with_lock second l s)))

-- ---- the claim

pub separate : Separate
separate z x rs = record { rest = at x; alone = alone x }
  where
    at : (x : Side) → run z fresh_pair (rows_at x rs (run z fresh_pair rs).entries) ≡ left x rs (run z fresh_pair rs)
    at first = rest z first fresh_pair rs
    at second = rest z second fresh_pair rs

    alone : (x : Side) → lock.run z fresh (own_rows x rs (run z fresh_pair rs).entries)
        ≡ whole x rs (run z fresh_pair rs)
    alone first = own z first fresh_pair rs
    alone second = own z second fresh_pair rs
