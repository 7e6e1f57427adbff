-- The row of two locks, from the row at its lock, which comes back to its place among the two.
use Rattle.lock.proofs.Library.{ℕ, suc, ◌<◌, ◌≡◌, refl, sym, ap, subst, ◌∙◌, List, [], arith, length, set, length-set}
use Rattle.lock.proofs.{Library.{get_or-set_same, get_or-set_other}, Machine.{Any, Keeps}}
use Rattle.lock.specs.{declared.Sizes.Sizes, Machine.{Row, OutcomeOf, taken, refused, state_after}, File.InRange}
use Rattle.pair.specs.Pair.{Side, first, second, other, Pair, fresh_pair, Note, written, side_of, turn_at, turn}
use Rattle.pair.specs.Calls.{OneCall}
use Rattle.pair.proofs.{Apart.idle-fresh, Calls.one-next}
use Rattle.std.specs.Prelude.{Result}
use Rattle.lock.specs.declared.{Entry.Entry, Refusal.Refusal}
use Rattle.step.{specs.Reached.{Reached, Begun}, proofs.Reach.reached-within}
use Rattle.journal.specs.Came.{Came}
use Rattle.turn.specs.Turn.{place_of, cells_of, pair_in, Begins, Place, Turns, Turned}
use Rattle.turn.proofs.Which.{place-lt, apart}

-- ---- two fresh locks

pub begins : {ls : List (List ℕ)} → length ls ≡ 2 → Begun (cells_of first ls) → Begun (cells_of second ls) → Begins ls
begins {ls} h a b = record { long = h; each = each }
  where
    each : (x : Side) → Begun (cells_of x ls)
    each first = a
    each second = b

pub begins-fresh : {ls : List (List ℕ)} → Begins ls → pair_in ls ≡ fresh_pair
begins-fresh h = rw ((h.each first).state, (h.each second).state)

pub placed : {z : Sizes} {ls : List (List ℕ)} → InRange z → Begins ls → Place z ls 0
placed {z} r h = record {
  long = h.long;
  reached = λ x. (h.each x).reached z r;
  calls = subst OneCall (sym (begins-fresh h)) (λ t. rw (idle-fresh t));
}

pub place-within : {z : Sizes} {ls : List (List ℕ)} {m n : ℕ} → m < suc n → Place z ls m → Place z ls n
place-within {z} h p =
    record { long = p.long; reached = λ x. reached-within z (omega arith) (p.reached x); calls = p.calls }

-- ---- a row

-- only the numbers of the lock x are others, l'
pub record Only (x : Side) (ls ls' : List (List ℕ)) (l' : List ℕ) : Type 0 where
  pub long : length ls' ≡ length ls
  pub own : cells_of x ls' ≡ l'
  pub rest : cells_of (other x) ls' ≡ cells_of (other x) ls

pub unchanged : (x : Side) (ls : List (List ℕ)) → Only x ls ls (cells_of x ls)
unchanged x ls = record { long = refl; own = refl; rest = refl }

pub stored : (x : Side) (ls : List (List ℕ)) (l' : List ℕ) → length ls ≡ 2 → Only x ls (set ls (place_of x) l') l'
stored x ls l' h =
    record {
      long = length-set ls (place_of x) l';
      own = get_or-set_same ls (place_of x) l' [] (omega (arith, place-lt x));
      rest = get_or-set_other ls (place_of x) (place_of (other x)) l' [] (apart x);
    }

pub place_at : {z : Sizes} {n : ℕ} {ls ls' : List (List ℕ)} {l' : List ℕ} (x : Side) → Only x ls ls' l' → length ls ≡ 2
    → Reached z n l' → Reached z n (cells_of (other x) ls) → OneCall (pair_in ls') → Place z ls' n
place_at {z} {n} {ls} {ls'} x o long h k c = record { long = o.long ∙ long; reached = each x o h k; calls = c }
  where
    each : {l' : List ℕ} (x : Side) → Only x ls ls' l' → Reached z n l' → Reached z n (cells_of (other x) ls)
        → (y : Side) → Reached z n (cells_of y ls')
    each first o h k first = rw o.own h
    each first o h k second = rw o.rest k
    each second o h k first = rw o.rest k
    each second o h k second = rw o.own h

turns : (z : Sizes) (r : Row) (ls : List (List ℕ)) (x : Side)
    → side_of (pair_in ls) r ≡ x → turn z (pair_in ls) r ≡ turn_at z (pair_in ls) x r
unfolding turn
turns z r ls x e = ap (λ (y : Side). turn_at z (pair_in ls) y r) e

-- a thread is still in one call at a time
calls : (z : Sizes) (r : Row) (s s' : Pair) {w : Result Entry Refusal} → Came written s s' w (turn z s r) → OneCall s → OneCall s'
calls z r s s' c h = subst OneCall (sym c.left) (from (turn z s r) (one-next z s r h))
  where
    from : (q : OutcomeOf Pair Note) → Keeps OneCall Any Any q → OneCall (state_after s q)
    from (taken v k) i = i.0
    from (refused n) i = h

module _ (z : Sizes) (r : Row) (ls : List (List ℕ)) {ls' : List (List ℕ)} {l' : List ℕ} {w : Result Entry Refusal} where
  came : (x : Side) → Only x ls ls' l' → Turns z x r (cells_of x ls) (cells_of (other x) ls) l' w
      → Came written (pair_in ls) (pair_in ls') w (turn_at z (pair_in ls) x r)
  came first o h = rw (o.own, o.rest) h.comes
  came second o h = rw (o.own, o.rest) h.comes

  pub at-lock : (x : Side) → side_of (pair_in ls) r ≡ x
      → Only x ls ls' l' → Turns z x r (cells_of x ls) (cells_of (other x) ls) l' w → Turned z r ls ls' w
  at-lock x e o h =
      let c : Came written (pair_in ls) (pair_in ls') w (turn z (pair_in ls) r) =
      subst (Came written (pair_in ls) (pair_in ls') w) (sym (turns z r ls x e)) (came x o h) in
      record {
        comes = c;
        keeps = λ n p. place_at x o p.long (h.keeps n (p.reached x))
            (reached-within z (omega arith) (p.reached (other x))) (calls z r (pair_in ls) (pair_in ls') c p.calls);
      }
