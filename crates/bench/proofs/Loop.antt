-- The loop over the rows: what is entered (`journal` proofs/Entering), and that rows have led to both locks.
use Rattle.lock.proofs.Library.{◌≡◌, refl, subst, false, List, ℕ, ◌+◌, ◌<◌, ◌≤◌, arith, length, get_or, set, take, drop}
use Rattle.lock.proofs.{Library.{length-take-le, get_or-take, get_or-drop}, Loop.row_at}
use native.Mathlib.Numerals.{add-one}
use Prim.{Unit, tt}
use Rattle.std.specs.Prelude.{Result, Ok, Err}
use Rattle.lock.specs.{Bound.steps_before, declared.{Sizes.Sizes, Ran.Ran, Entry.Entry, Refusal.Refusal}}
use Rattle.lock.specs.{File.{InRange, stateless}, Machine.Row, Refusal.answer_number}
use Rattle.pair.specs.Pair.{fresh_pair, turn, run, written}
use Rattle.journal.specs.Runner.{Runnable}
use Rattle.journal.proofs.Entering.{Entered, Ended, none-entered, all_made, row-made}
use Rattle.turn.{specs.Turn.{pair_in, Begins, Place, Turned}, proofs.Both.{begins-fresh, placed, place-within}}
use Rattle.bench.specs.Runner.{Runs}

-- ---- the rows as they lie in the file: thread numbers, then orders

module _ (rows : ℕ) (b : List ℕ) (h : length b ≡ rows + rows) where
  pub threads-are : length (take rows b) ≡ rows
  threads-are = length-take-le rows b (omega arith)

  -- there is a row i
  pub there : {i : ℕ} → i < rows → i < length (take rows b)
  there lt = omega (arith, threads-are)

  -- row i, of which n is the thread
  row-there : (i n : ℕ) → i < rows
      → n ≡ get_or b i 0 → record { thread = n; order = get_or b (rows + i) 0 } ≡ row_at (take rows b) (drop rows b) i
  row-there i n lt e = rw (get_or-take, get_or-drop, e)

  pub turned-there : {z : Sizes} {ls ls' : List (List ℕ)} {w : Result Entry Refusal} (i n : ℕ) → i < rows
      → n ≡ get_or b i 0 → Turned z (record { thread = n; order = get_or b (rows + i) 0 }) ls ls' w
      → Turned z (row_at (take rows b) (drop rows b) i) ls ls' w
  turned-there {z} {ls} {ls'} {w} i n lt e k = subst (λ (r : Row). Turned z r ls ls' w) (row-there i n lt e) k

-- ---- the invariant

pub record Sofar (z : Sizes) (ts os j₀ j : List ℕ) (ls : List (List ℕ)) (i : ℕ) : Type 0 where
  pub place : Place z ls i
  pub entered : Entered (turn z) written fresh_pair ts os j₀ j (pair_in ls) i

pub begun : (z : Sizes) (ts os j : List ℕ) (ls : List (List ℕ)) → InRange z → Begins ls → Sofar z ts os j j ls 0
begun z ts os j ls h e =
    record { place = placed h e; entered = rw (begins-fresh e) (none-entered (turn z) written fresh_pair ts os j) }

module _ {z : Sizes} {ts os j₀ j : List ℕ} {ls : List (List ℕ)} {i : ℕ} (h : Sofar z ts os j₀ j ls i) where
  abbrev left : Result (Unit {0}) Refusal → Ran
  left a = record { answer = a; taken = i; sizes = z }

  ends : (a : Result (Unit {0}) Refusal) {ls' : List (List ℕ)} → stateless (answer_number a) ≡ false
      → Ended (turn z) written fresh_pair ts os j₀ j (pair_in ls') i (answer_number a) → Runs z ts os j₀ j ls' (left a)
  unfolding run
  ends a y e =
      record { answer = e.answered; taken = e.taken; sizes = refl; late = y; state = e.state; journal = e.journal }

  pub finish : length ts ≤ i → Runs z ts os j₀ j ls (left (Ok tt))
  finish e = ends (Ok tt) refl (all_made (turn z) written h.entered e)

  pub may-turn : Runnable z ts os j₀ → i < length ts → Place z ls steps_before
  may-turn b lt = let f = b.few in place-within (omega arith) h.place

  -- row i was made: it is refused, or its entry goes into the journal
  module _ (b : Runnable z ts os j₀) (lt : i < length ts) {ls' : List (List ℕ)} where
    pub stop : {r : Refusal} → Turned z (row_at ts os i) ls ls' (Err r) → Runs z ts os j₀ j ls' (left (Err r))
    stop {r} k = let e = row-made (turn z) written h.entered lt b.matched k.comes in ends (Err r) e.1 e.0

    pub more : {d : Entry} → Turned z (row_at ts os i) ls ls' (Ok d)
        → Sofar z ts os j₀ (set (set j i d.kind) (length ts + i) d.word) ls' (i + 1)
    more k = record {
      place = rw (add-one i) (k.keeps i h.place);
      entered = row-made (turn z) written h.entered lt b.matched k.comes b.room;
    }
