-- A lock's own entries are on words below 64, so that a journal entry tells its lock, and a failed swap is on the root
-- or on a node; and each lock keeps its invariant.
use Rattle.lock.proofs.Library.{ℕ, ◌≤◌, ◌<◌, ◌≡◌, refl, Bool, true, false, List, Option, none, some, arith}
use Rattle.lock.proofs.Choice.{if-both, not-both}
use Rattle.lock.proofs.Machine.{Keeps, Kept, kept, finished}
use Rattle.laws.proofs.Lock.{Entry, is_failure, Phase, Sizes, same, Op, begin, read, swap, stay, store, lock, release, join, next}
use Rattle.laws.proofs.Lock.{take_readers, wake, note, refuse, ask, State, thread_at, word_at, Outcome, taken, refused}
use Rattle.laws.proofs.{Lock.{locks, perform, asked_as, row_op, step, InRange, Row, OfRow}, Role.Inv, Perform.Safe}
use Rattle.laws.proofs.{Runs.{steps, fresh-inv}, Bounds.{Bounded, row-bounded}}
use Rattle.pair.specs.{Calls.FinishedOf, Pair.{Side, first, second, Pair, lock_of, fresh_pair, side_of, own_row}}
use Rattle.pair.specs.Pair.{barred, Note, turned, turn, run}

-- ---- one lock

-- an entry is on a word below 64, and a failed swap on the root or on a node
pub record Placed (z : Sizes) (e : Entry) : Type 0 where
  pub below : e.word < 64
  pub failed : is_failure e ≡ true → e.word < z.nodes

abbrev pub Small : Sizes → Outcome → Type 0
Small z (taken s e) = Placed z e
Small z (refused n) = Unit {0}

-- an entry of another kind than 3
other-kind : {z : Sizes} {e : Entry} → e.word < 64 → is_failure e ≡ false → Placed z e
other-kind l q = record { below = l; failed = λ y. not-both _ y q }

small-asked : (z : Sizes) (o : Option Phase) → Placed z (asked_as o)
small-asked z none = other-kind (omega arith) refl
small-asked z (some p) = other-kind (omega arith) refl

small-locks : (z : Sizes) (s : State) (t : ℕ) (p : Phase) (m : Option ℕ) → Small z (locks s t p m)
small-locks z s t p none = other-kind (omega arith) refl
small-locks z s t p (some u) = other-kind (omega arith) refl

small_of : (z : Sizes) (s : State) (t : ℕ) (o : Op) → z.nodes ≤ 32 → Bounded z s o → Small z (perform z s t o)
unfolding perform
small_of z s t (begin p) n h = other-kind (omega arith) refl
small_of z s t (read w k) n h = other-kind (omega arith) refl
small_of z s t (ask k p) n h = small-asked z (k (word_at s 0))
small_of z s t (swap w old new p back) n h =
    if-both (Small z) (same (word_at s w) old) (λ e. other-kind (omega arith) refl)
    (λ e. record { below = omega arith; failed = λ q. h })
small_of z s t stay n h = other-kind (omega arith) refl
small_of z s t (store f p) n h = other-kind (omega arith) refl
small_of z s t (lock p) n h = small-locks z s t p s.mutex
small_of z s t (release p) n h = other-kind (omega arith) refl
small_of z s t (join e p) n h = other-kind (omega arith) refl
small_of z s t (next last k) n h = other-kind (omega arith) refl
small_of z s t (take_readers k) n h = other-kind (omega arith) refl
small_of z s t (wake g p) n h = other-kind (omega arith) refl
small_of z s t note n h = other-kind (omega arith) refl
small_of z s t (refuse m) n h = tt

pub small : (z : Sizes) (s : State) (r : Row) → Inv z s → Small z (step z s r)
unfolding step
small z s r inv =
    small_of z s r.thread (row_op z (thread_at s r.thread).phase r) inv.sizes.nodes (row-bounded z s inv r)

-- ---- both

pub record Sound (z : Sizes) (s : Pair) : Type 0 where
  pub one : Inv z s.one
  pub two : Inv z s.two

pub sound-of : {z : Sizes} {s : Pair} → Sound z s → (x : Side) → Inv z (lock_of x s)
sound-of h first = h.one
sound-of h second = h.two

abbrev pub Below : Sizes → Note → Type 0
Below z m = Placed z m.entry

pub turns : (z : Sizes) (s : Pair) (r : Row) → Sound z s → Keeps (Sound z) (Below z) OfRow (turn z s r)
unfolding turn
turns z s r h =
    let l = lock_of (side_of s r) s in
    from (side_of s r) (barred s (side_of s r) r) (step z l (own_row r))
    (steps z l (own_row r) (sound-of h (side_of s r))) (small z l (own_row r) (sound-of h (side_of s r)))
  where
    from : (y : Side) (b : Bool) (o : Outcome) → Safe z o → Small z o → Keeps (Sound z) (Below z) OfRow (turned s y b o)
    from y b (refused n) i e = i
    from y true (taken l e) i k = omega arith
    from first false (taken l e) i k = (record { one = i; two = h.two }, k)
    from second false (taken l e) i k = (record { one = h.one; two = i }, k)

pub kept_pair : (z : Sizes) → InRange z → (rs : List Row) → Kept (Sound z) (Below z) OfRow rs (run z fresh_pair rs)
unfolding run
kept_pair z h rs =
    kept (Sound z) (Below z) OfRow (turn z) (turns z) fresh_pair rs (record { one = fresh-inv z h; two = fresh-inv z h })

-- "0 means all rows were taken"; else a row was refused
pub finished-pair : FinishedOf
finished-pair z h rs = finished (Sound z) (Below z) OfRow (λ n k. k) (kept_pair z h rs).ends
