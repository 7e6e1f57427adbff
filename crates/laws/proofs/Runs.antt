-- The invariant holds of the fresh lock, and every row that is taken keeps it: so it holds after any rows. A row is
-- refused with 5, 6 or 7, and a run that ends with 0 has taken all its rows.
use Rattle.laws.proofs.Lock.{ℕ, zero, suc, ◌<◌, zero-le, ◌≡◌, refl, sym, List, arith, get_or, replicate}
use Rattle.laws.proofs.Lock.{length-replicate, opened, Phase, Thread, Sizes, Op, refuse, Order, State, fresh}
use Rattle.laws.proofs.Lock.{fresh_thread, thread_at, Outcome, taken, refused, perform, OfRow, Finished, Row}
use Rattle.laws.proofs.Lock.{row_op, step, Result, run, InRange, begin, note}
use Rattle.lock.proofs.Machine as machine
use Rattle.laws.proofs.Sum.{sum_same, bit_at, bit-zero}
use Rattle.laws.proofs.Role.{Role, blank, place, role, Right, tot, kid, role_at, Inv}
use Rattle.laws.proofs.Perform.{Calm, calm, Keeps, Safe, performs}
use Rattle.laws.proofs.Calls.{calls}
use Rattle.laws.proofs.Orders.{Starts, writes, reads, leaves, departs, unlocks, upgrades, trades, lowers, of_row}

-- ---- one row

-- a call begins with what its thread answers for
starts-calm : {z : Sizes} {o : ℕ} {w : Order} {p p' : Phase} → Starts z o w p p' → Right z p
    → Calm z (role z p) (role z p).inmutex p'
unfolding place
starts-calm (writes e) r = calm refl tt
starts-calm (reads n e l) r = calm refl l
starts-calm (leaves e) r = calm refl tt
starts-calm (departs k e) r = calm refl (r, tt)
starts-calm (unlocks e) r = calm refl tt
starts-calm (upgrades e) r = calm refl tt
starts-calm (trades k e) r = calm refl r
starts-calm (lowers e) r = calm refl tt

-- a fact of the row's operation: it shows what it has to, or the row is refused
pub by_row : (z : Sizes) (s : State) (r : Row) → Inv z s → (P : Op → Type 0)
    → (r.thread < 64 → (o : Op) → Keeps z s r.thread (role_at z s r.thread) o → P o)
    → ((n : ℕ) → OfRow n → P (refuse n)) → P (row_op z (thread_at s r.thread).phase r)
by_row z s r inv P f g =
    of_row z s r inv P (λ l. f l _ (calls z s r.thread inv l _ refl))
    (λ l w q p' k. f l (begin p') (starts-calm k (inv.right r.thread))) (λ l. f l note tt) g

pub steps : (z : Sizes) (s : State) (r : Row) → Inv z s → Safe z (step z s r)
unfolding step perform
steps z s r inv =
    by_row z s r inv (λ (o : Op). Safe z (perform z s r.thread o)) (λ l o k. performs z s r.thread inv l refl o k)
    (λ n h. h)

-- ---- all rows

pub record Held (z : Sizes) (rs : List Row) (r : Result) : Type 0 where
  pub inv : Inv z r.state
  pub finished : Finished rs r

holds : (z : Sizes) (s : State) (rs : List Row) → Inv z s → Held z rs (run z s rs)
unfolding run
holds z s rs inv =
    let k = machine.kept (Inv z) machine.Any OfRow (step z) (λ s r h. from (step z s r) (steps z s r h)) s rs inv in
    record { inv = k.state; finished = machine.finished (Inv z) machine.Any OfRow (λ n h. h) k.ends }
  where
    from : (o : Outcome) → Safe z o → machine.Keeps (Inv z) machine.Any OfRow o
    from (taken s' e) h = (h, tt)
    from (refused n) h = h

-- ---- the fresh lock

pub same_at : {A : Type 0} (n u : ℕ) (x : A) → get_or (replicate n x) u x ≡ x
same_at zero u x = refl
same_at (suc n) zero x = refl
same_at (suc n) (suc u) x = same_at n u x

pub fresh-inv : (z : Sizes) → InRange z → Inv z fresh
unfolding place
fresh-inv z h =
    record {
      sizes = h;
      words = length-replicate 32 (opened 0 0);
      threads = length-replicate 64 fresh_thread;
      plainly = λ w l. rw (same_at 32 w (opened 0 0)) (refl, refl);
      flag = zero-le;
      direct = sym (none (λ r. r.direct) refl);
      counts = λ c. rw (same_at 32 c (opened 0 0))
          (omega (arith, none (λ r. r.owes c) refl, sum_same (kid z.fan c) 0 32 (opened 0 0) (λ w. omega arith)));
      owner = none (λ r. r.own) refl;
      mutex = none (λ r. r.inmutex) refl;
      queued = λ u. rw (same_at 64 u fresh_thread) (omega (arith, none (λ r. bit_at r.hand u) (bit-zero u)));
      handed = λ u. omega (arith, none (λ r. bit_at r.hand u) (bit-zero u));
      writers = omega (arith, none (λ r. r.last) refl);
      named = record { set = omega arith; numbers = tt; tally = refl };
      right = λ u. rw (same_at 64 u fresh_thread) tt;
    }
  where
    none : (f : Role → ℕ) → f blank ≡ 0 → tot z f (replicate 64 fresh_thread) ≡ 0
    none f q = sum_same (λ i (h : Thread). f (role z h.phase)) 0 64 fresh_thread (λ j. q)

-- ---- every run from the fresh lock

pub held : (z : Sizes) → InRange z → (rs : List Row) → Held z rs (run z fresh rs)
held z h rs = holds z fresh rs (fresh-inv z h)
