-- Two threads that take two locks in opposite orders are stuck: a thread that sleeps at one lock is held up there and
-- refused at the other. Rows in lock order lead to no such state: those that free both locks would change nothing.
use Rattle.lock.proofs.Library.{ℕ, zero, suc, ◌≤◌, ◌<◌, ◌≡◌, refl, sym, subst, ap, ◌∙◌, Bool, true, false, not, ◌&&◌}
use Rattle.lock.proofs.Library.{List, [], ◌∷◌, Option, none, some, not-suc-le-zero, arith, eqb, ltb, lt-ltb}
use Rattle.lock.proofs.Choice.{clash, if-both, not-both}
use Rattle.laws.proofs.Lock.{held_up, call_begun, Entry, Idle, Writing, Asleep, WriteLook, standing, Sizes, Row}
use Rattle.laws.proofs.Lock.{OutcomeOf, follow, runs, Op, Order, go_on, write_lock, unlock, upgrade, downgrade, read_lock}
use Rattle.laws.proofs.Lock.{book, decode, obey, State, goes, Outcome, taken, refused, perform, row_op, step, InRange}
use Rattle.laws.specs.{Late.row_at, Restoring.row}
use Rattle.pair.specs.Pair.{Side, first, second, Pair, lock_of, other, fresh_pair, busy, side_of, own_row, with_lock, barred}
use Rattle.pair.specs.Pair.{Note, turned, turn_at, turn, run}
use Rattle.progress.specs.LockOrder.{DeadlockFreePair, asks_for, pair_at, LockOrder}
use Rattle.progress.specs.Deadlock.{Blocked, Stuck, StuckStates, two_threads, in_order, crossed, Crossed}
use Rattle.progress.proofs.{Rows.phase_of, Kept.far-row, Ran.state-behind, LockOrder.ordered}

-- ---- of one lock

abbrev Stays : State → Outcome → Type 0
Stays l (taken l' e) = (l' ≡ l) × (e ≡ held_up)
Stays l (refused n) = Unit {0}

sleeper-obeys : (z : Sizes) (l : State) (t : ℕ) (o : Option Order) → Stays l (perform z l t (obey z.fan Asleep o))
unfolding perform obey standing
sleeper-obeys z l t none = tt
sleeper-obeys z l t (some go_on) = (refl, refl)
sleeper-obeys z l t (some write_lock) = tt
sleeper-obeys z l t (some unlock) = tt
sleeper-obeys z l t (some upgrade) = tt
sleeper-obeys z l t (some downgrade) = tt
sleeper-obeys z l t (some (read_lock n)) = tt
sleeper-obeys z l t (some (book e)) = tt

sleeper-stays : (z : Sizes) (l : State) (r : Row) → phase_of l r.thread ≡ Asleep → Stays l (step z l r)
unfolding step row_op perform
sleeper-stays z l r e =
    rw e
    (if-both (λ (o : Op). Stays l (perform z l r.thread o)) (ltb r.thread z.threads)
    (λ q. sleeper-obeys z l r.thread (decode z r.order)) (λ q. tt))

-- ---- of two

put_back : (s : Pair) (y : Side) (l : State) → l ≡ lock_of y s → with_lock y l s ≡ s
put_back s first l e = ap (λ (x : State). record { one = x; two = s.two }) e
put_back s second l e = ap (λ (x : State). record { one = s.one; two = x }) e

turned-blocked : (s : Pair) (y : Side) (b : Bool) (o : Outcome) → (b ≡ false → Stays (lock_of y s) o)
    → Blocked s (turned s y b o)
turned-blocked s y true (taken l e) h = tt
turned-blocked s y false (taken l e) h = (put_back s y l (h refl).0, (h refl).1)
turned-blocked s y b (refused n) h = tt

module _ (z : Sizes) (s : Pair) (r : Row) where
  -- a row at the lock where its thread sleeps
  there : (x : Side) → phase_of (lock_of x s) r.thread ≡ Asleep → Blocked s (turn_at z s x r)
  there x e =
      turned-blocked s x (barred s x r) (step z (lock_of x s) (own_row r))
      (λ q. sleeper-stays z (lock_of x s) (own_row r) e)

  -- a new call at the other lock is barred
  elsewhere : (y : Side) → eqb r.order 0 ≡ false → busy (lock_of (other y) s) r.thread ≡ true
      → Blocked s (turn_at z s y r)
  elsewhere y n b =
      turned-blocked s y (barred s y r) (step z (lock_of y s) (own_row r)) (λ q. not-both (barred s y r) (rw (n, b)) q)

  sleeper-busy : (l : State) → phase_of l r.thread ≡ Asleep → busy l r.thread ≡ true
  unfolding standing
  sleeper-busy l e = rw e

  sleeper-blocked : (x : Side) → phase_of (lock_of x s) r.thread ≡ Asleep
      → busy (lock_of (other x) s) r.thread ≡ false → Blocked s (turn z s r)
  unfolding turn
  sleeper-blocked first e b =
      if-both (λ (y : Side). Blocked s (turn_at z s y r)) (eqb r.order 0) (λ q. rw b (there first e))
      (λ q. if-both (λ (y : Side). Blocked s (turn_at z s y r)) (ltb 128 r.order)
      (λ k. elsewhere second q (sleeper-busy s.one e)) (λ k. there first e))
  sleeper-blocked second e b =
      if-both (λ (y : Side). Blocked s (turn_at z s y r)) (eqb r.order 0)
      (λ q. rw (sleeper-busy s.two e) (there second e))
      (λ q. if-both (λ (y : Side). Blocked s (turn_at z s y r)) (ltb 128 r.order) (λ k. there second e)
      (λ k. elsewhere first q (sleeper-busy s.two e)))

  -- no such thread
  nobody-blocked : z.threads ≤ r.thread → Blocked s (turn z s r)
  unfolding turn
  nobody-blocked h =
      turned-blocked s (side_of s r) (barred s (side_of s r) r) (step z (lock_of (side_of s r) s) (own_row r))
      (λ q. subst (Stays (lock_of (side_of s r) s)) (sym (far-row z (lock_of (side_of s r) s) (own_row r) h)) tt)

-- ---- stuck for good

for-good : (z : Sizes) (s : Pair) → Stuck z s → (rs : List Row) → (run z s rs).state ≡ s
unfolding run runs
for-good z s h [] = refl
for-good z s h (r ∷ rs) = from (turn z s r) (h r) (for-good z s h rs)
  where
    from : (o : OutcomeOf Pair Note) → Blocked s o → (run z s rs).state ≡ s
        → (follow s (λ s'. run z s' rs) o).state ≡ s
    from (taken s' m) k e = ap (λ (x : Pair). (run z x rs).state) k.0 ∙ e
    from (refused n) k e = refl

-- ---- never in lock order

-- where everybody is idle, thread 0 begins a call
begins : (z : Sizes) → InRange z → (s : Pair) → phase_of s.one 0 ≡ Idle → phase_of s.two 0 ≡ Idle
    → turn z s (row 0 1) ≡ taken (with_lock first (goes s.one 0 WriteLook) s)
    (record { side = first; entry = call_begun })
unfolding turn step row_op obey perform standing
begins z h s i j = rw (lt-ltb 0 z.threads (omega (arith, h.threads_least)), j, i)

not-in-order : (z : Sizes) → InRange z → (x : Side) (rs : List Row) → LockOrder z x rs
    → Stuck z (run z fresh_pair rs).state → ⊥
unfolding run
not-in-order z h x rs o k =
    let q = (subst (Blocked s) (begins z h s (idle-now first) (idle-now second)) (k (row 0 1))).1 in
    omega (arith, ap (λ (e : Entry). e.kind) q)
  where
    s : Pair
    s = (run z fresh_pair rs).state

    f : DeadlockFreePair z rs
    f = (ordered z h x rs).deadlock_free o

    idle-now : (y : Side) → phase_of (lock_of y s) 0 ≡ Idle
    idle-now y =
        subst (λ (p : Pair). phase_of (lock_of y p) 0 ≡ Idle)
        (state-behind (turn z) fresh_pair rs f.more ∙ for-good z s k f.more)
        (f.frees.idle y 0)

pub stuck-states : (z : Sizes) → StuckStates z
stuck-states z = record { for_good = for-good z; not_in_order = not-in-order z }

-- ---- the example

-- a test of each number below n
abbrev each_below : (ℕ → Bool) → ℕ → Bool
each_below f zero = true
each_below f (suc n) = f zero && each_below (λ (i : ℕ). f (suc i)) n

at_each : (f : ℕ → Bool) (n : ℕ) → each_below f n ≡ true → (i : ℕ) → i < n → f i ≡ true
at_each f zero h i l = absurd (not-suc-le-zero l)
at_each f (suc n) h i l = from (f zero) refl h i l (at_each (λ (i : ℕ). f (suc i)) n)
  where
    from : (b : Bool) → f zero ≡ b → (b && each_below (λ (i : ℕ). f (suc i)) n) ≡ true → (i : ℕ) → i < suc n
        → (each_below (λ (i : ℕ). f (suc i)) n ≡ true → (i : ℕ) → i < n → f (suc i) ≡ true) → f i ≡ true
    from false q h i l k = not-both false h refl
    from true q h zero l k = q
    from true q h (suc i) l k = k h i (omega arith)

module _ (E : ℕ) where
  abbrev z₀ : Sizes
  z₀ = two_threads E

  abbrev end : Pair
  end = (run z₀ fresh_pair crossed).state

  -- the row at which the order of the lock x is broken
  broken : (x : Side) → LockOrder z₀ x crossed → ⊥
  unfolding run runs turn step row_op obey perform standing
  broken first o = let q : Writing ≡ Idle = o 12 (omega arith) refl in clash cc
  broken second o = let q : Writing ≡ Idle = o 6 (omega arith) refl in clash cc

  -- of the rows before that, row 0 alone asks for the first lock
  in-order-kept : LockOrder z₀ first in_order
  unfolding run runs turn step row_op obey perform standing
  in-order-kept zero l a = refl
  in-order-kept (suc i) l a =
      let n = at_each
      (λ (i : ℕ). not (asks_for z₀ first (pair_at z₀ in_order (suc i)) (row_at z₀ in_order (suc i)))) 11 refl i
      (omega arith) in
      not-both true refl (sym (rw a at n))

pub crossed-stuck : (E : ℕ) → Crossed E
unfolding run runs turn step standing
crossed-stuck E =
    record { ordered = in-order-kept E; unordered = broken E; answer = refl; stuck = λ r. from r r.thread refl }
  where
    from : (r : Row) (t : ℕ) → r.thread ≡ t → Blocked (end E) (turn (z₀ E) (end E) r)
    from r zero e =
        sleeper-blocked (z₀ E) (end E) r second (ap (λ (t : ℕ). phase_of (end E).two t) e ∙ refl)
        (ap (λ (t : ℕ). busy (end E).one t) e ∙ refl)
    from r (suc zero) e =
        sleeper-blocked (z₀ E) (end E) r first (ap (λ (t : ℕ). phase_of (end E).one t) e ∙ refl)
        (ap (λ (t : ℕ). busy (end E).two t) e ∙ refl)
    from r (suc (suc t)) e = nobody-blocked (z₀ E) (end E) r (omega arith)
