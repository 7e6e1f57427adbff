-- The locking claims at each lock, from those of a single lock: its own rows lead it through the same states, and a row
-- at the other lock leaves it as it is.
use Rattle.lock.proofs.Library.{ℕ, ◌≡◌, refl, ap, subst, ◌≢◌, Bool, true, false, List, arith, take}
use Rattle.lock.proofs.Machine.{row-leads}
use Rattle.laws.proofs.Lock.{Sizes, Row, InRange, State, thread_at, Outcome, taken, refused, fresh, step}
use Rattle.laws.proofs.{Role.{role_at}, Aside.{Aside, aside}, Quiet.{Quiet, held-quiet}, Runs.held}
use Rattle.laws.proofs.{Locks.{locks-of, departs-of, tallied}, Restoring.{restored_by, ends}, Sleeping.remembers}
use Rattle.laws.proofs.Locking.{locking}
use Rattle.lock.specs.Run as lock
use Rattle.lock.specs.{Journal.call_begun, Machine.OutcomeOf}
use Rattle.laws.specs.{Exclusion.Locks, Departing.Departs, Sleeping.Remembers, Waiting.Tallied}
use Rattle.laws.specs.{Late.row_at, Restoring.{Restored, Ends}}
use Rattle.pair.specs.Pair.{Side, first, second, Pair, lock_of, fresh_pair, side_of, own_row, barred, Note, turned}
use Rattle.pair.specs.{Pair.{turn, run}, Apart.own_rows, Locking.{LocksAt, LockingOf}}
use Rattle.pair.proofs.{Apart.separate, Words.{Sound, sound-of, kept_pair, finished-pair}}

-- a fact of one lock after any rows, of the lock x after rows of both
at-lock : (P : State → Type 0) (z : Sizes) → ((rs : List Row) → P (lock.run z fresh rs).state)
    → (x : Side) (rs : List Row) → P (lock_of x (run z fresh_pair rs).state)
at-lock P z h x rs =
    subst P (ap (λ (r : lock.Result). r.state) (separate z x rs).alone)
    (h (own_rows x rs (run z fresh_pair rs).entries))

pub locks-at : (z : Sizes) → InRange z → (x : Side) (rs : List Row) → LocksAt z x (run z fresh_pair rs).state
locks-at z range x rs =
    record {
      locks = at-lock Locks z (λ own. locks-of z _ (held z range own).inv) x rs;
      departs = at-lock Departs z (λ own. departs-of z _ (held z range own).inv) x rs;
      ends = at-lock (Ends z) z (ends z range) x rs;
      remembers = at-lock Remembers z (remembers z range) x rs;
      tallied = at-lock Tallied z (tallied z range) x rs;
    }

-- ---- a row of both locks moves no other thread that is awake, at either

abbrev AsideAt : Sizes → Side → Pair → ℕ → OutcomeOf Pair Note → Type 0
AsideAt z x s t (taken s' m) =
    (u : ℕ) → u ≢ t → (role_at z (lock_of x s) u).sleeps ≡ 0 → thread_at (lock_of x s') u ≡ thread_at (lock_of x s) u
AsideAt z x s t (refused n) = Unit {0}

turn-aside : (z : Sizes) (x : Side) (s : Pair) (r : Row) → Sound z s → AsideAt z x s r.thread (turn z s r)
unfolding turn
turn-aside z x s r h =
    let y = side_of s r in
    from x y (barred s y r) (step z (lock_of y s) (own_row r)) (aside z (lock_of y s) (own_row r) (sound-of h y))
  where
    from : (x y : Side) (b : Bool) (o : Outcome) → Aside z (lock_of y s) r.thread o
        → AsideAt z x s r.thread (turned s y b o)
    from x y b (refused n) a = tt
    from x y true (taken l e) a = tt
    from first first false (taken l e) a = a
    from first second false (taken l e) a = λ u n w. refl
    from second first false (taken l e) a = λ u n w. refl
    from second second false (taken l e) a = a

restored-pair : (z : Sizes) → InRange z → (x : Side) (rs : List Row)
    → Restored (λ i. lock_of x (run z fresh_pair (take i rs)).state) (row_at z rs) (run z fresh_pair rs).taken
unfolding run
restored-pair z range x rs =
    restored_by z (λ i. lock_of x (run z fresh_pair (take i rs)).state) (row_at z rs) _
    (λ i. (sound-of (sound i) x, at-lock (Quiet z) z (held-quiet z range) x (take i rs)))
    (λ k l. subst (AsideAt z x (run z fresh_pair (take k rs)).state (row_at z rs k).thread)
    (row-leads (turn z) fresh_pair rs k _ (record { side = first; entry = call_begun }) l)
    (turn-aside z x (run z fresh_pair (take k rs)).state (row_at z rs k) (sound k)))
  where
    sound : (i : ℕ) → Sound z (run z fresh_pair (take i rs)).state
    sound i = (kept_pair z range (take i rs)).state

pub locking-pair : LockingOf
locking-pair z range x rs =
    record {
      each = λ i. locks-at z range x (take i rs);
      own = locking z range (own_rows x rs (run z fresh_pair rs).entries);
      restored = restored-pair z range x rs;
      unused = λ q. let f = (finished-pair z range rs).of_row (λ e. omega arith) in omega arith;
    }
