-- How far counters grow, event by event: by one, or by as many threads as wait.
use Rattle.lock.proofs.Library.{ℕ, zero, suc, ◌+◌, ◌-◌, ◌≤◌, ◌<◌, ◌≡◌, refl, ◌∙◌, Bool, true, false, not, List, [], ◌∷◌, arith}
use Rattle.lock.proofs.Library.{length, get_or, set, set_out, length-set, get_or-set_same, get_or-set_other, eqb}
use Rattle.lock.proofs.Library.{ℕ_discrete, dec_lt, ltb}
use Rattle.lock.proofs.Choice.{if-both}
use Rattle.lock.specs.Demand.{one, is_failure}
use Rattle.lock.specs.declared.Entry.{Entry}
use Rattle.laws.proofs.Cases.{dec-both}
use Rattle.laws.proofs.Lock.{State}
use Rattle.site_model.specs.Tally.{Waits, Tally, nothing, waited_for, got_if, passed_over, spent, row_made}
use Rattle.site_model.specs.Tally.{call_over, is_write_lock, is_read_lock, is_on_root, is_held_up}
use Rattle.site_model.specs.Site.{Going, counted, passes, pauses, makes, begins, finishes, is_over, finished_at}
use Rattle.site_model.specs.Site.{finished, measures, holds, stands_at}
use Rattle.site_model.specs.Code.{Below, FewWaits, Few, Small}
use Rattle.site_model.proofs.Replays.{zero-at}

-- ---- lists of counters

pub below_set : (m : ℕ) (ns : List ℕ) (t v : ℕ) → Below m ns → v ≤ m → Below m (set ns t v)
below_set m ns t v h l u =
    elim (ℕ_discrete u t) [
      | yes e ↦ rw e (dec-both (dec_lt t (length ns)) (λ k. rw (get_or-set_same ns t v 0 k) l)
          (λ k. rw (set_out ns t v (omega arith)) (h t)))
      | no n ↦ rw (get_or-set_other ns t u v 0 n) (h u)
    ]

below_more : (m n : ℕ) (ns : List ℕ) → m ≤ n → Below m ns → Below n ns
below_more m n ns l h u = omega (arith, h u)

pub one-le : (b : Bool) → one b ≤ 1
one-le true = omega arith
one-le false = omega arith

-- no more threads wait than there are
pub counted-le : (p : ℕ → Bool) (os : List ℕ) → counted p os ≤ length os
counted-le p [] = omega arith
counted-le p (o ∷ os) = omega (arith, one-le (p o), counted-le p os)

-- one thread's order is another: one waits less, or one more
pub counted-set : (p : ℕ → Bool) (os : List ℕ) (t o : ℕ) → t < length os
    → counted p (set os t o) + one (p (get_or os t 0)) ≡ counted p os + one (p o)
counted-set p [] t o l = absurd (omega arith)
counted-set p (x ∷ os) zero o l = omega arith
counted-set p (x ∷ os) (suc t) o l = omega (arith, counted-set p os t o (omega arith))

-- ---- waits

few-more : (m n : ℕ) (w : Waits) → m ≤ n → FewWaits m w → FewWaits n w
few-more m n w l h =
    record { got = omega (arith, h.got); waited = omega (arith, h.waited); longest = omega (arith, h.longest) }

waited-few : (m n k : ℕ) (w : Waits) → k ≤ n → 1 ≤ n → FewWaits m w → FewWaits (m + n) (waited_for k w)
waited-few m n k w l some h =
    record { got = omega (arith, h.got); waited = omega (arith, h.waited); longest = omega (arith, h.longest) }

got-few : (m k : ℕ) (w : Waits) (b : Bool) → k ≤ m → FewWaits m w → FewWaits (m + 1) (got_if b k w)
got-few m k w false l h = few-more m (m + 1) w (omega arith) h
got-few m k w true l h =
    record {
      got = omega (arith, h.got);
      waited = omega (arith, h.waited);
      longest = if-both (λ n. n ≤ m + 1) (ltb w.longest k) (λ e. omega arith) (λ e. omega (arith, h.longest));
    }

-- ---- tallies

-- a tally that grew by at most n in each number, its waits as said
tally-more : (m n : ℕ) (y : Tally) → m ≤ n → Few m y → Few n y
tally-more m n y l h =
    record {
      passed = omega (arith, h.passed);
      holding = omega (arith, h.holding);
      thinking = omega (arith, h.thinking);
      rows = omega (arith, h.rows);
      failed = omega (arith, h.failed);
      root = omega (arith, h.root);
      held = omega (arith, h.held);
      finished = omega (arith, h.finished);
      writers = few-more m n _ l h.writers;
      readers = few-more m n _ l h.readers;
    }

passed-few : (m : ℕ) (y : Tally) → Few m y → Few (m + 1) (passed_over y)
passed-few m y h =
    let k = tally-more m (m + 1) y (omega arith) h in
    record {
      passed = omega (arith, h.passed);
      holding = k.holding;
      thinking = k.thinking;
      rows = k.rows;
      failed = k.failed;
      root = k.root;
      held = k.held;
      finished = k.finished;
      writers = k.writers;
      readers = k.readers;
    }

spent-few : (m : ℕ) (y : Tally) (b : Bool) → Few m y → Few (m + 1) (spent b y)
spent-few m y b h =
    let k = tally-more m (m + 1) y (omega arith) h in
    record {
      passed = k.passed;
      holding = omega (arith, h.holding, one-le b, one-le (not b));
      thinking = omega (arith, h.thinking, one-le b, one-le (not b));
      rows = k.rows;
      failed = k.failed;
      root = k.root;
      held = k.held;
      finished = k.finished;
      writers = k.writers;
      readers = k.readers;
    }

row-few : (m n : ℕ) (y : Tally) (e : Entry) (w r : ℕ) → w ≤ n → r ≤ n → 1 ≤ n → Few m y → Few (m + n) (row_made e w r y)
row-few m n y e w r lw lr l h =
    let k = tally-more m (m + n) y (omega arith) h in
    record {
      passed = k.passed;
      holding = k.holding;
      thinking = k.thinking;
      rows = omega (arith, h.rows);
      failed = omega (arith, h.failed, one-le (is_failure e));
      root = omega (arith, h.root, one-le (is_on_root e));
      held = omega (arith, h.held, one-le (is_held_up e));
      finished = k.finished;
      writers = waited-few m n w _ lw l h.writers;
      readers = waited-few m n r _ lr l h.readers;
    }

over-few : (m : ℕ) (y : Tally) (o n : ℕ) → n ≤ m → Few m y → Few (m + 1) (call_over o n y)
over-few m y o n l h =
    let k = tally-more m (m + 1) y (omega arith) h in
    record {
      passed = k.passed;
      holding = k.holding;
      thinking = k.thinking;
      rows = k.rows;
      failed = k.failed;
      root = k.root;
      held = k.held;
      finished = omega (arith, h.finished);
      writers = got-few m n _ (is_write_lock o) l h.writers;
      readers = got-few m n _ (is_read_lock o) l h.readers;
    }

pub nothing-few : (m : ℕ) → Few m nothing
nothing-few m =
    let none : FewWaits m nothing.writers =
    record { got = omega arith; waited = omega arith; longest = omega arith } in
    record {
      passed = omega arith;
      holding = omega arith;
      thinking = omega arith;
      rows = omega arith;
      failed = omega arith;
      root = omega arith;
      held = omega arith;
      finished = omega arith;
      writers = none;
      readers = none;
    }

-- ---- what is known between two turns

pub small-more : (m n : ℕ) (g : Going) → m ≤ n → Small m g → Small n g
small-more m n g l h =
    record {
      tally = tally-more m n _ l h.tally;
      row = omega (arith, h.row);
      since = h.since;
      done = below_more m n g.done l h.done;
      failed = below_more m n g.failed l h.failed;
      long = h.long;
      done_long = h.done_long;
    }

pub small-passes : (m : ℕ) (g : Going) → Small m g → Small (m + 1) (passes g)
small-passes m g h =
    let k = small-more m (m + 1) g (omega arith) h in
    record {
      tally = passed-few m _ h.tally;
      row = k.row;
      since = k.since;
      done = k.done;
      failed = k.failed;
      long = k.long;
      done_long = k.done_long;
    }

pub small-pauses : (m t : ℕ) (g : Going) → Small m g → Small (m + 1) (pauses t g)
small-pauses m t g h =
    let k = small-more m (m + 1) g (omega arith) h in
    record {
      tally = spent-few m g.tally (holds (stands_at g.state t)) h.tally;
      row = k.row;
      since = k.since;
      done = k.done;
      failed = k.failed;
      long = k.long;
      done_long = k.done_long;
    }

pub small-makes : (m t : ℕ) (s : State) (e : Entry) (g : Going) → Small m g → Small (m + 64) (makes t s e g)
small-makes m t s e g h =
    let k = small-more m (m + 64) g (omega arith) h in
    record {
      tally = row-few m 64 _ e _ _ (omega (arith, counted-le is_write_lock g.order, h.long))
          (omega (arith, counted-le is_read_lock g.order, h.long)) (omega arith) h.tally;
      row = omega (arith, h.row);
      since = below_more g.row (g.row + 1) g.since (omega arith) h.since;
      done = k.done;
      failed = below_set (m + 64) g.failed t _ k.failed (omega (arith, h.failed t, one-le (eqb e.kind 3)));
      long = k.long;
      done_long = k.done_long;
    }

pub small-begins : (m : ℕ) (ts : List ℕ) (t o : ℕ) (g : Going) → Small m g → Small m (begins ts t o g)
small-begins m ts t o g h =
    record {
      tally = h.tally;
      row = h.row;
      since = below_set g.row g.since t g.row h.since (omega arith);
      done = h.done;
      failed = h.failed;
      long = rw (length-set g.order t o) h.long;
      done_long = h.done_long;
    }

pub small-finishes : (hold think m u : ℕ) (g : Going) → Small m g → Small (m + 1) (finishes hold think u g)
small-finishes hold think m u g h =
    let k = small-more m (m + 1) g (omega arith) h in
    record {
      tally = over-few m g.tally (get_or g.order u 0) (g.row - get_or g.since u 0) (omega (arith, h.row))
          h.tally;
      row = k.row;
      since = h.since;
      done = below_set (m + 1) g.done u _ k.done (omega (arith, h.done u));
      failed = k.failed;
      long = rw (length-set g.order u 0) h.long;
      done_long = length-set g.done u _ ∙ h.done_long;
    }

pub small_at : (hold think m u : ℕ) (g : Going) → Small m g → Small (m + 1) (finished_at hold think u g)
small_at hold think m u g h =
    if-both (Small (m + 1)) (is_over g u) (λ e. small-finishes hold think m u g h)
    (λ e. small-more m (m + 1) g (omega arith) h)

pub small-finished : (hold think m n : ℕ) (g : Going) → Small m g → Small (m + n) (finished hold think n g)
unfolding finished
small-finished hold think m zero g h = small-more m (m + 0) g (omega arith) h
small-finished hold think m (suc u) g h =
    small-more (m + u + 1) (m + suc u) _ (omega arith)
    (small_at hold think (m + u) u _ (small-finished hold think m u g h))

pub small-measures : (m : ℕ) (g : Going) → Small m g → Small m (measures g)
small-measures m g h =
    record {
      tally = nothing-few m;
      row = h.row;
      since = h.since;
      done = λ u. rw (zero-at 64 u) (omega arith);
      failed = λ u. rw (zero-at 64 u) (omega arith);
      long = h.long;
      done_long = refl;
    }
