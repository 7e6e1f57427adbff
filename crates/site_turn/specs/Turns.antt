-- A turn of a site's run in place: what the code's parts stand for, and what a turn leaves of them.
use Rattle.std.specs.Prelude.{ℕ, suc, ◌+◌, ◌-◌, ◌*◌, ◌≤◌, ◌<◌, ◌≡◌, ◌≢◌, Result, Ok, Err, eqb, length, get_or, set, replicate, List}
use Rattle.lock.specs.Bound.{most_steps, steps_before}
use Rattle.std.specs.Prelude.{if◌then◌else◌}
use Rattle.lock.specs.declared.Entry.{Entry}
use Rattle.lock.specs.declared.Refusal.{Refusal}
use Rattle.lock.specs.Refusal.{number_of}
use Rattle.lock.specs.Demand.{one}
use Rattle.cells.specs.View.{state_of, pc}
use Rattle.step.specs.Reached.{Reached}
use Rattle.site_model.specs.Tally.{nothing, row_made, is_write_lock, is_read_lock}
use Rattle.site_model.specs.Site.{Site, Going, Went, on, stopped, counted, behind_call, finished_at, finished}
use Rattle.site_model.specs.Site.{Due, passing, pausing, getting, due}
use Rattle.site_model.specs.Code.{Few, Below, Small, Fit}
pub use Rattle.site_turn.specs.declared.plan.Pace.{Pace}
pub use Rattle.site_turn.specs.declared.plan.Plan.{Plan}
pub use Rattle.site_turn.specs.declared.SiteState.{SiteState}
pub use Rattle.site_turn.specs.declared.Purpose.{Purpose}
use Rattle.site_turn.specs.declared.Purpose.TheVariants.{PassedOver, Spent, Row}

-- ---- how far counters can have come: before a turn, after its row, and while calls are finished

abbrev pub MOST : ℕ
MOST = 128 * most_steps

abbrev pub MADE : ℕ
MADE = MOST + 64

abbrev pub ROOM : ℕ
ROOM = MOST + 128

-- ---- what the code's parts stand for

-- the site of a plan
abbrev pub site_in : Plan → Site
site_in k =
    record {
      sizes = k.sizes;
      hold = k.pace.hold;
      think = k.pace.think;
      warm = k.pace.warm;
      threads = k.threads.now;
      orders = k.orders.now;
    }

-- what is known
abbrev pub going_of : SiteState → Going
going_of s =
    record {
      state = state_of s.lock;
      row = s.row;
      next = s.next;
      pause = s.pause;
      order = s.order;
      since = s.since;
      done = s.done;
      failed = s.failed;
      tally = s.tally;
    }

-- before anything is known
abbrev pub nothing_known : SiteState
nothing_known =
    record {
      lock = replicate 512 0;
      next = replicate 64 0;
      pause = replicate 64 0;
      order = replicate 64 0;
      since = replicate 64 0;
      done = replicate 64 0;
      failed = replicate 64 0;
      row = 0;
      writing = 0;
      reading = 0;
      tally = nothing;
    }

-- the counters have how many threads wait for a write-lock, and for a read-lock
pub record Waiting (s : SiteState) : Type 0 where
  pub long : length s.order ≡ 64
  pub writing : s.writing ≡ counted is_write_lock s.order
  pub reading : s.reading ≡ counted is_read_lock s.order

-- thread t's order is another, and so is who waits
abbrev pub reordered : ℕ → ℕ → SiteState → SiteState
reordered t o s =
    record s {
      order = set s.order t o;
      writing = s.writing + one (is_write_lock o) - one (is_write_lock (get_or s.order t 0));
      reading = s.reading + one (is_read_lock o) - one (is_read_lock (get_or s.order t 0));
    }

-- ---- a row

pub record Countable (t : ℕ) (s : SiteState) : Type 0 where
  pub there : t < 64
  pub failed : Below MOST s.failed
  pub row : s.row ≤ MOST
  pub tally : Few MOST s.tally
  pub few : (s.writing ≤ 64) × (s.reading ≤ 64)

-- thread t made a row with this entry
abbrev pub row_counted : ℕ → Entry → SiteState → SiteState
row_counted t e s =
    record s {
      failed = set s.failed t (get_or s.failed t 0 + one (eqb e.kind 3));
      row = s.row + 1;
      tally = row_made e s.writing s.reading s.tally;
    }

-- the place of a call of thread t
pub record Callable (k : Plan) (t call : ℕ) : Type 0 where
  pub there : t < 64
  pub inside : call < length k.threads.now
  pub own : get_or k.threads.now call 0 ≡ t

-- that row was the first of a call, among the calls of the threads ts
abbrev pub call_begun : List ℕ → ℕ → ℕ → SiteState → SiteState
call_begun ts t o s =
    reordered t o (record s {
      next = set s.next t (behind_call t ts (get_or s.next t 0));
      since = set s.since t s.row;
    })

-- it was, unless the order is 0
abbrev pub begun_if : List ℕ → ℕ → ℕ → SiteState → SiteState
begun_if ts t o s = if eqb o 0 then s else call_begun ts t o s

-- ---- calls that are over

pub record Finishable (m : ℕ) (s : SiteState) : Type 0 where
  pub small : Small m (going_of s)
  pub waiting : Waiting s

-- f was done to what is known, and the lock is as it was
pub record Ends (f : Going → Going) (s s' : SiteState) : Type 0 where
  pub going : going_of s' ≡ f (going_of s)
  pub lock : s'.lock ≡ s.lock
  pub waiting : Waiting s'

-- after a row of this kind by thread t
abbrev pub finished_after : Plan → ℕ → ℕ → Going → Going
finished_after k kind t g =
    if eqb kind 9 then finished k.pace.hold k.pace.think k.sizes.threads g
    else finished_at k.pace.hold k.pace.think t g

-- ---- a turn

-- the order o begins the call at thread t's next place, or is 0
pub record Gets (k : Plan) (s : SiteState) (t o : ℕ) : Type 0 where
  pub there : t < k.sizes.threads
  pub call : o ≢ 0 → get_or s.next t 0 < length k.threads.now

-- the first program counter of a thread in a call
abbrev pub LOOK : ℕ
LOOK = 3

-- what a turn is for
abbrev pub due_of : Purpose → Due
due_of PassedOver = passing
due_of Spent = pausing
due_of (Row o) = getting o

-- Of thread t it is this; one that is spent is of a thread in no call that has turns to let pass, and a row is one that
-- t can get.
pub record IsFor (k : Plan) (s : SiteState) (t : ℕ) (w : Purpose) : Type 0 where
  pub is : due (site_in k) t (going_of s) ≡ due_of w
  pub spent : w ≡ Spent → (t < k.sizes.threads) × (pc s.lock t < LOOK) × (0 < get_or s.pause t 0)
  pub gets : (o : ℕ) → w ≡ Row o → Gets k s t o

pub record Turnable (k : Plan) (s : SiteState) : Type 0 where
  pub reached : Reached k.sizes steps_before s.lock
  pub fit : Fit (site_in k) MOST (going_of s)
  pub waiting : Waiting s

-- the run goes on, or a row was refused
abbrev pub went_to : Result (Unit {0}) Refusal → Going → Went
went_to (Ok u) g = on g
went_to (Err r) g = stopped (number_of r) g

-- A turn led to w by the definitions, and from s to s' in place.
pub record Turned (k : Plan) (t : ℕ) (w : Went) (s s' : SiteState) (r : Result (Unit {0}) Refusal) : Type 0 where
  pub went : w ≡ went_to r (going_of s')
  pub waiting : Waiting s'
  pub keeps : (n : ℕ) → Reached k.sizes n s.lock → Reached k.sizes (suc n) s'.lock
