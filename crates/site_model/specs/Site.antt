-- A site at lent turns: each thread goes through its wanted calls again and again, holds what it gets for some of its
-- turns, and thinks for some between two critical sections. What it costs is tallied as it goes; no row is kept.
use Rattle.std.specs.Prelude.{ℕ, zero, suc, ◌+◌, ◌-◌, Bool, true, false, not, ◌&&◌, leb, length, get_or, set, replicate}
use mathlib.Core.List.{List, [], ◌∷◌}
use Rattle.std.proofs.Math.Dec.{eqb, ltb}
use Rattle.std.specs.Prelude.{if◌then◌else◌}
use Rattle.lock.specs.declared.Entry.{Entry}
use Rattle.lock.specs.declared.Standing.{Standing}
use Rattle.lock.specs.declared.Sizes.{Sizes}
use Rattle.lock.specs.Demand.{one}
use Rattle.lock.specs.Phase.{standing}
use Rattle.lock.specs.State.{State, fresh, thread_at, Outcome, taken, refused}
use Rattle.lock.specs.Run.{step}
use Rattle.dispatch_model.specs.Code.{next_row}
use Rattle.site_model.specs.Tally.{Tally, nothing, passed_over, spent, row_made, is_call}
use Rattle.site_model.specs.Tally.{is_write_lock, is_read_lock, call_over}

-- ---- the site

pub record Site : Type 0 where
  pub sizes : Sizes
  -- "how many of its own turns a thread lets pass between getting a lock and asking to give it up (or to convert it)"
  pub hold : ℕ
  -- "and between two critical sections"
  pub think : ℕ
  -- turns that are "run and not measured"
  pub warm : ℕ
  -- the rows of wanted calls: their threads, and their orders
  pub threads : List ℕ
  pub orders : List ℕ

-- ---- what is known between two turns

-- Lists have a number for each thread.
pub record Going : Type 0 where
  pub state : State
  -- the rows made, the warm-up's among them
  pub row : ℕ
  -- the place of its next call among the rows of wanted calls
  pub next : List ℕ
  -- the own turns that it still lets pass
  pub pause : List ℕ
  -- the order of the call that it is in, 0 where it is in none; and the rows made when that call's first row was
  pub order : List ℕ
  pub since : List ℕ
  -- calls finished, and failed swaps
  pub done : List ℕ
  pub failed : List ℕ
  pub tally : Tally

-- how many orders pass a test
abbrev pub counted : (ℕ → Bool) → List ℕ → ℕ
counted test [] = 0
counted test (o ∷ os) = one (test o) + counted test os

-- ---- standings

-- is a thread in a call, awake or asleep? does it hold the lock?
abbrev pub in_call : Standing → Bool
in_call Standing.Idle = false
in_call (Standing.Reading k) = false
in_call Standing.Writing = false
in_call Standing.Calling = true
in_call Standing.Asleep = true

abbrev pub holds : Standing → Bool
holds Standing.Idle = false
holds (Standing.Reading k) = true
holds Standing.Writing = true
holds Standing.Calling = false
holds Standing.Asleep = false

unfoldable pub stands_at : State → ℕ → Standing
unfolding standing
stands_at s u = standing (thread_at s u).phase

-- ---- wanted calls

-- the place of the call behind that at place p, of thread t: after its last call its first again
abbrev pub behind_call : ℕ → List ℕ → ℕ → ℕ
behind_call t ts p = if ltb (next_row t ts (suc p)) (length ts) then next_row t ts (suc p) else next_row t ts 0

-- the first call of n threads from thread t on; the number of rows where a thread has none
abbrev pub first_calls : List ℕ → ℕ → ℕ → List ℕ
first_calls ts t zero = []
first_calls ts t (suc n) = next_row t ts 0 ∷ first_calls ts (suc t) n

-- ---- a turn without a row

abbrev pub passes : Going → Going
passes g =
    record {
      state = g.state;
      row = g.row;
      next = g.next;
      pause = g.pause;
      order = g.order;
      since = g.since;
      done = g.done;
      failed = g.failed;
      tally = passed_over g.tally;
    }

-- thread t lets its turn pass, holding or thinking
abbrev pub pauses : ℕ → Going → Going
pauses t g =
    record {
      state = g.state;
      row = g.row;
      next = g.next;
      pause = set g.pause t (get_or g.pause t 0 - 1);
      order = g.order;
      since = g.since;
      done = g.done;
      failed = g.failed;
      tally = spent (holds (stands_at g.state t)) g.tally;
    }

-- ---- a row

-- thread t made a row with this entry, which led to the state s
abbrev pub makes : ℕ → State → Entry → Going → Going
makes t s e g =
    record {
      state = s;
      row = g.row + 1;
      next = g.next;
      pause = g.pause;
      order = g.order;
      since = g.since;
      done = g.done;
      failed = set g.failed t (get_or g.failed t 0 + one (eqb e.kind 3));
      tally = row_made e (counted is_write_lock g.order) (counted is_read_lock g.order) g.tally;
    }

-- that row was its call's first, among the calls of the threads ts
abbrev pub begins : List ℕ → ℕ → ℕ → Going → Going
begins ts t o g =
    record {
      state = g.state;
      row = g.row;
      next = set g.next t (behind_call t ts (get_or g.next t 0));
      pause = g.pause;
      order = set g.order t o;
      since = set g.since t g.row;
      done = g.done;
      failed = g.failed;
      tally = g.tally;
    }

-- Thread u's call is over. "A wait is the rows, of all threads, behind the call's first row up to the one from which on
-- the lock is held." It holds now, or thinks, for so many of its turns.
abbrev pub finishes : ℕ → ℕ → ℕ → Going → Going
finishes hold think u g =
    record {
      state = g.state;
      row = g.row;
      next = g.next;
      pause = set g.pause u (if holds (stands_at g.state u) then hold else think);
      order = set g.order u 0;
      since = g.since;
      done = set g.done u (get_or g.done u 0 + 1);
      failed = g.failed;
      tally = call_over (get_or g.order u 0) (g.row - get_or g.since u 0) g.tally;
    }

-- a call is over where its thread was in it and is in none any more: by its own row, or by that which woke it
abbrev pub is_over : Going → ℕ → Bool
is_over g u = is_call (get_or g.order u 0) && not (in_call (stands_at g.state u))

-- thread u's call, if it is over
abbrev pub finished_at : ℕ → ℕ → ℕ → Going → Going
finished_at hold think u g = if is_over g u then finishes hold think u g else g

-- the calls of the threads below n that are over
unfoldable pub finished : ℕ → ℕ → ℕ → Going → Going
unfolding stands_at
finished hold think zero g = g
finished hold think (suc u) g = finished_at hold think u (finished hold think u g)

-- ---- the end of the warm-up

-- nothing that was counted in it counts
abbrev pub measures : Going → Going
measures g =
    record {
      state = g.state;
      row = g.row;
      next = g.next;
      pause = g.pause;
      order = g.order;
      since = g.since;
      done = replicate 64 0;
      failed = replicate 64 0;
      tally = nothing;
    }

-- a run goes on, or a call was refused
pub data Went : Type 0 where
  on : Going → Went
  stopped : ℕ → Going → Went

abbrev pub further : (Going → Went) → (Going → Going) → Went → Went
further f end (on g) = f g
further f end (stopped n g) = stopped n (end g)

-- what a turn is for: it is passed over, spent, or a row with an order
pub data Due : Type 0 where
  passing : Due
  pausing : Due
  getting : ℕ → Due

module _ (x : Site) where
  abbrev pub begun : Going
  begun =
      record {
        state = fresh;
        row = 0;
        next = first_calls x.threads 0 64;
        pause = replicate 64 0;
        order = replicate 64 0;
        since = replicate 64 0;
        done = replicate 64 0;
        failed = replicate 64 0;
        tally = nothing;
      }

  -- ---- what a turn is for

  -- outside a call thread t lets a turn pass, or begins its next call, if it has one
  abbrev pub due_outside : ℕ → Going → Due
  due_outside t g =
      if ltb (get_or g.next t 0) (length x.threads) then
      (if ltb 0 (get_or g.pause t 0) then pausing else getting (get_or x.orders (get_or g.next t 0) 0))
      else passing

  -- by its standing: inside a call it goes on, with order 0; one that is asleep is passed over
  abbrev pub due_in : ℕ → Going → Standing → Due
  due_in t g Standing.Idle = due_outside t g
  due_in t g (Standing.Reading k) = due_outside t g
  due_in t g Standing.Writing = due_outside t g
  due_in t g Standing.Calling = getting 0
  due_in t g Standing.Asleep = passing

  -- "else the turn is passed over, as is a turn of T or more"
  unfoldable pub due : ℕ → Going → Due
  unfolding stands_at
  due t g = if ltb t x.sizes.threads then due_in t g (stands_at g.state t) else passing

  -- ---- what it does

  -- the row of thread t with the order o, by its outcome
  abbrev pub row_of : ℕ → ℕ → Going → Outcome → Went
  row_of t o g (refused n) = stopped n g
  row_of t o g (taken s e) =
      let h = makes t s e g in
      on (finished x.hold x.think x.sizes.threads (if eqb o 0 then h else begins x.threads t o h))

  abbrev pub act : ℕ → Going → Due → Went
  act t g passing = on (passes g)
  act t g pausing = on (pauses t g)
  act t g (getting o) = row_of t o g (step x.sizes g.state (record { thread = t; order = o }))

  unfoldable pub at_turn : ℕ → Going → Went
  unfolding due finished step
  at_turn t g = act t g (due t g)

  -- ---- the turns

  -- where all n turns used are the warm-up's, nothing is measured
  abbrev pub measured : ℕ → Going → Going
  measured n g = if leb n x.warm then measures g else g

  -- these turns, behind n others
  unfoldable pub run : ℕ → List ℕ → Going → Went
  unfolding at_turn
  run n [] g = on (measured n g)
  run n (t ∷ ts) g =
      further (λ h. run (suc n) ts h) (measured n) (at_turn t (if eqb n x.warm then measures g else g))

  -- the site's run at these turns
  abbrev pub site : List ℕ → Went
  site ts = run 0 ts begun
