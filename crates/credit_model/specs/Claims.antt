-- What is claimed of the credit table, of every list of rows.
use Rattle.std.specs.Prelude.{ℕ, ◌+◌, ◌-◌, ◌≤◌, ◌<◌, ◌≡◌, ◌≢◌, true, List, [], ◌∷◌, length, get_or, take}
use Rattle.std.specs.Prelude.{if◌then◌else◌}
use Rattle.lock.specs.declared.Entry.{Entry}
use Rattle.lock.specs.declared.Phase.TheVariants.{Writing}
use Rattle.lock.specs.declared.Sizes.{Sizes}
use Rattle.lock.specs.Journal.{call_begun}
use Rattle.lock.specs.Machine.{Row, ResultOf, Finished}
use Rattle.lock.specs.State.{fresh, thread_at}
use Rattle.laws.specs.Exclusion.{as_nobody, counts_as}
use Rattle.pair.specs.Pair.{Side, first, second, fresh_pair}
use Rattle.pair.specs.Apart.{keep}
use Rattle.pair.specs.Calls.{OneCall}
use Rattle.pair.specs.Demand.{is_at, CountedAt}
use Rattle.pair.specs.Locking.{LocksAt, LockingAt}
use Rattle.pair.specs.Pair as pair
use Rattle.progress.specs.Progress.{ProgressAt}
use Rattle.progress.specs.LockOrder.{Ordered}
use Rattle.till.specs.Till.{Till}
use Rattle.till.specs.Booking.{fresh_ledger, is_booking}
use Rattle.till.specs.Settle.{settle}
use Rattle.till.specs.Balanced.{Balanced}
use Rattle.credit_model.specs.Credit.{Credit, start, run}
use Rattle.credit_model.specs.Above.{with_till, Above}

-- the rows that are no bookings
abbrev pub calls_of : List Row → List Row
calls_of [] = []
calls_of (r ∷ rs) = if is_booking r then calls_of rs else r ∷ calls_of rs

-- the rows that belong to the lock x, by the words of their entries, and these entries
abbrev pub rows_on : Side → List Row → List Entry → List Row
rows_on x [] es = []
rows_on x (r ∷ rs) [] = []
rows_on x (r ∷ rs) (e ∷ es) = keep (is_at x e) r (rows_on x rs es)

abbrev pub entries_on : Side → List Entry → List Entry
entries_on x [] = []
entries_on x (e ∷ es) = keep (is_at x e) e (entries_on x es)

-- stands for what is behind the end of the rows
abbrev pub no_row : Row
no_row = record { thread = 0; order = 0 }

module _ (z : Sizes) (i : Till) (rs : List Row) where
  abbrev pub result : ResultOf Credit Entry
  result = run z i (start i) rs

  -- the state after the first k rows, and row k
  abbrev pub state_at : ℕ → Credit
  state_at k = (run z i (start i) (take k rs)).state

  abbrev pub row_at : ℕ → Row
  row_at k = get_or rs k no_row

  -- The locks never depend on the balances: the bench takes the rows without the bookings, all of those taken, and
  -- comes to the same locks.
  pub record Benched : Type 0 where
    pub answer : (pair.run z fresh_pair (calls_of (take result.taken rs))).answer ≡ 0
    pub locks : (pair.run z fresh_pair (calls_of (take result.taken rs))).state ≡ result.state.locks

  -- The locking claims of each lock, after every row; and those that go by rows, of the rows as they stand, the
  -- bookings among them: who holds, holds until it unlocks; late arrivals; one success of each ticket above 0; upgrade
  -- and downgrade restore the root, also where the thread books between them; refusal 8 is unused.
  pub record Locked : Type 0 where
    pub each : (x : Side) (k : ℕ) → LocksAt (with_till i z) x (state_at k).locks
    pub by_rows : (x : Side) → LockingAt (with_till i z) x rs
    -- neither lock taken alone ever gets stuck, and both do not where threads take them in one order
    pub progress : (x : Side) → ProgressAt (with_till i z) x rs
    pub ordered : (x : Side) → Ordered (with_till i z) x rs
    -- "A thread is in one call at a time"
    pub one_call : (k : ℕ) → OneCall (state_at k).locks

  -- "After every row the balances add up to the amounts of the entries marked booked, room by room, and no balance is
  -- below 0"
  abbrev pub BalancedThroughout : Type 0
  BalancedThroughout = (k : ℕ) → Balanced i (state_at k).ledger

  -- in the state before row k its thread writes the first lock, and nobody else holds that
  pub record Alone (k : ℕ) : Type 0 where
    pub writes : (thread_at (state_at k).locks.one (row_at k).thread).phase ≡ Writing
    pub others : (u : ℕ) → u ≢ (row_at k).thread → counts_as (thread_at (state_at k).locks.one u).phase ≡ as_nobody

  -- ---- of the rows taken and their entries es: those of the run, or those that are read back from the caller's
  -- journal
  module _ (es : List Entry) where
    -- "going over rows and journal afterwards gives the same": the table, and every entry
    pub record Afterwards : Type 0 where
      pub ledger : (settle i (fresh_ledger i) rs es).ledger ≡ result.state.ledger
      pub entries : (settle i (fresh_ledger i) rs es).entries ≡ es

    -- "take away every row that belongs to one lock", a booking being a row of the first: the rest is taken, all of it.
    -- Without the second lock's rows the first lock, the table and the entries are what they were, without the first
    -- lock's the second lock.
    pub record Apart : Type 0 where
      pub one : run z i (start i) (rows_on first rs es)
          ≡ record {
            answer = 0;
            taken = length (rows_on first rs es);
            state = record {
              locks = record { one = result.state.locks.one; two = fresh };
              ledger = result.state.ledger;
            };
            entries = entries_on first es;
          }
      pub two : run z i (start i) (rows_on second rs es)
          ≡ record {
            answer = 0;
            taken = length (rows_on second rs es);
            state = record { locks = record { one = fresh; two = result.state.locks.two }; ledger = fresh_ledger i };
            entries = entries_on second es;
          }

    -- Row k of those taken books the item e, with kind 11: the song is charged.
    pub record Charges (e k : ℕ) : Type 0 where
      pub before : k < result.taken
      pub books : is_booking (row_at k) ≡ true
      pub order : (row_at k).order ≡ 96 + e
      pub kind : (get_or es k call_begun).kind ≡ 11

    -- demand 3 at each lock, after the first k rows taken, for every k: bookings are among the rows, and have their
    -- entries in the one journal
    abbrev pub CountedThroughout : Type 0
    CountedThroughout =
        (x : Side) (k : ℕ) → k ≤ result.taken → CountedAt z x (take k rs) (take k es) (state_at k).locks

    -- **One song is never charged twice**: "of all rows that book entry e, at most one has kind 11", and it was made by
    -- a thread that wrote while nobody else held the first lock.
    pub record Once : Type 0 where
      pub once : (e j k : ℕ) → Charges e j → Charges e k → j ≡ k
      pub alone : (e k : ℕ) → Charges e k → Alone k
      -- no row books what the till does not have
      pub known : (k : ℕ) → k < result.taken → is_booking (row_at k) ≡ true → (row_at k).order - 96 < length i.items

    -- all that is claimed
    pub record Promises : Type 0 where
      -- "0 means all rows were taken", and any other answer is that of a row
      pub finished : Finished rs result
      pub above : Above z i rs
      pub benched : Benched
      pub locked : Locked
      pub apart : Apart
      pub counted : CountedThroughout
      pub afterwards : Afterwards
      pub balanced : BalancedThroughout
      pub charged : Once
