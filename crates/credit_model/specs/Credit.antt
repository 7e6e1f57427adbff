-- Document 02, Twelve: bookings in step. The balances are part of the state, beside the two locks.
use Rattle.std.specs.Prelude.{ℕ, ◌-◌, Bool, true, false, not, ◌&&◌, List, ltb, length}
use Rattle.std.specs.Prelude.{if◌then◌else◌}
use Rattle.lock.specs.declared.Entry.{Entry}
use Rattle.lock.specs.declared.Sizes.{Sizes}
use Rattle.lock.specs.declared.Standing.{Standing}
use Rattle.lock.specs.Journal.{entry}
use Rattle.lock.specs.Phase.{standing}
use Rattle.lock.specs.Machine.{Row, OutcomeOf, taken, refused, ResultOf, runs}
use Rattle.lock.specs.State.{State, thread_at}
use Rattle.pair.specs.Pair.{Pair, fresh_pair, busy, Note, turn, written}
use Rattle.till.specs.Till.{Till}
use Rattle.till.specs.Booking.{Ledger, fresh_ledger, book, is_booking}

pub record Credit : Type 0 where
  pub locks : Pair
  pub ledger : Ledger

-- two fresh locks, and nothing booked
abbrev pub start : Till → Credit
start i = record { locks = fresh_pair; ledger = fresh_ledger i }

-- ---- a booking

abbrev pub is_writing : Standing → Bool
is_writing Standing.Idle = false
is_writing (Standing.Reading k) = false
is_writing Standing.Writing = true
is_writing Standing.Calling = false
is_writing Standing.Asleep = false

abbrev pub writes : State → ℕ → Bool
writes s t = is_writing (standing (thread_at s t).phase)

-- "by a thread that is writing the first lock, in no call and not asleep": who writes the first lock is in no call
-- there
abbrev pub may_book : Pair → ℕ → Bool
may_book s t = writes s.one t && not (busy s.two t)

-- "order 96 + e books entry e in one row"; "The journal has kinds 11 booked, 12 repeated, 13 denied, on word 33"
abbrev pub booked : Till → Credit → ℕ → OutcomeOf Credit Entry
booked i s e =
    let b = book i s.ledger e in taken (record { locks = s.locks; ledger = b.ledger }) (entry b.kind 33)

-- "an entry number of E or more … is 6, and any other thread's booking, 7"; 5 before them, as at every row
abbrev pub book_row : Sizes → Till → Credit → Row → OutcomeOf Credit Entry
book_row z i s r =
    if ltb r.thread z.threads then
    (if ltb (r.order - 96) (length i.items) then
    (if may_book s.locks r.thread then booked i s (r.order - 96) else refused 7) else refused 6)
    else refused 5

-- ---- any other row is one of the locks, and leaves the table as it is

abbrev pub beside : Ledger → OutcomeOf Pair Note → OutcomeOf Credit Entry
beside l (taken s m) = taken (record { locks = s; ledger = l }) (written m)
beside l (refused n) = refused n

unfoldable pub row : Sizes → Till → Credit → Row → OutcomeOf Credit Entry
unfolding turn book
row z i s r = if is_booking r then book_row z i s r else beside s.ledger (turn z s.locks r)

unfoldable pub run : Sizes → Till → Credit → List Row → ResultOf Credit Entry
unfolding runs row
run z i s rs = runs (row z i) s rs
