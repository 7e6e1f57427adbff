-- The bookings of a run gone over afterwards, by its rows and its journal.
use Rattle.std.specs.Prelude.{◌-◌, List, [], ◌∷◌}
use Rattle.std.specs.Prelude.{if◌then◌else◌}
use Rattle.lock.specs.declared.Entry.{Entry}
use Rattle.lock.specs.Journal.{entry}
use Rattle.lock.specs.Machine.{Row}
use Rattle.till.specs.Till.{Till}
use Rattle.till.specs.Booking.{Ledger, book, is_booking}

-- one row: the table after it, and its entry
pub record Kept : Type 0 where
  pub ledger : Ledger
  pub entered : Entry

-- "The journal has kinds 11 booked, 12 repeated, 13 denied, on word 33"; the entry of any other row stays as it is
unfoldable pub settle_row : Till → Ledger → Row → Entry → Kept
unfolding book
settle_row i l r e =
    if is_booking r then (let b = book i l (r.order - 96) in
    record { ledger = b.ledger; entered = entry b.kind 33 })
    else record { ledger = l; entered = e }

-- rows: the table after them, and their entries
pub record Settled : Type 0 where
  pub ledger : Ledger
  pub entries : List Entry

abbrev pub before : Entry → Settled → Settled
before e x = record { ledger = x.ledger; entries = e ∷ x.entries }

unfoldable pub settle : Till → Ledger → List Row → List Entry → Settled
unfolding settle_row
settle i l [] es = record { ledger = l; entries = [] }
settle i l (r ∷ rs) [] = record { ledger = l; entries = [] }
settle i l (r ∷ rs) (e ∷ es) = let x = settle_row i l r e in before x.entered (settle i x.ledger rs es)
