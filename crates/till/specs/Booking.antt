-- The credit table, and one booking.
use Rattle.std.specs.Prelude.{ℕ, Bool, true, false, ◌&&◌, List, ℤ, pos, negsuc, ◌+ℤ◌, ltb, leb, length, get_or, set, replicate}
use Rattle.std.proofs.Math.Option.{Option, none, some}
use Rattle.std.specs.Prelude.{if◌then◌else◌}
use Rattle.lock.specs.Machine.{Row}
use Rattle.till.specs.Till.{Item, Till}

-- a balance for each room, and for each item whether it is marked booked
pub record Ledger : Type 0 where
  pub balances : List ℕ
  pub marks : List Bool

-- before the first row nothing is booked
abbrev pub fresh_ledger : Till → Ledger
fresh_ledger i = record { balances = replicate i.rooms 0; marks = replicate (length i.items) false }

-- an item that the file does not have
abbrev pub nothing : Item
nothing = record { room = 0; amount = pos 0 }

abbrev pub item_of : Till → ℕ → Item
item_of i e = get_or i.items e nothing

-- a balance after an amount; none where it would be below 0
abbrev pub natural : ℤ → Option ℕ
natural (pos n) = some n
natural (negsuc n) = none

-- the balance of item e's room with its amount
abbrev pub with_amount : Till → Ledger → ℕ → Option ℕ
with_amount i l e = natural (pos (get_or l.balances (item_of i e).room 0) +ℤ (item_of i e).amount)

-- "The journal has kinds 11 booked, 12 repeated, 13 denied"
pub record Booked : Type 0 where
  pub ledger : Ledger
  pub kind : ℕ

abbrev pub paid : Ledger → ℕ → ℕ → Option ℕ → Booked
paid l e q none = record { ledger = l; kind = 13 }
paid l e q (some b) =
    record { ledger = record { balances = set l.balances q b; marks = set l.marks e true }; kind = 11 }

-- "An entry already booked changes nothing; one that would take a balance below 0 is denied and may come again."
unfoldable pub book : Till → Ledger → ℕ → Booked
book i l e =
    if get_or l.marks e false then record { ledger = l; kind = 12 }
    else paid l e (item_of i e).room (with_amount i l e)

-- "order 96 + e books entry e in one row"; E is at most 32
abbrev pub books : ℕ → Bool
books o = leb 96 o && ltb o 128

abbrev pub is_booking : Row → Bool
is_booking r = books r.order
