-- The table as the code holds it, 64 numbers: the balances from place 0 on, and from 32 on 1 for an item that is marked
-- booked.
use Rattle.std.specs.Prelude.{ℕ, ◌+◌, ◌-◌, ◌≤◌, ◌<◌, ◌≡◌, Bool, true, false, List, ◌++◌, map, eqb, length, get_or, replicate, take, drop}
use Rattle.till.specs.Till.{Till}
use Rattle.till.specs.Booking.{Ledger}

abbrev pub is_marked : ℕ → Bool
is_marked n = eqb n 1

-- as many as the till has rooms and items
abbrev pub ledger_of : Till → List ℕ → Ledger
ledger_of i l = record { balances = take i.rooms l; marks = map is_marked (take (length i.items) (drop 32 l)) }

-- the 64 numbers of a table: the balances, and for each item 1 where it is marked and 0 where not; the rest of both
-- halves is 0
abbrev pub mark_as : Bool → ℕ
mark_as true = 1
mark_as false = 0

abbrev pub half : List ℕ → List ℕ
half xs = xs ++ replicate (32 - length xs) 0

abbrev pub table_of : Ledger → List ℕ
table_of g = half g.balances ++ half (map mark_as g.marks)

-- the same of each number that no room and no item has, and of each mark
pub record Clean (i : Till) (l : List ℕ) : Type 0 where
  pub long : length l ≡ 64
  pub rooms : (q : ℕ) → i.rooms ≤ q → q < 32 → get_or l q 0 ≡ 0
  pub items : (e : ℕ) → length i.items ≤ e → get_or l (32 + e) 0 ≡ 0
  pub marks : (e : ℕ) → get_or l (32 + e) 0 ≤ 1

-- nothing is booked, and every balance is 0
abbrev pub none_booked : List ℕ
none_booked = replicate 64 0
