-- What holds of the table after every row.
use Rattle.std.specs.Prelude.{ℕ, ◌<◌, ◌≡◌, Bool, ◌&&◌, List, [], ◌∷◌, ℤ, pos, ◌+ℤ◌, ◌≤ℤ◌, eqb, get_or}
use Rattle.std.specs.Prelude.{if◌then◌else◌}
use Rattle.till.specs.Till.{Item, Till}
use Rattle.till.specs.Booking.{Ledger}

-- "the amounts of the entries marked booked, room by room": of the room q
abbrev pub part : ℕ → Item → Bool → ℤ
part q x m = if m && eqb x.room q then x.amount else pos 0

abbrev pub sum_of : ℕ → List Item → List Bool → ℤ
sum_of q [] ms = pos 0
sum_of q (x ∷ xs) [] = pos 0
sum_of q (x ∷ xs) (m ∷ ms) = part q x m +ℤ sum_of q xs ms

-- "the balances add up to the amounts of the entries marked booked, room by room, and no balance is below 0". Balances
-- are natural numbers here, so the second part is said of the sums, which could be below 0.
pub record Balanced (i : Till) (l : Ledger) : Type 0 where
  pub adds : (q : ℕ) → q < i.rooms → pos (get_or l.balances q 0) ≡ sum_of q i.items l.marks
  pub never-below : (q : ℕ) → q < i.rooms → pos 0 ≤ℤ sum_of q i.items l.marks
