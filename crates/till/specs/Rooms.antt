-- The room lines of a sheet.
use Rattle.std.specs.Prelude.{ℕ, List, ◌++◌}
use Rattle.lock.specs.Text.{text, decimal}
use Rattle.lock.specs.Sheet.{lines}
use Rattle.till.specs.Booking.{Ledger}

-- "a line per room: `room`, number, balance"
unfoldable pub room_line : ℕ → ℕ → List ℕ
unfolding text decimal
room_line q balance = text "room " ++ decimal q ++ text " " ++ decimal balance ++ text "\n"

abbrev pub room_lines : Ledger → List ℕ
room_lines l = lines room_line 0 l.balances
