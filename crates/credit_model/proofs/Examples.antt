-- The runs with a till hold of the definitions: each by computing.
use Rattle.lock.proofs.Library.{◌≡◌, refl, replicate}
use Rattle.lock.specs.{Phase.standing, Machine.runs, Run.step, Sheet.lines}
use Rattle.pair.specs.{Pair.turn, Sheet.sheet_of}
use Rattle.till.specs.{Booking.book, Rooms.room_line}
use Rattle.credit_model.specs.{Credit.{row, run}, File.{credit, journal_after}, Sheet.{credit_sheet_of, sheet}}
use Rattle.credit_model.specs.Examples.{examples, AllEnd, sale, sale_till, sale_sheet, sale_journal}

pub all_end : AllEnd examples
unfolding AllEnd examples run runs row turn step standing book
all_end = refl

-- a sale, byte for byte; the journal's buffer is full of another byte before
pub sale-sheet : sheet sale sale_till 36 ≡ sale_sheet
unfolding sheet credit_sheet_of sheet_of credit sale sale_till sale_sheet room_line lines run runs row turn step standing book
sale-sheet = refl

pub sale-journal : journal_after sale sale_till (replicate 36 0xEE) ≡ sale_journal
unfolding journal_after credit sale sale_till sale_journal run runs row turn step standing book
sale-journal = refl
