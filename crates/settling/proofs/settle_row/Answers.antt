-- A booking, or a row whose kind stays (proofs/Going).
use Rattle.settling.proofs.Going.{row-booked, row_kept}
use Rattle.settling.proofs.settle_row.Goals as goal

pub returns-in-Some : goal.returns-in-Some
returns-in-Some c =
    row-booked c.in-Some.ensures.0 c.in-Some.ensures.1 c.book.ensures

pub returns-in-None : goal.returns-in-None
returns-in-None c =
    row_kept c.in-None.ensures c.requires.1
