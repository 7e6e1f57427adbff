-- The sheet of what the run left is the file's; it is written where the buffer has room for every sheet.
use Rattle.text.proofs.Pages.{fits-front, whole}
use Rattle.lock.proofs.Library.{rules, arith}
use Rattle.text.proofs.Asking.{asked-place, asked-sheet, asked-as}
use Rattle.ticket_lock.specs.Rows.{ran_on}
use Rattle.ticket_report.proofs.Shape.{sheet-fits}
use Rattle.ticket_report.proofs.Long.{left-whole}
use Rattle.ticket_report.proofs.Sheeted.{sheet-is, sheeted}
use Rattle.ticket_report.proofs.sheet_file.Goals as goal

pub put_sheet-requires : goal.put_sheet-requires
put_sheet-requires c =
    let ran = ran_on c.run_on-answered.result c.run_on-answered.new.lock in
    fits-front c.new-page.ensures.bytes c.new-page.ensures.front
    (asked-place _ c.check_room.ensures.0 c.in_ok-check_room.was
    (omega (arith, sheet-fits ran (left-whole c.run_on-answered.ensures))))

pub returns-clause-sheeted : goal.returns-clause-sheeted
returns-clause-sheeted c =
    sheeted c.run_on-answered.ensures
    (asked-as (sheet-is c.run_on-answered.ensures)
    (asked-sheet _ c.check_room.ensures.0 c.in_ok-check_room.was
    (whole c.new-page.ensures.bytes c.new-page.ensures.front c.put_sheet.ensures (search rules))))
