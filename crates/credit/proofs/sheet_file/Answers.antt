-- The sheet of what the run left is the file's (proofs/Sheet); it is written where the buffer has room for every sheet.
use Rattle.lock.proofs.Library.{rules}
use Rattle.text.proofs.{Asking.asked-sheet, Pages.whole}
use Rattle.credit.proofs.Sheet.{sheeted-is}
use Rattle.credit.proofs.sheet_file.Goals as goal

pub returns-clause-sheeted : goal.returns-clause-sheeted
returns-clause-sheeted c =
    sheeted-is c.run_file-ran.ensures
    (asked-sheet _ c.check_room.ensures.0 c.in_ok-check_room.was
    (whole c.new-page.ensures.bytes c.new-page.ensures.front c.put_credit_sheet.ensures (search rules)))
