-- The sheet fits a buffer that passes the test, and stands at its front.
use Rattle.lock.proofs.Library.{ap, rules}
use Rattle.text.proofs.Asking.{asked-as, asked-place, asked-sheet}
use Rattle.text.proofs.Pages.{fits-front, whole}
use Rattle.record_model.specs.Sheet.{verdict_sheet}
use Rattle.record_hold.specs.Holds.{verdict_in}
use Rattle.record_report.specs.Numbers.{told_in}
use Rattle.record_report.proofs.Sheet.{sheet-fits, roomy}
use Rattle.record_report.proofs.write_told.Goals as goal

pub put_told-requires : goal.put_told-requires
put_told-requires g c =
    let a = c.args in
    fits-front c.new-page.ensures.bytes c.new-page.ensures.front
    (asked-place a.sheet.now c.check_room.ensures.0 c.in_ok-check_room.was
    (sheet-fits a.z (told_in c.numbers.result) a.locks.now))

pub returns-clause-asked : goal.returns-clause-asked
returns-clause-asked g c =
    let a = c.args in
    asked-as (ap (λ r. verdict_sheet a.z (verdict_in r a.locks.now)) c.numbers.ensures)
    (asked-sheet a.sheet.now c.check_room.ensures.0 c.in_ok-check_room.was
    (whole c.new-page.ensures.bytes c.new-page.ensures.front c.put_told.ensures (search rules)))

pub returns-clause-roomy : goal.returns-clause-roomy
returns-clause-roomy g c = roomy c.args.sheet.now c.check_room.ensures.0 c.in_ok-check_room.was
