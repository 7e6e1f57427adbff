-- Title, sheet, journal and the rows not run, one after the other. The journal that is listed is the one that the run
use Rattle.text.proofs.Pages.{fits-first, fits-next, fits-head}
use Rattle.stored.proofs.Shape.{run_is}
use Rattle.stored.proofs.Parts.{fits-journal, fits-left, adds-run}
use Rattle.stored.proofs.put_run.Goals as goal

pub put_title-requires : goal.put_title-requires
put_title-requires c =
    let e = c.requires in
    fits-first _ (fits-first _ (fits-head _ (run_is _ _ _ _ _ _) e.0))

pub put_sheet-requires : goal.put_sheet-requires
put_sheet-requires c =
    let e = c.requires in
    fits-next c.put_title.ensures (fits-first _ (fits-head _ (run_is _ _ _ _ _ _) e.0))

pub put_journal-requires : goal.put_journal-requires
put_journal-requires c =
    let e = c.requires in
    let p = c.put_sheet.ensures in
    fits-journal _ _ _ _ _ _ p.1 c.put_title.ensures p.0 e.0 e.1

pub put_left-requires : goal.put_left-requires
put_left-requires c =
    let e = c.requires in
    let p = c.put_sheet.ensures in
    fits-left _ _ _ _ _ _ p.1 c.put_title.ensures p.0 c.put_journal.ensures e.0

pub returns : goal.returns
returns c =
    let p = c.put_sheet.ensures in
    adds-run _ _ _ _ _ _ p.1 c.put_title.ensures p.0 c.put_journal.ensures c.put_left.ensures
