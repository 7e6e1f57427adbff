-- A reader's ticket is not known; any other standing is the tree's, with the failures behind it (proofs/Shape).
use Rattle.lock.proofs.Library.{refl}
use Rattle.lock.specs.Text.{text}
use Rattle.plain_model.specs.Sheet.{plain_standing}
use Rattle.text.proofs.Pages.{fits-case, adds-case, fits-head, fits-tail, adds-both}
use Rattle.thread_line.proofs.Cells.{shown-reading}
use Rattle.plain_report.proofs.Shape.{standing-as}
use Rattle.plain_report.proofs.put_standing.Goals as goal

pub put_text-requires : goal.put_text-requires
unfolding text plain_standing
put_text-requires c =
    fits-case plain_standing (shown-reading _ 0 c.if-pc-eq-READING.true) refl c.requires

pub returns-then-pc-eq-READING : goal.returns-then-pc-eq-READING
unfolding text plain_standing
returns-then-pc-eq-READING c =
    adds-case plain_standing (shown-reading _ 0 c.if-pc-eq-READING.true) refl c.put_text.ensures

pub put_standing-requires : goal.put_standing-requires
unfolding text
put_standing-requires c =
    fits-head _ (standing-as c.args.pc c.if-pc-eq-READING.false) c.requires

pub put_text-requires-else-pc-eq-READING : goal.put_text-requires-else-pc-eq-READING
unfolding text
put_text-requires-else-pc-eq-READING c =
    fits-tail (standing-as c.args.pc c.if-pc-eq-READING.false) c.put_standing.ensures c.requires

pub returns-else-pc-eq-READING : goal.returns-else-pc-eq-READING
unfolding text
returns-else-pc-eq-READING c =
    adds-both (standing-as c.args.pc c.if-pc-eq-READING.false) c.put_standing.ensures c.put_text-else-pc-eq-READING.ensures
