-- Field, then standing.
use Rattle.lock.specs.Text.{text}
use Rattle.text.proofs.Pages.{fits-head, fits-tail, adds-both}
use Rattle.ticket_report.proofs.Shape.{thread-is}
use Rattle.ticket_report.proofs.put_thread.Goals as goal

pub put_field-requires : goal.put_field-requires
unfolding text
put_field-requires c =
    fits-head _ (thread-is _ _ _) c.requires

pub put_standing-requires : goal.put_standing-requires
unfolding text
put_standing-requires c =
    fits-tail (thread-is _ _ _) c.put_field.ensures c.requires

pub returns : goal.returns
unfolding text
returns c =
    adds-both (thread-is _ _ _) c.put_field.ensures c.put_standing.ensures
