-- Field, standing and last field, one after the other.
use Rattle.lock.specs.Text.{text}
use Rattle.text.proofs.Pages.{fits-one, fits-two, fits-three, adds-three}
use Rattle.thread_line.proofs.Line.{thread-is}
use Rattle.thread_line.proofs.put_thread.Goals as goal

pub put_field-requires : goal.put_field-requires
unfolding text
put_field-requires c =
    fits-one _ _ (thread-is _ _) c.requires

pub put_standing-requires : goal.put_standing-requires
unfolding text
put_standing-requires c =
    fits-two c.put_field.ensures _ (thread-is _ _) c.requires

pub put_last-requires : goal.put_last-requires
unfolding text
put_last-requires c =
    fits-three c.put_field.ensures c.put_standing.ensures (thread-is _ _) c.requires

pub returns : goal.returns
unfolding text
returns c =
    adds-three c.put_field.ensures c.put_standing.ensures (thread-is _ _)
    c.put_last.ensures
