-- The line as its first field and its last (`room-is`), one after the other.
use Rattle.lock.specs.Text.{text}
use Rattle.text.proofs.Pages.{fits-head, fits-tail, adds-both}
use Rattle.till.proofs.View.{room-is}
use Rattle.till.proofs.put_room.Goals as goal

pub put_field-requires : goal.put_field-requires
unfolding text
put_field-requires c =
    fits-head _ (room-is _ _) c.requires

pub put_last-requires : goal.put_last-requires
unfolding text
put_last-requires c =
    fits-tail (room-is _ _) c.put_field.ensures
    c.requires

pub returns : goal.returns
unfolding text
returns c =
    adds-both (room-is _ _) c.put_field.ensures
    c.put_last.ensures
