-- The line as its first field and its last (`node-is`), one after the other.
use Rattle.lock.specs.Text.{text}
use Rattle.text.proofs.Pages.{fits-head, fits-tail, adds-both}
use Rattle.lines.proofs.Shape.{node-is}
use Rattle.lines.proofs.put_node.Goals as goal

pub put_field-requires : goal.put_field-requires
unfolding text
put_field-requires c =
    fits-head _ (node-is _ _) c.requires

pub put_last-requires : goal.put_last-requires
unfolding text
put_last-requires c =
    rw c.tree_of.ensures (fits-tail (node-is _ _) c.put_field.ensures c.requires)

pub returns : goal.returns
unfolding text
returns c =
    adds-both (node-is _ _) c.put_field.ensures
    (rw c.tree_of.ensures at c.put_last.ensures)
