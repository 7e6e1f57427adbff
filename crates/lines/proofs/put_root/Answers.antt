-- The two counts and the flag, one after the other.
use Rattle.lock.specs.Text.{text, decimal}
use Rattle.lock.proofs.Library.{◌++◌, ◌/◌}
use Rattle.text.proofs.Pages.{fits-one, fits-two, fits-three, adds-three}
use Rattle.lines.proofs.Shape.{root_is}
use Rattle.lines.proofs.put_root.Goals as goal

pub put_field-requires : goal.put_field-requires
unfolding text
put_field-requires c =
    rw c.direct_of.ensures (fits-one (text " " ++ decimal (c.args.v / 131072)) _ (root_is _) c.requires)

pub put_field-requires-2 : goal.put_field-requires-2
unfolding text
put_field-requires-2 c =
    let direct = rw c.direct_of.ensures at c.put_field.ensures in
    rw c.tree_of.ensures (fits-two direct _ (root_is _) c.requires)

pub put_closed-requires : goal.put_closed-requires
unfolding text
put_closed-requires c =
    let direct = rw c.direct_of.ensures at c.put_field.ensures in
    let tree = rw c.tree_of.ensures at c.put_field-2.ensures in
    fits-three direct tree (root_is _) c.requires

pub returns : goal.returns
unfolding text
returns c =
    let direct = rw c.direct_of.ensures at c.put_field.ensures in
    let tree = rw c.tree_of.ensures at c.put_field-2.ensures in
    adds-three direct tree (root_is _) c.put_closed.ensures
