-- The count, which is the word's direct arrivals, and the flag, one after the other.
use Rattle.lock.specs.Text.{text}
use Rattle.text.proofs.Pages.{fits-head, fits-tail, adds-both}
use Rattle.plain_report.proofs.Shape.{root_is}
use Rattle.plain_report.proofs.put_root.Goals as goal

pub put_field-requires : goal.put_field-requires
unfolding text
put_field-requires c =
    rw c.direct_of.ensures (fits-head _ (root_is _) c.requires)

pub put_closed-requires : goal.put_closed-requires
unfolding text
put_closed-requires c =
    fits-tail (root_is _) (rw c.direct_of.ensures at c.put_field.ensures) c.requires

pub returns : goal.returns
unfolding text
returns c =
    adds-both (root_is _) (rw c.direct_of.ensures at c.put_field.ensures) c.put_closed.ensures
