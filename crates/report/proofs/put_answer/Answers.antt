-- The line as its first field and its last (`answer-is`), one after the other.
use Rattle.lock.specs.Text.{text}
use Rattle.text.proofs.Shape.{answer-is}
use Rattle.text.proofs.Pages.{fits-head, fits-tail, adds-both}
use Rattle.report.proofs.put_answer.Goals as goal

pub put_field-requires : goal.put_field-requires
unfolding text
put_field-requires c =
    rw c.from.ensures (fits-head _ (answer-is _ _) c.requires)

pub put_last-requires : goal.put_last-requires
unfolding text
put_last-requires c =
    fits-tail (answer-is _ _) (rw c.from.ensures at c.put_field.ensures) c.requires

pub returns : goal.returns
unfolding text
returns c =
    adds-both (answer-is _ _) (rw c.from.ensures at c.put_field.ensures) c.put_last.ensures
