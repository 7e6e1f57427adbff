-- The line as its first field and its last (`answer-is`), one after the other.
use Rattle.lock.proofs.Library.{◌∙◌}
use Rattle.lock.specs.Text.{text}
use Rattle.text.proofs.Shape.{answer-is}
use Rattle.text.proofs.Pages.{fits-head, fits-tail, adds-both}
use Rattle.text.proofs.Page.put_answer.Goals as goal

pub put_field-requires : goal.put_field-requires
unfolding text
put_field-requires c =
    let number = c.from.ensures ∙ c.answer_number.ensures in
    rw number (fits-head _ (answer-is _ _) c.requires)

pub put_last-requires : goal.put_last-requires
unfolding text
put_last-requires c =
    let number = c.from.ensures ∙ c.answer_number.ensures in
    fits-tail (answer-is _ _) (rw number at c.put_field.ensures) c.requires

pub returns : goal.returns
unfolding text
returns c =
    let number = c.from.ensures ∙ c.answer_number.ensures in
    adds-both (answer-is _ _) (rw number at c.put_field.ensures) c.put_last.ensures
