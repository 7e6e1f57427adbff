-- By the flag.
use Rattle.lock.proofs.Library.{refl}
use Rattle.lock.specs.Text.{text}
use Rattle.ticket_model.specs.Sheet.{distance}
use Rattle.text.proofs.Pages.{fits-case, adds-case}
use Rattle.ticket_report.proofs.put_distance.Goals as goal

pub put_text-requires : goal.put_text-requires
unfolding text
put_text-requires c =
    fits-case distance c.if-far.true refl c.requires

pub put_text-requires-else-far : goal.put_text-requires-else-far
unfolding text
put_text-requires-else-far c =
    fits-case distance c.if-far.false refl c.requires

pub returns-then-far : goal.returns-then-far
unfolding text
returns-then-far c =
    adds-case distance c.if-far.true refl c.put_text.ensures

pub returns-else-far : goal.returns-else-far
unfolding text
returns-else-far c =
    adds-case distance c.if-far.false refl c.put_text-else-far.ensures
