-- By the flag: one of the two texts.
use Rattle.lock.proofs.Library.{refl, sym, ◌∙◌}
use Rattle.lock.specs.Text.{text}
use Rattle.lock.specs.Sheet.{closed_field}
use Rattle.text.proofs.Pages.{fits-case, adds-case}
use Rattle.lines.proofs.put_closed.Goals as goal

pub put_text-requires : goal.put_text-requires
unfolding text
put_text-requires c =
    fits-case closed_field (sym c.is_closed.ensures ∙ c.if-is_closed.true) refl c.requires

pub put_text-requires-else-is_closed : goal.put_text-requires-else-is_closed
unfolding text
put_text-requires-else-is_closed c =
    fits-case closed_field (sym c.is_closed.ensures ∙ c.if-is_closed.false) refl c.requires

pub returns-then-is_closed : goal.returns-then-is_closed
unfolding text
returns-then-is_closed c =
    adds-case closed_field (sym c.is_closed.ensures ∙ c.if-is_closed.true) refl c.put_text.ensures

pub returns-else-is_closed : goal.returns-else-is_closed
unfolding text
returns-else-is_closed c =
    adds-case closed_field (sym c.is_closed.ensures ∙ c.if-is_closed.false) refl c.put_text-else-is_closed.ensures
