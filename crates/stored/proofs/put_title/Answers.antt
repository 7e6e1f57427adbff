-- The line as its label and name, and its last field (`title-is`), one after the other.
use Rattle.lock.specs.Text.{text}
use Rattle.text.proofs.Pages.{fits-first, fits-next, adds-next, fits-head, fits-tail, adds-both}
use Rattle.stored.proofs.Shape.{title-is}
use Rattle.stored.proofs.put_title.Goals as goal

pub put_text-requires : goal.put_text-requires
unfolding text
put_text-requires c =
    fits-first c.args.name.now (fits-head _ (title-is c.args.name.now c.args.journal) c.requires)

pub put_text-requires-2 : goal.put_text-requires-2
unfolding text
put_text-requires-2 c =
    fits-next c.put_text.ensures (fits-head _ (title-is _ _) c.requires)

pub put_last-requires : goal.put_last-requires
unfolding text
put_last-requires c =
    fits-tail (title-is _ _) (adds-next c.put_text.ensures c.put_text-2.ensures)
    c.requires

pub returns : goal.returns
unfolding text
returns c =
    adds-both (title-is _ _)
    (adds-next c.put_text.ensures c.put_text-2.ensures)
    c.put_last.ensures
