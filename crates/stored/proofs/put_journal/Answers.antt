-- The lines of the two parts of the journal, one after the other (proofs/Parts `arrays-are`).
use Rattle.lock.specs.Text.{text}
use Rattle.text.proofs.Pages.{fits-head, fits-tail, adds-both}
use Rattle.stored.proofs.Parts.{arrays-are}
use Rattle.stored.proofs.put_journal.Goals as goal

pub put_line-requires : goal.put_line-requires
unfolding text
put_line-requires c =
    fits-head _ (arrays-are _ _) c.requires.0

pub put_line-requires-2 : goal.put_line-requires-2
unfolding text
put_line-requires-2 c =
    fits-tail (arrays-are _ _) c.put_line.ensures c.requires.0

pub returns : goal.returns
unfolding text
returns c =
    adds-both (arrays-are _ _)
    c.put_line.ensures
    c.put_line-2.ensures
