-- Label, mutex, the number of groups and the last field, one after the other.
use Rattle.lock.proofs.Library.{◌++◌}
use Rattle.lock.specs.Text.{text, decimal}
use Rattle.lock.specs.Sheet.{mutex_field}
use Rattle.cells.specs.Kept.{holder}
use Rattle.lines.specs.Shown.{group_count}
use Rattle.text.proofs.Pages.{fits-first, fits-next, adds-next, fits-one, fits-two, fits-three, adds-three}
use Rattle.lines.proofs.Shape.{queue-is}
use Rattle.lines.proofs.put_queue.Goals as goal

pub put_text-requires : goal.put_text-requires
unfolding text
put_text-requires c =
    fits-first (mutex_field (holder c.args.mutex))
    (fits-one (text " " ++ decimal (group_count c.args.readers c.args.writers)) _ (queue-is _ _ _) c.requires)

pub put_mutex-requires : goal.put_mutex-requires
unfolding text
put_mutex-requires c =
    fits-next c.put_text.ensures (fits-one _ _ (queue-is _ _ _) c.requires)

pub put_field-requires : goal.put_field-requires
unfolding text
put_field-requires c =
    rw c.group_count-groups.ensures
    (fits-two (adds-next c.put_text.ensures c.put_mutex.ensures) _ (queue-is _ _ _) c.requires)

pub put_last-requires : goal.put_last-requires
unfolding text
put_last-requires c =
    let grouped = rw c.group_count-groups.ensures at c.put_field.ensures in
    fits-three (adds-next c.put_text.ensures c.put_mutex.ensures) grouped (queue-is _ _ _) c.requires

pub returns : goal.returns
unfolding text
returns c =
    let grouped = rw c.group_count-groups.ensures at c.put_field.ensures in
    adds-three (adds-next c.put_text.ensures c.put_mutex.ensures) grouped (queue-is _ _ _)
    c.put_last.ensures
