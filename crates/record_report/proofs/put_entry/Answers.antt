-- Two fields, and the value.
use Rattle.lock.specs.Text.{text}
use Rattle.text.proofs.Pages.{fits-one, fits-two, fits-three, adds-three}
use Rattle.record_report.proofs.Sheet.{entry-is}
use Rattle.record_report.proofs.put_entry.Goals as goal

pub put_field-requires : goal.put_field-requires
unfolding text
put_field-requires c =
    unfold text in fits-one _ _ (entry-is _ _ _) c.requires

pub put_field-requires-2 : goal.put_field-requires-2
unfolding text
put_field-requires-2 c =
    unfold text in fits-two c.put_field.ensures _ (entry-is _ _ _) c.requires

pub put_value-requires : goal.put_value-requires
unfolding text
put_value-requires c =
    fits-three c.put_field.ensures c.put_field-2.ensures (entry-is _ _ _) c.requires

pub returns : goal.returns
unfolding text
returns c =
    adds-three c.put_field.ensures c.put_field-2.ensures (entry-is _ _ _) c.put_value.ensures
