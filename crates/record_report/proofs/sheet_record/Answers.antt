-- What was told, and the locks left, are the record's.
use Rattle.record_report.proofs.Sheet.{sheets}
use Rattle.record_report.proofs.sheet_record.Goals as goal

pub returns-clause-sheets : goal.returns-clause-sheets
returns-clause-sheets c = sheets c.sizes_of.ensures c.hold-told.ensures c.write_told.ensures.asked
