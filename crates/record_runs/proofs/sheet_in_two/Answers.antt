-- What was told, and the locks left, are those of the first bytes.
use Rattle.record_runs.proofs.Fronts.{sheets-front}
use Rattle.record_runs.proofs.sheet_in_two.Goals as goal

pub returns : goal.returns
returns c = sheets-front c.sizes_of.ensures c.hold_in_two-told.ensures c.write_told.ensures.asked
