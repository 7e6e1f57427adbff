-- Refused, or compared: each is one law of proofs/Row.
use Rattle.record_hold.proofs.Row.{row-compared}
use Rattle.record_hold.proofs.hold_row.Goals as goal

pub returns : goal.returns
returns c =
    row-compared c.in_ok-entry.ensures c.value_in.result c.value_in.ensures c.recorded.result c.recorded.ensures.entry
    c.recorded.ensures.value _ c.compare.ensures
