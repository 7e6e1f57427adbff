-- The first lock's lines, then the second's.
use Rattle.text.proofs.Pages.{fits-head, fits-tail, adds-both}
use Rattle.record_report.proofs.Sheet.{pair_is}
use Rattle.record_report.proofs.put_both.Goals as goal

pub put_state-requires : goal.put_state-requires
put_state-requires c =
    fits-head _ (pair_is _ _) c.requires

pub put_state-requires-2 : goal.put_state-requires-2
put_state-requires-2 c =
    fits-tail (pair_is _ _) c.put_state.ensures c.requires

pub returns : goal.returns
returns c =
    adds-both (pair_is _ _) c.put_state.ensures c.put_state-2.ensures
