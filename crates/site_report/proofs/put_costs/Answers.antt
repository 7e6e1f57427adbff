-- Three lines; the calls under way were counted before the first.
use Rattle.lock.specs.Text.{text}
use Rattle.text.proofs.Pages.{fits-one, fits-two, fits-three, adds-three}
use Rattle.site_report.proofs.Sheet.{costs-are}
use Rattle.site_report.proofs.put_costs.Goals as goal

pub put_line-requires : goal.put_line-requires
unfolding text
put_line-requires c = fits-one _ _ (costs-are _ _ c.calls_in.ensures) c.requires.1

pub put_line-requires-2 : goal.put_line-requires-2
unfolding text
put_line-requires-2 c = fits-two c.put_line.ensures _ (costs-are _ _ c.calls_in.ensures) c.requires.1

pub put_line-requires-3 : goal.put_line-requires-3
unfolding text
put_line-requires-3 c =
    fits-three c.put_line.ensures c.put_line-2.ensures (costs-are _ _ c.calls_in.ensures) c.requires.1

pub returns : goal.returns
unfolding text
returns c =
    adds-three c.put_line.ensures c.put_line-2.ensures (costs-are _ _ c.calls_in.ensures) c.put_line-3.ensures
