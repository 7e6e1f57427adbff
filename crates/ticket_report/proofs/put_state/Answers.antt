-- Ticket, grant and threads, one after the other.
use Rattle.lock.specs.Text.{text}
use Rattle.text.proofs.Pages.{fits-one, fits-two, fits-three, adds-three}
use Rattle.ticket_report.proofs.Shape.{state-two}
use Rattle.ticket_report.proofs.put_state.Goals as goal

pub put_last-requires : goal.put_last-requires
unfolding text
put_last-requires c = fits-one _ _ (state-two _ _) c.requires

pub put_last-requires-2 : goal.put_last-requires-2
unfolding text
put_last-requires-2 c = fits-two c.put_last.ensures _ (state-two _ _) c.requires

pub put_threads-requires : goal.put_threads-requires
unfolding text
put_threads-requires c = fits-three c.put_last.ensures c.put_last-2.ensures (state-two _ _) c.requires

pub returns : goal.returns
unfolding text
returns c = adds-three c.put_last.ensures c.put_last-2.ensures (state-two _ _) c.put_threads.ensures
