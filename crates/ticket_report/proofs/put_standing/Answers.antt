-- By the standing.
use Rattle.lock.proofs.Library.{refl, sym, ap}
use Rattle.lock.specs.Text.{text}
use Rattle.ticket_model.specs.Sheet.{distance, standing_field}
use Rattle.text.proofs.Pages.{fits-case, adds-case}
use Rattle.ticket_report.proofs.put_standing.Goals as goal

pub put_text-requires : goal.put_text-requires
unfolding text
put_text-requires c =
    fits-case (standing_field _ _) c.in-Idle.is refl c.requires

pub put_distance-requires : goal.put_distance-requires
unfolding text
put_distance-requires c =
    fits-case (standing_field _ _) c.in-Waiting.is (ap distance (sym c.is_far.ensures)) c.requires

pub put_text-requires-in-Holding : goal.put_text-requires-in-Holding
unfolding text
put_text-requires-in-Holding c =
    fits-case (standing_field _ _) c.in-Holding.is refl c.requires

pub returns-in-Idle : goal.returns-in-Idle
unfolding text
returns-in-Idle c =
    adds-case (standing_field _ _) c.in-Idle.is refl c.put_text.ensures

pub returns-in-Waiting : goal.returns-in-Waiting
unfolding text
returns-in-Waiting c =
    adds-case (standing_field _ _) c.in-Waiting.is
    (ap distance (sym c.is_far.ensures)) c.put_distance.ensures

pub returns-in-Holding : goal.returns-in-Holding
unfolding text
returns-in-Holding c =
    adds-case (standing_field _ _) c.in-Holding.is refl c.put_text-in-Holding.ensures
