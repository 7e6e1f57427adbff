-- What the turn is for, and then one law of proofs/At for each.
use Rattle.lock.proofs.Library.{refl}
use Rattle.site_turn.proofs.Over.{one-is}
use Rattle.site_turn.proofs.At.{passed-turn, spent-turn, row-turn}
use Rattle.site_turn.proofs.SiteState.at_turn.Goals as goal

pub returns-in-PassedOver : goal.returns-in-PassedOver
returns-in-PassedOver c = passed-turn c.requires _ c.in-PassedOver.ensures

pub returns-in-Spent : goal.returns-in-Spent
returns-in-Spent c =
    spent-turn c.requires _ c.in-Spent.ensures (one-is c.from.ensures refl) (one-is c.from-in-Spent.ensures refl)

pub returns-in-Row : goal.returns-in-Row
returns-in-Row c = row-turn c.requires _ c.in-Row.ensures c.row_of.ensures
