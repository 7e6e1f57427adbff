-- Refused, or made: its call begun or gone on with, and the calls that are over finished (proofs/Rows).
use Rattle.site_turn.proofs.Rows.{threads-few, there, countable, either-finishable, row-ended}
use Rattle.site_turn.proofs.SiteState.row_of.Goals as goal

pub count_row-requires : goal.count_row-requires
count_row-requires c = countable c.requires.0 c.requires.1

pub finish_row-requires : goal.finish_row-requires
finish_row-requires c = (
  threads-few c.requires.0 c.requires.1,
  there c.requires.0 c.requires.1,
  either-finishable c.requires.0 c.requires.1 c.in_ok-entry.ensures c.count_row.ensures c.begin_if.ensures.is
      c.begin_if.ensures.waiting,
)

pub returns : goal.returns
returns c =
    row-ended c.requires.0 c.requires.1 c.in_ok-entry.ensures c.count_row.ensures c.begin_if.ensures.is c.finish_row.ensures
