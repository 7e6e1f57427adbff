-- A reader joins, and is to sleep.
use Rattle.lock.proofs.Library.{false}
use Rattle.lock.specs.Call.{op}
use Rattle.rows.proofs.Rows.{joins}
use Rattle.writers.proofs.queue_join.Goals as goal

pub returns : goal.returns
unfolding op
returns c =
    joins _ _ _ false _ c.reader_joins.ensures c.goes_to.ensures
    c.did.ensures
