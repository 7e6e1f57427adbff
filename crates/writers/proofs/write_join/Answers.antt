-- A writer joins, and is to sleep.
use Rattle.lock.proofs.Library.{true}
use Rattle.lock.specs.Call.{op}
use Rattle.rows.proofs.Rows.{joins}
use Rattle.writers.proofs.write_join.Goals as goal

pub returns : goal.returns
unfolding op
returns c =
    joins _ _ _ true _ c.writer_joins.ensures c.goes_to.ensures
    c.did.ensures
