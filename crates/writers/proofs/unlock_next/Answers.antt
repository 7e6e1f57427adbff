-- The readers, if any are queued, and else the writer who has waited longest.
use Rattle.lock.proofs.Library.{false}
use Rattle.lock.specs.Call.{op}
use Rattle.rows.proofs.Rows.{comes, next-readers, next-longest}
use Rattle.writers.proofs.unlock_next.Goals as goal
use Rattle.writers.proofs.unlock_next.Goals.{then-b-ne0, else-b-ne0}

pub returns : goal.returns
returns c =
    unfold op in elim c.if-b-ne0.branch [
      | then-b-ne0 w ↦
          rw w.l-is (comes (next-readers _ _ _ _ w.if-b-ne0.true)
          (rw w.write_readers.ensures.state at w.goes_with.ensures) c.did.ensures)
      | else-b-ne0 w ↦
          rw w.l-is (comes (next-longest _ _ _ false _ (rw w.if-b-ne0.false))
          w.takes_longest.ensures c.did.ensures)
    ]
