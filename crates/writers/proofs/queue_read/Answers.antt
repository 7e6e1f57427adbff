-- A read of the root.
use Rattle.lock.proofs.Library.{refl, arith}
use Rattle.lock.specs.Call.{op}
use Rattle.rows.proofs.Rows.{comes, reads}
use Rattle.writers.proofs.queue_read.Goals as goal

pub returns : goal.returns
returns c =
    unfold op in comes (reads _ _ _ 0 _ _ (omega arith) refl) c.after_queue_read.ensures
    c.did.ensures
