-- The rows so far are not refused.
use Rattle.lock.proofs.Library.{length}
use Rattle.dispatcher.proofs.Answering.{Passed}
use Rattle.dispatcher.proofs.check_rows.Given as goal

abbrev pub invariant-loop-thread : goal.invariant-loop-thread
invariant-loop-thread l =
    Passed l.z l.threads l.orders (length l.yielded)
