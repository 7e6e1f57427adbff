-- The rows from place k on are written (proofs/Rows `Walk`).
use Rattle.explore_path.proofs.Rows.{Walk}
use Rattle.explore_path.proofs.put_rows.Given as goal

abbrev pub invariant-loop-k : goal.invariant-loop-k
invariant-loop-k l = Walk l.st l.i l.s l.initial.out l.at l.k l.out
