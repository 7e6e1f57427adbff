-- The rows from place k on are written (proofs/Rows `Walk`).
use Rattle.lock.proofs.Library.{arith}
use Rattle.explore_path.proofs.Rows.{walk_more}
use Rattle.explore_path.proofs.put_rows.Goals as goal

pub loop-k-preserved : goal.loop-k-preserved
loop-k-preserved c =
    walk_more c.loop-k.invariant (let l = c.loop-k-test.true in omega arith) c.requires.1 c.head_at-head.result
    c.head_at-head.ensures.0 c.head_at-head.ensures.1
