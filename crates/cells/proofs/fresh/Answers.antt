-- The numbers of a fresh thread are 0, and so are those of the array before they are stored (proofs/Begin).
use Rattle.lock.proofs.Library.{◌∙◌, arith}
use Rattle.cells.proofs.Begin.{fresh-thread}
use Rattle.cells.proofs.fresh.Goals as goal

pub loop-t-preserved : goal.loop-t-preserved
loop-t-preserved c =
    c.put_thread.ensures ∙ rw (c.loop-t.invariant, c.fresh-idle.ensures)
    (fresh-thread c.loop-t.t (omega arith))
