-- After t lines those of the first t threads are written; the loop ends at n, or at 64 where n is more.
use Rattle.lock.proofs.Library.{arith}
use Rattle.plain_model.specs.Sheet.{plain_thread_line}
use Rattle.cells.proofs.Parts.{threads-long}
use Rattle.text.proofs.Lines.{room-shown, more-shown, least-none, least-all}
use Rattle.plain_report.proofs.Shape.{thread-shown}
use Rattle.plain_report.proofs.put_threads.Goals as goal

pub loop-t-init : goal.loop-t-init
loop-t-init c =
    least-none plain_thread_line c.args.n _ (omega (arith, threads-long c.args.l.now)) c.requires

pub put_thread-requires : goal.put_thread-requires
put_thread-requires c =
    room-shown plain_thread_line c.loop-t.invariant _ c.loop-t-test.true (thread-shown _)

pub loop-t-preserved : goal.loop-t-preserved
loop-t-preserved c =
    more-shown plain_thread_line c.loop-t.invariant _ c.loop-t-test.true (thread-shown _) c.put_thread.ensures

pub returns : goal.returns
returns c =
    least-all plain_thread_line
    c.args.n _ (omega (arith, threads-long c.args.l.now)) c.loop-t.invariant c.loop-t-test.false
