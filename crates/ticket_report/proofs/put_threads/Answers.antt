-- After t lines those of the first t threads are written; the loop ends at n, or at 64 where n is more.
use Rattle.lock.proofs.Library.{arith}
use Rattle.ticket_model.specs.Sheet.{thread_line}
use Rattle.text.proofs.Lines.{room-line, more, least-none, least-all}
use Rattle.ticket_report.proofs.put_threads.Goals as goal

pub loop-t-init : goal.loop-t-init
loop-t-init c = least-none (thread_line _) c.args.n c.args.threads.now (omega arith) c.requires

pub put_thread-requires : goal.put_thread-requires
put_thread-requires c = room-line (thread_line _) c.loop-t.invariant _ c.loop-t-test.true

pub loop-t-preserved : goal.loop-t-preserved
loop-t-preserved c = more (thread_line _) c.loop-t.invariant _ c.loop-t-test.true c.put_thread.ensures

pub returns : goal.returns
returns c =
    least-all (thread_line _) c.args.n c.args.threads.now (omega arith) c.loop-t.invariant c.loop-t-test.false
