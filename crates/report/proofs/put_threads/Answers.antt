-- After t lines those of the first t threads are written; the loop ends at n, or at 64 where n is more.
use Rattle.lock.proofs.Library.{refl, arith, rules}
use Rattle.lock.specs.Sheet.{thread_line}
use Rattle.cells.proofs.Parts.{threads-long}
use Rattle.text.proofs.Pages.{let-go}
use Rattle.text.proofs.Lines.{room-shown, more-shown, least-none, least-all}
use Rattle.thread_line.proofs.Cells.{thread-shown}
use Rattle.report.proofs.put_threads.Goals as goal

pub loop-t-init : goal.loop-t-init
loop-t-init c = least-none thread_line c.args.n _ (omega (arith, threads-long c.args.l.now)) (record { fits = c.requires.fits })

pub put_thread-requires : goal.put_thread-requires
put_thread-requires c =
    rw c.failures_of.ensures (room-shown thread_line c.loop-t.invariant _ c.loop-t-test.true (thread-shown _))

pub loop-t-preserved : goal.loop-t-preserved
loop-t-preserved c =
    more-shown thread_line c.loop-t.invariant _
    c.loop-t-test.true (thread-shown _) (rw c.failures_of.ensures at c.put_thread.ensures)

pub returns : goal.returns
returns c =
    let all = least-all thread_line c.args.n _ (omega (arith, threads-long c.args.l.now)) c.loop-t.invariant c.loop-t-test.false in
    record { same = refl; wrote = let-go all (search rules) }
