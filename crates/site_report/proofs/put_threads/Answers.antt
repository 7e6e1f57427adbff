-- After t lines those of the first t threads are written.
use Rattle.lock.proofs.Library.{arith}
use Rattle.lock.specs.Text.{text}
use Rattle.text.proofs.Lines.{none, room-shown, more-shown}
use Rattle.site_model.specs.Sheet.{thread_line}
use Rattle.site_report.proofs.Sheet.{thread-is}
use Rattle.site_report.proofs.put_threads.Goals as goal

pub loop-t-init : goal.loop-t-init
loop-t-init c =
    let p = c.requires in
    none (thread_line _) (omega (arith, p.0, p.1.long)) p.2

pub put_line-requires : goal.put_line-requires
unfolding text
put_line-requires c =
    room-shown (thread_line _) c.loop-t.invariant 0 c.loop-t-test.true (λ j l. thread-is _ j _)

pub loop-t-preserved : goal.loop-t-preserved
unfolding text
loop-t-preserved c =
    more-shown (thread_line _) c.loop-t.invariant 0 c.loop-t-test.true (λ j l. thread-is _ j _) c.put_line.ensures
