-- By whether a writer is queued.
use Rattle.lock.proofs.Library.{false, true, arith, lt-ltb}
use Rattle.cells.specs.View.{queued_writers}
use Rattle.rows.proofs.Words.{open-word, closed-word}
use Rattle.rows.proofs.Rows.{queued-is}
use Rattle.rows.proofs.stored_word.Goals as goal

pub returns-then-l-eq0 : goal.returns-then-l-eq0
returns-then-l-eq0 c =
    rw (queued-is c.args.l.now false (rw c.if-l-eq0.true)) (open-word c.args.n c.requires)

pub returns-else-l-eq0 : goal.returns-else-l-eq0
returns-else-l-eq0 c =
    let l = c.args.l.now in
    let some = c.if-l-eq0.false in
    rw (queued-is l true (lt-ltb 0 (queued_writers l) (omega arith))) (closed-word c.args.n c.requires)
