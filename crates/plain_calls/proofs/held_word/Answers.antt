-- By whether a writer waits.
use Rattle.lock.proofs.Library.{◌≡◌, true, false, arith, get_or, ltb, lt-ltb}
use Rattle.rows.proofs.Words.{open-word, closed-word}
use Rattle.rows.proofs.Rows.{queued-is}
use Rattle.plain_calls.proofs.held_word.Goals as goal

pub returns-then-l-eq0 : goal.returns-then-l-eq0
returns-then-l-eq0 c =
    rw (queued-is c.args.l.now false (rw c.if-l-eq0.true), open-word c.args.n c.requires)

pub returns : goal.returns
returns c =
    let some : ltb 0 (get_or c.args.l.now 35 0) ≡ true = lt-ltb 0 (get_or c.args.l.now 35 0) (omega (arith, c.if-l-eq0.false)) in
    rw (queued-is c.args.l.now true some, closed-word c.args.n c.requires)
