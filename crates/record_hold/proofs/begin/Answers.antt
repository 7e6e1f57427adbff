-- Refused by the first three bytes, or two fresh locks.
use Rattle.lock.proofs.Library.{sym}
use Rattle.std.proofs.lemmas.Result.{err_from_is_err_and}
use Rattle.file.proofs.Checks.{not-zero}
use Rattle.record_hold.proofs.Whole.{begin-refused, begin-fresh}
use Rattle.record_hold.proofs.begin.Goals as goal

pub returns-in_err-check_head : goal.returns-in_err-check_head
returns-in_err-check_head c =
    let p = err_from_is_err_and c.from_residual.result c.from_residual.ensures.1 in
    rw (p.1, p.2) (begin-refused c.args.file.now _ c.in_err-check_head.ensures (not-zero _) _)

pub returns : goal.returns
returns c = begin-fresh c.args.file.now (sym c.in_ok-check_head.ensures) c.fresh_locks.ensures
