-- A record that is not refused is one piece behind its first three bytes.
use Rattle.std.proofs.lemmas.Result.{err_from_is_err_and}
use Rattle.file.proofs.Checks.{not-zero}
use Rattle.record_hold.proofs.Whole.{refused-record}
use Rattle.record_hold.proofs.hold.Goals as goal

pub returns-in_err-check_record : goal.returns-in_err-check_record
returns-in_err-check_record c =
    let p = err_from_is_err_and c.from_residual.result c.from_residual.ensures.1 in
    rw (p.1, p.2) (refused-record c.args.file.now _ c.in_err-check_record.ensures (not-zero _) _)
