-- Refused by its length, or held: each is one law of proofs/Whole.
use Rattle.lock.proofs.Library.{◌+◌, ◌*◌, length, sym, arith}
use Rattle.std.proofs.lemmas.Result.{err_from_is_err_and}
use Rattle.file.proofs.Checks.{not-zero}
use Rattle.record_model.proofs.File.{length-accepted}
use Rattle.record_hold.proofs.Piece.{piece-most}
use Rattle.record_hold.proofs.Whole.{more-refused, more-held}
use Rattle.record_hold.proofs.hold_more.Goals as goal

pub returns-in_err-check_length : goal.returns-in_err-check_length
returns-in_err-check_length c =
    let p = err_from_is_err_and c.from_residual.result c.from_residual.ensures.1 in
    rw (p.1, p.2) (λ b s. more-refused s _ _ c.in_err-check_length.ensures (not-zero _))

pub overflow_add-result-in-Err : goal.overflow_add-result-in-Err
overflow_add-result-in-Err c =
    let a = c.args in
    let l = length-accepted (8 * a.before + length a.piece.now) (sym c.in_ok-check_length.ensures) in
    omega (arith, l, piece-most c.in-Err.ensures)

pub returns-in-Ok : goal.returns-in-Ok
returns-in-Ok c b s = more-held s _ (sym c.in_ok-check_length.ensures) c.in-Ok.ensures

pub returns-in-Err : goal.returns-in-Err
returns-in-Err c b s = more-held s _ (sym c.in_ok-check_length.ensures) c.in-Err.ensures
