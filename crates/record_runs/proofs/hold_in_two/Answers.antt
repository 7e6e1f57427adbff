-- Refused by the first three bytes, ended in the first piece, or told of both.
use Rattle.lock.proofs.Library.{ℕ, ◌+◌, ◌-◌, ◌*◌, ◌/◌, length, refl, arith}
use Rattle.std.proofs.lemmas.Result.{err_from_is_err_and}
use Rattle.file.proofs.Checks.{not-zero}
use Rattle.record_hold.proofs.Row.{reason-there}
use Rattle.record_hold.proofs.Whole.{begun}
use Rattle.record_runs.proofs.Fronts.{front-refused, front-half, front-whole}
use Rattle.record_runs.proofs.hold_in_two.Goals as goal

pub returns-in_err-begin : goal.returns-in_err-begin
returns-in_err-begin c =
    let p = err_from_is_err_and c.from_residual.result c.from_residual.ensures.1 in
    rw (p.1, p.2) (front-refused c.args.file.now c.in_err-begin.ensures (not-zero _))

pub returns-in_err-half : goal.returns-in_err-half
returns-in_err-half c =
    let cut : ℕ = 3 + (length c.args.file.now - 3) / 16 * 8 in
    let own = c.sizes_of-z.ensures in
    let p = err_from_is_err_and c.from_residual-in_err-half.result c.from_residual-in_err-half.ensures.1 in
    rw (p.1, p.2) (front-half c.args.file.now cut (omega arith) own
    (c.in_err-half.ensures _ (begun c.in_ok-begin.ensures own refl)) (reason-there _))

pub returns : goal.returns
returns c =
    let cut : ℕ = 3 + (length c.args.file.now - 3) / 16 * 8 in
    let half = c.in_ok-half.ensures _ (begun c.in_ok-begin.ensures c.sizes_of-z.ensures refl) in
    front-whole c.args.file.now cut (omega arith) (c.hold_more-2.ensures _ (half.next refl))
