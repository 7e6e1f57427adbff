-- Refused before the first step, or open to steps: each is one law of proofs/Answering.
use Rattle.lock.proofs.Library.{ℕ, ◌≡◌, refl, sym, arith, replicate, length-replicate}
use Rattle.lock.specs.File.{sizes_of, row_count, file_refusal}
use Rattle.lock.proofs.Accepted.{Accepted, accepted-is}
use Rattle.std.proofs.lemmas.Result.{err_from_is_err_and}
use Rattle.file.proofs.Checks.{not-zero}
use Rattle.dispatcher.proofs.Answering.{buffer-refused, sheet-refused, row-refused, row-free, same_rows}
use Rattle.dispatcher.proofs.opens.Goals as goal

pub returns-then-schedule-lt8197 : goal.returns-then-schedule-lt8197
returns-then-schedule-lt8197 c =
    buffer-refused (sym c.in_ok-check_file.ensures) c.if-schedule-lt8197.true

pub returns-in_err-check_room : goal.returns-in_err-check_room
returns-in_err-check_room c =
    let r = c.from_residual-in_err-check_room in
    let p = err_from_is_err_and r.result r.ensures.1 in
    rw (p.1, p.2) (sheet-refused (sym c.in_ok-check_file.ensures) c.if-schedule-lt8197.false c.in_err-check_room.ensures.0 (not-zero _))

pub returns-in-Err : goal.returns-in-Err
returns-in-Err c =
    let ok : file_refusal c.args.file.now ≡ 0 = sym c.in_ok-check_file.ensures in
    let good : Accepted c.args.file.now = accepted-is _ ok in
    let rows_is : c.rows_of-orders.result ≡ row_count (c.args.file.now) = c.rows_of-orders.ensures.0 in
    let sizes-is : c.sizes_of-z.result ≡ sizes_of (c.args.file.now) = c.sizes_of-z.ensures in
    let zero : ℕ = 0 in
    rw c.store_schedule.ensures
    (row-refused ok c.if-schedule-lt8197.false (sym c.in_ok-check_room.ensures.0)
    sizes-is (same_rows (c.args.file.now) _ rows_is good) c.in-Err.ensures
    c.fresh_locks.ensures (replicate 8192 zero) (not-zero _) (omega
    (arith, length-replicate 8192 zero)))

pub returns : goal.returns
returns c =
    let ok : file_refusal c.args.file.now ≡ 0 = sym c.in_ok-check_file.ensures in
    let good : Accepted c.args.file.now = accepted-is _ ok in
    let rows_is : c.rows_of-orders.result ≡ row_count (c.args.file.now) = c.rows_of-orders.ensures.0 in
    let sizes-is : c.sizes_of-z.result ≡ sizes_of (c.args.file.now) = c.sizes_of-z.ensures in
    row-free ok c.if-schedule-lt8197.false (sym c.in_ok-check_room.ensures.0)
    sizes-is (same_rows (c.args.file.now) _ rows_is good) c.in_default.ensures
    c.fresh_locks.ensures refl
