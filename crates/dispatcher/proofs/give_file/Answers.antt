-- Refused before the first step, or given steps: each is one law of proofs/Answering.
use Prim.{tt}
use Rattle.lock.proofs.Library.{ℕ, ◌+◌, ◌*◌, ◌≡◌, refl, arith, length, length-replicate}
use Rattle.lock.specs.File.{sizes_of, row_count}
use Rattle.dispatcher.specs.Choosing.{way_by}
use Rattle.dispatcher.proofs.Answering.{refused-before, good, in-file, dispatchable, given_so, was-given}
use Rattle.dispatcher.proofs.give_file.Goals as goal

pub returns-in-Err : goal.returns-in-Err
returns-in-Err g c =
    let sizes-is : c.sizes_of-z.result ≡ sizes_of (c.args.file.now) = c.sizes_of-z.ensures in
    rw c.refused.ensures (refused-before c.in-Err.ensures (way_by _ _) tt sizes-is _ refl)

pub slice_bounds-dispatch_rows-end : goal.slice_bounds-dispatch_rows-end
slice_bounds-dispatch_rows-end g c =
    let rows_is : c.rows_of-orders.result ≡ row_count c.args.file.now = c.rows_of-orders.ensures.0 in
    let within : length c.args.file.now ≡ 5 + 2 * c.rows_of-orders.result = in-file _ _ rows_is (good c.in_default.ensures refl) in
    omega (arith, within)

pub dispatch_rows-ran-requires : goal.dispatch_rows-ran-requires
dispatch_rows-ran-requires g c =
    let sizes-is : c.sizes_of-z.result ≡ sizes_of (c.args.file.now) = c.sizes_of-z.ensures in
    let rows_is : c.rows_of-orders.result ≡ row_count c.args.file.now = c.rows_of-orders.ensures.0 in
    let zero : ℕ = 0 in
    let both = dispatchable c.in_default.ensures refl sizes-is rows_is _
    (omega (arith, length-replicate 8192 zero)) in
    (both.0, both.1, c.requires _ both.0.range.threads_least)

pub returns : goal.returns
returns g c =
    let sizes-is : c.sizes_of-z.result ≡ sizes_of (c.args.file.now) = c.sizes_of-z.ensures in
    let rows_is : c.rows_of-orders.result ≡ row_count c.args.file.now = c.rows_of-orders.ensures.0 in
    let zero : ℕ = 0 in
    let h = c.in_default.ensures in
    rw c.store_schedule.ensures
    (was-given h refl sizes-is rows_is (way_by g.C.Choice.chooser _)
    (given_so h refl sizes-is rows_is (g.C.Choice.lawful _) _ (λ r. c.requires _ r.threads_least)) _ _
    (omega (arith, length-replicate 8192 zero)) c.dispatch_rows-ran.ensures tt)
