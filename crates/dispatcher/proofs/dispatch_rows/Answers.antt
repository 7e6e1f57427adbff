-- The invariant is `Going`, and each way through the body is one of its laws (proofs/Going).
use Rattle.lock.proofs.Library.{ℕ, ◌<◌, ◌≡◌, arith, length-replicate}
use Rattle.lock.specs.File.{paired}
use Rattle.dispatch_model.proofs.Order.{rows_pass}
use Rattle.dispatcher.proofs.Answering.{all_there}
use Rattle.dispatcher.proofs.Going.{going-begun, spent, steppable, in-sets, nobody-next, next-one, next-step}
use Rattle.dispatcher.proofs.dispatch_rows.Goals as goal

pub link_rows-requires : goal.link_rows-requires
link_rows-requires g c =
    let zero : ℕ = 0 in
    let d = c.requires.0 in
    let z = c.args.z in
    let ts = c.args.threads.now in
    let os = c.args.orders.now in
    let there = all_there z ts os d.matched (rows_pass z (paired ts os) d.known) in
    (length-replicate 64 zero, length-replicate 4096 zero, d.few, λ i l. omega (arith, there i l, d.range.threads))

pub loop-i-init : goal.loop-i-init
loop-i-init g c =
    rw c.begun-sets.ensures
    (going-begun _ (g.C.Choice.lawful _) _ c.requires.2 _ _ _ _ _ _ _
    c.requires.0 c.requires.1 c.link_rows.ensures c.who_wants.ensures)

pub returns-in_default : goal.returns-in_default
returns-in_default g c =
    let few : c.loop-i.i < 4096 = omega (arith, c.loop-i-test.true) in
    rw c.after.ensures (nobody-next c.requires.0 c.loop-i.invariant few c.in_default.ensures)

pub next_step-requires : goal.next_step-requires
next_step-requires g c =
    let few : c.loop-i.i < 4096 = omega (arith, c.loop-i-test.true) in
    steppable c.requires.0 c.loop-i.invariant few
    (next-one c.requires.0 c.loop-i.invariant c.in-Some.ensures).0

pub returns-in-Err : goal.returns-in-Err
returns-in-Err g c =
    let few : c.loop-i.i < 4096 = omega (arith, c.loop-i-test.true) in
    rw c.after-in-Err.ensures
    (next-step c.requires.0 c.loop-i.invariant few c.in-Some.ensures c.link_rows.ensures c.in-Err.ensures)

pub overflow_cast-given : goal.overflow_cast-given
overflow_cast-given g c =
    let few : c.loop-i.i < 4096 = omega (arith, c.loop-i-test.true) in
    omega (
      arith,
      in-sets c.requires.0 c.loop-i.invariant few (next-one c.requires.0 c.loop-i.invariant c.in-Some.ensures).0,
    )

pub loop-i-preserved : goal.loop-i-preserved
loop-i-preserved g c =
    let few : c.loop-i.i < 4096 = omega (arith, c.loop-i-test.true) in
    next-step c.requires.0 c.loop-i.invariant few c.in-Some.ensures c.link_rows.ensures c.in-Ok.ensures

pub returns : goal.returns
returns g c =
    let l = c.loop-i in
    let e : l.i ≡ 4096 = omega (arith, l.invariant.sofar.within, c.loop-i-test.false) in
    rw c.after-2.ensures (spent c.requires.0 l.invariant e)
