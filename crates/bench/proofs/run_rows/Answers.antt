-- The invariant is `Sofar`, with the next row's thread; each way through the body is one of its laws (proofs/Loop).
use Rattle.lock.proofs.Library.{◌≡◌, refl, ◌∙◌, arith}
use Rattle.std.proofs.lemmas.Option.{unwrap_or-slice_get}
use Rattle.bench.proofs.Loop.{threads-are, there, turned-there, begun, stop, more, finish}
use Rattle.bench.proofs.run_rows.Goals as goal

pub loop-i-init : goal.loop-i-init
loop-i-init c =
    let p = c.requires in
    let thread = rw (c.copied.ensures, c.first.ensures.value, unwrap_or-slice_get) at c.unwrap_or-next.ensures in
    (begun _ _ _ _ _ p.0.range p.2, λ lt. thread)

pub returns-in-Err : goal.returns-in-Err
returns-in-Err c =
    let now = c.loop-i.invariant in
    let lt = c.loop-i-test.true in
    let long = c.requires.1 in
    rw c.after.ensures
    (stop now.0 c.requires.0 (there _ _ long lt)
    (turned-there _ _ long _ _ lt (c.from-t.ensures ∙ now.1 lt) (rw c.in-Err.is at c.row.ensures)))

pub loop-i-preserved : goal.loop-i-preserved
loop-i-preserved c =
    let now = c.loop-i.invariant in
    let lt = c.loop-i-test.true in
    let long = c.requires.1 in
    let turned = turned-there _ _ long _ _ lt (c.from-t.ensures ∙ now.1 lt) (rw c.in-Ok.is at c.row.ensures) in
    rw c.enter.ensures
    (rw (threads-are _ _ long) at (more now.0 c.requires.0 (there _ _ long lt) turned), λ k. refl)

pub returns : goal.returns
returns c =
    let all : c.loop-i.i ≡ c.args.rows = omega arith in
    rw c.after-2.ensures
    (rw all at (finish c.loop-i.invariant.0 (omega (arith, threads-are c.args.rows c.args.bytes.now c.requires.1))))
