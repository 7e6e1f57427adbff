-- Every head is at the end first; then each row is linked to the head of its thread, and becomes it.
use Rattle.lock.proofs.Library.{suc, ◌-◌, ◌<◌, ◌≡◌, arith, length, get_or, replicate, length-replicate}
use Rattle.std.proofs.lemmas.List.{get_or-replicate}
use Rattle.dispatch_model.proofs.Source.{linked-none, linked-more}
use Rattle.dispatcher.proofs.link_rows.Goals as goal

pub loop-i-init : goal.loop-i-init
loop-i-init c =
    let rows = length c.args.threads.now in
    linked-none c.args.threads.now (replicate 64 rows) _
    (length-replicate 64 rows, λ u l. get_or-replicate 64 u rows 0 l) c.requires.1

pub loop-i-preserved : goal.loop-i-preserved
loop-i-preserved c =
    let l = c.loop-i in
    let in_rows : l.i - 1 < length c.args.threads.now = omega (arith, l.auto.i, c.loop-i-test.true) in
    let small : get_or c.args.threads.now (l.i - 1) 0 < 64 = c.requires.3 (l.i - 1) in_rows in
    let n : l.i ≡ suc (l.i - 1) = omega (arith, c.loop-i-test.true) in
    rw c.from-who.ensures (linked-more _ _ _ (l.i - 1) in_rows c.requires.2 small (rw n at l.invariant))
