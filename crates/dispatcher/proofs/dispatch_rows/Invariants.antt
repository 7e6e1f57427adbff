-- The invariant is `Going`, and each way through the body is one of its laws (proofs/Going).
use Rattle.dispatcher.proofs.Going.{Going}
use Rattle.dispatcher.proofs.dispatch_rows.Given as goal

abbrev pub invariant-loop-i : goal.invariant-loop-i
invariant-loop-i g l =
    let choice = g.C.Choice in
    Going l.z (choice.lawful l.z.threads) (choice.kept l.initial.choice) l.threads l.orders l.initial.given l.given
    l.locks l.sets l.heads (choice.kept l.choice) l.i
