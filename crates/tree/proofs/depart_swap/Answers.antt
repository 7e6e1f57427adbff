-- A swap of the node.
use Rattle.lock.proofs.Library.{refl, sym, subst}
use Rattle.lock.specs.declared.Word.{Word}
use Rattle.lock.specs.Call.{op, departed}
use Rattle.lock.specs.State.{goes}
use Rattle.cells.specs.View.{node, route, below, state_of, Leaves}
use Rattle.rows.specs.Outcome.{then_of}
use Rattle.rows.proofs.Rows.{at-node, swap-done, swap-missed}
use Rattle.tree.proofs.depart_swap.Goals as goal

pub returns-then-l-c : goal.returns-then-l-c
unfolding op
returns-then-l-c c =
    let g = c.after_depart in
    let e = c.lowered-new.ensures in
    let a = c.args in
    let after = then_of a.pc (route a.l.now a.t) (below a.l.now a.t) in
    swap-done _ (at-node c.requires.0) refl c.if-l-c.true e
    (subst (λ (w : Word). Leaves g.new.l
    (goes (state_of a.l.now) a.t (departed a.z.fan (node a.l.now a.t) after w))) e g.ensures)
    c.swapped.ensures

pub returns-else-l-c : goal.returns-else-l-c
returns-else-l-c c =
    unfold op in let a = c.requires in
    swap-missed _ (at-node a.0) refl c.if-l-c.false (sym (a.2.swaps _ _ _ _)) c.tries_again.ensures
