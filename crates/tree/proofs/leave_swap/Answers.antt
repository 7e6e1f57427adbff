-- A swap of the root.
use Rattle.lock.proofs.Library.{refl, subst}
use Rattle.lock.specs.declared.Word.{Word}
use Rattle.lock.specs.declared.Then.TheVariants.{Leaving}
use Rattle.lock.specs.Word.{closed, same}
use Rattle.lock.specs.Call.{op, ended}
use Rattle.lock.specs.State.{goes}
use Rattle.cells.specs.View.{state_of, Leaves}
use Rattle.rows.proofs.Words.{same-is}
use Rattle.rows.proofs.Rows.{at-root, swap-done, swap-missed}
use Rattle.tree.proofs.leave_swap.Goals as goal

pub returns-then-l-old : goal.returns-then-l-old
unfolding op
returns-then-l-old c =
    let g = c.after_departure in
    let e = c.lowered_direct-new.ensures in
    let a = c.args in
    swap-done _ (at-root c.requires.0) refl c.if-l-old.true e
    (subst (λ (w : Word). Leaves g.new.l
    (goes (state_of a.l.now) a.t (ended a.z.fan Leaving (same w (closed 0 0))))) e
    (rw (same-is _ 1) at g.ensures))
    c.swapped.ensures

pub returns-else-l-old : goal.returns-else-l-old
unfolding op
returns-else-l-old c =
    swap-missed _ (at-root c.requires.0) refl c.if-l-old.false refl
    c.tries_again.ensures
