-- The node number falls at each parent.
use Rattle.lock.proofs.Library.{◌-◌, div-le_self, le-leb, lt-leb, arith}
use Rattle.lock.proofs.Path.{parent-lt, toward-step}
use Rattle.next_row.proofs.+toward_node.Goals as goal

pub returns-then-up-c : goal.returns-then-up-c
returns-then-up-c t c = rw (toward-step _ _ _, ← c.parent_of-up.ensures, le-leb _ _ c.if-up-c.true)

pub toward_node-requires : goal.toward_node-requires
toward_node-requires t c =
    let a = c.args in
    let e = c.parent_of-up.ensures in
    let h = c.if-up-c.false in
    (omega (arith, parent-lt a.f a.n (omega (arith, div-le_self (a.n - 1) a.f))), c.requires)

pub returns-else-up-c : goal.returns-else-up-c
returns-else-up-c t c =
    let a = c.args in
    rw (c.toward_node.ensures, toward-step a.f a.n a.c, ← c.parent_of-up.ensures, lt-leb _ _ c.if-up-c.false)
