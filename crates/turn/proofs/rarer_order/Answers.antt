-- The second lock's, barred by the second lock, or what the first makes of it (proofs/Rows).
use Rattle.lock.proofs.Library.{sym, ◌∙◌, arith}
use Rattle.pair.specs.Pair.{first}
use Rattle.turn.proofs.Rows.{there, barred-first, made-first}
use Rattle.turn.proofs.rarer_order.Goals as goal

pub is_busy-requires : goal.is_busy-requires
is_busy-requires c =
    there _ _ _ c.requires.0 c.requires.1

pub returns-then-is_busy : goal.returns-then-is_busy
returns-then-is_busy c =
    let p = c.requires in
    barred-first _ _ _ p.0 p.1 _ (λ q. (let h = p.2.past in omega arith))
    c.if-order-gt128.false (sym c.is_busy.ensures ∙ c.if-is_busy.true) c.barred.ensures

pub later_order-requires : goal.later_order-requires
later_order-requires c =
    let p = c.requires in
    ((p.0.reached first).shaped, there _ _ _ p.0 p.1, p.2)

pub returns : goal.returns
returns c =
    let p = c.requires in
    made-first _ _ _ p.0 p.1 _ (λ q. (let h = p.2.past in omega arith))
    c.if-order-gt128.false (sym c.is_busy.ensures ∙ c.if-is_busy.false) c.later_order.ensures
