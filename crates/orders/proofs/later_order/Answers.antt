-- The order's own contract, by the order byte; refusal 6 where there is no such order.
use Rattle.lock.proofs.Library.{arith, ◌≤◌}
use Rattle.lock.specs.Call.{obey}
use Rattle.lock.specs.State.{perform}
use Rattle.lock.specs.declared.Refusal.TheVariants.{NoSuchOrder}
use Rattle.rows.proofs.Rows.{refuses}
use Rattle.step.proofs.Orders.{decode-behind, decode-later}
use Rattle.orders.proofs.later_order.Goals as goal

-- no item of the till
pub returns-in_default-2 : goal.returns-in_default-2
returns-in_default-2 c =
    unfold obey perform in let low : 96 ≤ c.args.order = omega arith in
    refuses NoSuchOrder (omega arith) c.requires.0
    (rw (decode-behind c.args.z c.args.order (omega arith) low (omega arith) c.if-order-z.false))

-- any other order, below 96 or from 128 on
pub returns-in_default : goal.returns-in_default
unfolding obey perform
returns-in_default c =
    refuses NoSuchOrder (omega arith) c.requires.0
    (rw (decode-later c.args.z c.args.order c.requires.2 (λ q. omega arith) (λ q. omega arith) (λ q. omega arith)))

pub returns-in_default-3 : goal.returns-in_default-3
unfolding obey perform
returns-in_default-3 c =
    refuses NoSuchOrder (omega arith) c.requires.0
    (rw (decode-later c.args.z c.args.order c.requires.2 (λ q. omega arith) (λ q. omega arith) (λ q. omega arith)))
