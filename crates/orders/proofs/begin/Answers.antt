-- The order's own contract, by the order byte; refusal 6 where there is no such node.
use Rattle.lock.proofs.Library.{arith}
use Rattle.lock.specs.Call.{obey}
use Rattle.lock.specs.State.{perform}
use Rattle.lock.specs.declared.Refusal.TheVariants.{NoSuchOrder}
use Rattle.rows.proofs.Rows.{refuses}
use Rattle.step.proofs.Orders.{decode-far}
use Rattle.orders.proofs.begin.Goals as goal

pub returns-then-z-n : goal.returns-then-z-n
returns-then-z-n c =
    unfold obey perform in refuses NoSuchOrder (omega arith) c.requires.0
    (rw (decode-far c.args.z c.args.order (omega arith) (omega arith) c.if-z-n.true))
