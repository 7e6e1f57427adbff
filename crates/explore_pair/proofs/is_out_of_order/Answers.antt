-- By the order, and by the program counter (proofs/Pairs `idle-is`).
use Rattle.lock.proofs.Library.{ap, ◌∙◌, not, get_or, []}
use Rattle.turn.specs.Turn.{pair_in}
use Rattle.explore_pair.proofs.Pairs.{idle-is}
use Rattle.explore_pair.proofs.is_out_of_order.Goals as goal

pub returns-then-not-asks_first : goal.returns-then-not-asks_first
returns-then-not-asks_first c =
    rw (c.asks_first.ensures (pair_in c.args.ls.now) c.args.t ∙ c.if-not-asks_first.true)

pub returns : goal.returns
returns c =
    rw (c.asks_first.ensures (pair_in c.args.ls.now) c.args.t ∙ c.if-not-asks_first.false)
    (ap not (idle-is (get_or c.args.ls.now 1 []) c.args.t c.requires.1))
