-- Nobody is able to move, or the turn is that of the thread that is picked.
use Rattle.lock.proofs.Library.{arith}
use Rattle.dispatcher.proofs.Picking.{pick-there, round-none, round-one}
use Rattle.dispatcher.proofs.GoingRoundChoice.next.Goals as goal

pub returns-then-able-eq0 : goal.returns-then-able-eq0
returns-then-able-eq0 c =
    round-none _ _ _ c.requires.2 c.if-able-eq0.true

pub after_turn-self-requires : goal.after_turn-self-requires
after_turn-self-requires c =
    let there = pick-there _ _ c.requires.0 c.requires.1 _ c.requires.2 c.if-able-eq0.false in
    omega (arith, there, c.requires.0, c.pick_from-t.ensures)

pub returns : goal.returns
returns c =
    round-one _ _ _ _ _ c.requires.2 c.if-able-eq0.false c.pick_from-t.ensures c.after_turn-self.ensures
