-- Turns are passed over up to one whose thread is able to move: each way through the body is one of the laws of
-- proofs/Drawing.
use Rattle.std.proofs.lemmas.Option.{MatchOption-at_none}
use Rattle.std.proofs.lemmas.List.{nil_from_length}
use Rattle.drawer.proofs.Drawing.{used-up, none-able, gets, passed_over, is_one, is_none}
use Rattle.drawer.proofs.LentTurnsChoice.next.Goals as goal

pub returns-then-is_able : goal.returns-then-is_able
returns-then-is_able c =
    rw c.from-t.ensures
    (gets _ _ c.loop-turn.invariant c.in-Some.ensures.cases.0
    (is_one _ (rw c.from-t.ensures at c.is_able.ensures) c.if-is_able.true))

pub returns-then-able-eq0 : goal.returns-then-able-eq0
returns-then-able-eq0 c =
    none-able _ _ c.loop-turn.invariant c.if-able-eq0.true

pub loop-turn-preserved : goal.loop-turn-preserved
loop-turn-preserved c =
    passed_over _ _ c.loop-turn.invariant c.in-Some.ensures.cases.0 (is_none c.args.able c.in-Some.turn.now (rw c.from-t.ensures at c.is_able.ensures) c.if-is_able.false)

pub returns : goal.returns
returns c =
    used-up _ _ c.loop-turn.invariant
    (nil_from_length _ (MatchOption-at_none _ _ c.in_default.is c.split_first.ensures.cases))
