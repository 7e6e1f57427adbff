-- What the turn is for, by the tests of the code: each way out is one law of proofs/At.
use Rattle.lock.proofs.Library.{arith}
use Rattle.site_turn.proofs.At.{far-for, asleep-for, calling-for, done-for, spent-for, call-for}
use Rattle.site_turn.proofs.SiteState.purpose_of.Goals as goal

pub returns-then-plan-t : goal.returns-then-plan-t
returns-then-plan-t c = far-for c.if-plan-t.true

pub returns-then-pc-eq-ASLEEP : goal.returns-then-pc-eq-ASLEEP
returns-then-pc-eq-ASLEEP c = asleep-for c.requires c.if-plan-t.false c.if-pc-eq-ASLEEP.true

pub returns-then-pc-ge-LOOK : goal.returns-then-pc-ge-LOOK
returns-then-pc-ge-LOOK c = calling-for c.requires c.if-plan-t.false c.if-pc-ge-LOOK.true c.if-pc-eq-ASLEEP.false

pub returns-then-plan-call : goal.returns-then-plan-call
returns-then-plan-call c =
    done-for c.requires c.if-plan-t.false c.if-pc-ge-LOOK.false (omega (arith, c.from-call.ensures))

pub returns-then-self-t-gt0 : goal.returns-then-self-t-gt0
returns-then-self-t-gt0 c =
    spent-for c.requires c.if-plan-t.false c.if-pc-ge-LOOK.false (omega (arith, c.from-call.ensures)) c.if-self-t-gt0.true

pub returns : goal.returns
returns c =
    rw c.from-call.ensures
    (call-for c.requires c.if-plan-t.false c.if-pc-ge-LOOK.false (omega (arith, c.from-call.ensures)) c.if-self-t-gt0.false)
