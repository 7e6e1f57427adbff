-- Each row's own contract at its program counter; behind the last of them a thread sleeps.
use Rattle.lock.proofs.Library.{ℕ, List}
use Rattle.lock.specs.Call.{op}
use Rattle.lock.specs.State.{perform}
use Rattle.cells.specs.View.{node, route, below, seen}
use Rattle.rows.proofs.Rows.{comes, stays}
use Rattle.step.proofs.Phases.{asleep, readers-wake, writer-wakes}
use Rattle.step.proofs.Reach.{counter, bounded, has_room}
use Rattle.execute.proofs.past_tree.Goals as goal

pub write_join-requires : goal.write_join-requires
unfolding op
write_join-requires c =
    let r = c.requires.0 in
    (c.requires.1, has_room r (rw c.in-26.is at (bounded r)))

pub wakes-requires : goal.wakes-requires
wakes-requires c =
    (c.requires.1, readers-wake)

pub wakes-requires-in-35 : goal.wakes-requires-in-35
wakes-requires-in-35 c =
    (c.requires.1, writer-wakes)

pub returns-in_default : goal.returns-in_default
unfolding op perform
returns-in_default c =
    let l : List ℕ = c.args.l.now in
    let t : ℕ = c.args.t in
    comes (rw (asleep _ (node l t) (route l t) (below l t) (seen l t) c.requires.2 c.in_default.in_default-own.rest
    (counter c.requires.0)))
    (stays c.requires.0.reached.shaped) c.did.ensures
