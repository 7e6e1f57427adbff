-- Each row's own contract at its program counter; the rows that take the mutex, which come last, are held up while
use Rattle.lock.proofs.Library.{arith, ◌≤◌, ℕ, List}
use Rattle.lock.specs.Call.{op}
use Rattle.cells.specs.Layout.{READING}
use Rattle.cells.specs.View.{pc, node, route, below, seen}
use Rattle.rows.proofs.Rows.{comes, stays}
use Rattle.step.proofs.Phases.{unsuited, no-row, leaving-departs, owed-departs, traded-departs, late-held_up}
use Rattle.step.proofs.Reach.{counter, bounded, at, at-node, in_tree}
use Rattle.execute.proofs.go_on.Goals as goal

pub returns-then-l-ne-FREE : goal.returns-then-l-ne-FREE
unfolding op
returns-then-l-ne-FREE c =
    let l : List ℕ = c.args.l.now in
    let t : ℕ = c.args.t in
    comes
    (late-held_up c.args.z l t (node l t) (route l t) (below l t) (seen l t) _ c.if-pc-ge-QUEUE_TAKE.true (counter c.requires)
    c.if-l-ne-FREE.true)
    (stays c.requires.reached.shaped) c.did.ensures

pub look-requires : goal.look-requires
look-requires c =
    at c.requires

pub enter-requires : goal.enter-requires
enter-requires c =
    at c.requires

pub climb-requires : goal.climb-requires
unfolding op
climb-requires c =
    let r = c.requires in in_tree r (rw c.in-5.is at (bounded r))

pub climb_swap-requires : goal.climb_swap-requires
unfolding op
climb_swap-requires c =
    let r = c.requires in in_tree r (rw c.in-6.is at (bounded r))

pub descend-requires : goal.descend-requires
unfolding op
descend-requires c =
    let r = c.requires in in_tree r (rw c.in-7.is at (bounded r))

pub again_swap-requires : goal.again_swap-requires
unfolding op
again_swap-requires c =
    let r = c.requires in in_tree r (rw c.in-8.is at (bounded r))

pub depart-requires : goal.depart-requires
unfolding op
depart-requires c =
    let r = c.requires in
    (at-node r (rw c.in-9.is at (bounded r)), leaving-departs)

pub depart_swap-requires : goal.depart_swap-requires
unfolding op
depart_swap-requires c =
    let r = c.requires in
    (at-node r (rw c.in-10.is at (bounded r)), r.reached.range.fan_least, leaving-departs)

pub depart-requires-in-11 : goal.depart-requires-in-11
unfolding op
depart-requires-in-11 c =
    let r = c.requires in
    (at-node r (rw c.in-11.is at (bounded r)), owed-departs)

pub depart_swap-requires-in-12 : goal.depart_swap-requires-in-12
unfolding op
depart_swap-requires-in-12 c =
    let r = c.requires in
    (at-node r (rw c.in-12.is at (bounded r)), r.reached.range.fan_least, owed-departs)

pub depart-requires-in-13 : goal.depart-requires-in-13
unfolding op
depart-requires-in-13 c =
    let r = c.requires in
    (at-node r (rw c.in-13.is at (bounded r)), traded-departs)

pub depart_swap-requires-in-14 : goal.depart_swap-requires-in-14
unfolding op
depart_swap-requires-in-14 c =
    let r = c.requires in
    (at-node r (rw c.in-14.is at (bounded r)), r.reached.range.fan_least, traded-departs)

pub leave-requires : goal.leave-requires
leave-requires c =
    at c.requires

pub leave_swap-requires : goal.leave_swap-requires
unfolding op
leave_swap-requires c =
    let r = c.requires in (at r, r.reached.range.fan_least)

-- outside calls, idle, writing or reading, there is no row
pub returns-in-0 : goal.returns-in-0
unfolding op
returns-in-0 c =
    let low : pc c.args.l.now c.args.t ≤ READING = omega arith in
    unsuited _ _ c.requires.reached.shaped (no-row c.args.z.fan _ _ _ _ _ low)

pub returns-in-1 : goal.returns-in-1
unfolding op
returns-in-1 c =
    let low : pc c.args.l.now c.args.t ≤ READING = omega arith in
    unsuited _ _ c.requires.reached.shaped (no-row c.args.z.fan _ _ _ _ _ low)

pub returns-in-2 : goal.returns-in-2
unfolding op
returns-in-2 c =
    let low : pc c.args.l.now c.args.t ≤ READING = omega arith in
    unsuited _ _ c.requires.reached.shaped (no-row c.args.z.fan _ _ _ _ _ low)

pub past_tree-requires : goal.past_tree-requires
past_tree-requires c =
    (c.requires, at c.requires, omega arith)
