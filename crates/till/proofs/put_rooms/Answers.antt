-- After q lines those of the first q rooms are written.
use Rattle.lock.proofs.Library.{arith, ◌<◌, get_or-take, length-take}
use Rattle.text.proofs.Lines.{none, room-line, more}
use Rattle.till.specs.Rooms.{room_line}
use Rattle.till.proofs.Good.{good}
use Rattle.till.proofs.put_rooms.Goals as goal

pub loop-q-init : goal.loop-q-init
loop-q-init c =
    let few = (good c.args.till.now c.requires.1).rooms in
    none room_line (omega (arith, few, c.requires.2, c.rooms_of-rooms.ensures.0)) (rw c.rooms_of-rooms.ensures.0 c.requires.0)

pub put_room-requires : goal.put_room-requires
put_room-requires c =
    let inside : c.loop-q.q < c.rooms_of-rooms.result = omega (arith, simp length-take at c.loop-q-test.true) in
    rw get_or-take (room-line room_line c.loop-q.invariant 0 inside)

pub loop-q-preserved : goal.loop-q-preserved
loop-q-preserved c =
    let inside : c.loop-q.q < c.rooms_of-rooms.result = omega (arith, simp length-take at c.loop-q-test.true) in
    more room_line c.loop-q.invariant 0 inside (rw get_or-take at c.put_room.ensures)
