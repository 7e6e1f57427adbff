-- After q lines those of the first q rooms are written.
use Rattle.text.proofs.Lines.{Sofar}
use Rattle.till.specs.Rooms.{room_line}
use Rattle.till.proofs.put_rooms.Given as goal

abbrev pub invariant-loop-q : goal.invariant-loop-q
invariant-loop-q l =
    Sofar room_line l.initial.page l.rooms l.ledger l.page l.q
