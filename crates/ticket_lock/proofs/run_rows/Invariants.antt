-- The loop keeps `Sofar`.
use Rattle.ticket_lock.proofs.Loop.{Sofar}
use Rattle.ticket_lock.proofs.run_rows.Given as goal

abbrev pub invariant-loop-i : goal.invariant-loop-i
invariant-loop-i l = Sofar l.count l.start l.threads l.orders l.ticket l.grant l.lock.threads l.i
