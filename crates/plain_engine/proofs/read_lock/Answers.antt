-- By the test on the program counter: a thread with another one is not idle.
use Rattle.lock.proofs.Library.{refl}
use Rattle.laws.proofs.Lock.{standing}
use Rattle.cells.specs.View.{state_of}
use Rattle.plain_engine.proofs.Orders.{not-idle, does}
use Rattle.plain_engine.proofs.Reach.{at_row}
use Rattle.plain_calls.specs.View.{plain_of}
use Rattle.plain_calls.proofs.Calls.{stands-own}
use Rattle.plain_model.specs.Plain.{read_locks}
use Rattle.plain_engine.proofs.read_lock.Goals as goal

pub read_locks-requires : goal.read_locks-requires
read_locks-requires c =
    at_row c.requires

pub returns-then-l-t-eq-IDLE : goal.returns-then-l-t-eq-IDLE
returns-then-l-t-eq-IDLE c =
    unfold standing in does (rw c.if-l-t-eq-IDLE.true) c.read_locks.ensures refl

pub returns : goal.returns
returns c =
    not-idle c.args.t (stands-own c.requires.reached.stands)
    (read_locks (plain_of (state_of c.args.l.now)) c.args.t) c.if-l-t-eq-IDLE.false
