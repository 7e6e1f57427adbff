-- By the tests on the program counter: a thread with another one does not hold.
use Rattle.lock.proofs.Library.{refl, rules}
use Rattle.laws.proofs.Lock.{standing}
use Rattle.cells.specs.View.{state_of}
use Rattle.plain_engine.proofs.Orders.{not-holding, does}
use Rattle.plain_engine.proofs.Reach.{at_row}
use Rattle.plain_calls.specs.View.{plain_of}
use Rattle.plain_calls.proofs.Calls.{stands-own}
use Rattle.plain_engine.proofs.unlock.Goals as goal

pub writer_leaves-requires : goal.writer_leaves-requires
writer_leaves-requires c =
    at_row c.requires

pub returns-in-1 : goal.returns-in-1
returns-in-1 c =
    unfold standing in does (rw c.in-1.is) c.writer_leaves.ensures refl

pub reader_leaves-requires : goal.reader_leaves-requires
reader_leaves-requires c =
    at_row c.requires

pub returns-in-2 : goal.returns-in-2
returns-in-2 c =
    unfold standing in does (rw c.in-2.is) c.reader_leaves.ensures refl

pub returns-in_default : goal.returns-in_default
returns-in_default c =
    not-holding c.args.t (stands-own c.requires.reached.stands) (plain_of (state_of c.args.l.now))
    (search rules) (search rules)
