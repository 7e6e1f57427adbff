-- Each way out is one law of proofs/Going.
use Rattle.lock.proofs.Library.{arith}
use Rattle.settling.proofs.Going.{few, room-few, balance-fits, books-denied, books-new}
use Rattle.settling.proofs.book.Goals as goal

pub overflow_add-e : goal.overflow_add-e
overflow_add-e c =
    let k = few c.requires in omega arith

pub offset_bounds-ledger-e : goal.offset_bounds-ledger-e
offset_bounds-ledger-e c =
    let k = few c.requires in omega arith

pub bounds-ledger-e : goal.bounds-ledger-e
bounds-ledger-e c =
    let k = few c.requires in omega arith

pub overflow_add-e-2 : goal.overflow_add-e-2
overflow_add-e-2 c =
    let k = few c.requires in omega arith

pub bounds-ledger-room : goal.bounds-ledger-room
bounds-ledger-room c =
    omega (arith, room-few c.requires, c.byte_at-room.ensures.0)

pub amount_of-requires : goal.amount_of-requires
amount_of-requires c =
    few c.requires

pub pay-requires : goal.pay-requires
pay-requires c =
    (rw c.byte_at-room.ensures.0 (omega (arith, balance-fits c.requires)), c.amount_of.ensures.1)

pub returns-in_default : goal.returns-in_default
returns-in_default c =
    books-denied c.requires (λ q. omega arith) c.byte_at-room.ensures.0
    c.amount_of.ensures.0 c.pay.ensures c.in_default.is

pub bounds-ledger-room-2 : goal.bounds-ledger-room-2
bounds-ledger-room-2 c =
    omega (arith, room-few c.requires, c.byte_at-room.ensures.0)

pub overflow_add-ledger : goal.overflow_add-ledger
overflow_add-ledger c =
    let k = few c.requires in omega arith

pub offset_bounds-ledger-e-2 : goal.offset_bounds-ledger-e-2
offset_bounds-ledger-e-2 c =
    let k = few c.requires in omega arith

pub bounds-ledger-e-2 : goal.bounds-ledger-e-2
bounds-ledger-e-2 c =
    let k = few c.requires in omega arith

pub returns : goal.returns
returns c =
    books-new c.requires (λ q. omega arith) c.byte_at-room.ensures.0
    c.amount_of.ensures.0 c.pay.ensures _ c.in-Some.is
