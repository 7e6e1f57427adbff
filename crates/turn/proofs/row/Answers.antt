-- By the order: each way is one law of proofs/Rows. Three orders begin a call of the first lock.
use Rattle.lock.proofs.Library.{arith}
use Rattle.std.proofs.lemmas.Result.{err_from_is_err_and}
use Rattle.step.proofs.Orders.{decode-node}
use Rattle.turn.proofs.Rows.{far-row, there, may-begin, writes, unlocks, locks-by, no_node}
use Rattle.turn.proofs.row.Goals as goal

pub returns-then-z-t : goal.returns-then-z-t
returns-then-z-t c =
    far-row _ _ _ _ c.if-z-t.true

pub check_free-requires : goal.check_free-requires
check_free-requires c =
    there _ _ _ c.requires (omega arith)

pub returns-in_err-check_free-in-1 : goal.returns-in_err-check_free-in-1
returns-in_err-check_free-in-1 c =
    let r = c.from_residual in
    let p = err_from_is_err_and r.result r.ensures.1 in
    let e = c.in_err-check_free-in-1.ensures.barred in
    let law = writes _ _ _ c.requires (omega arith) in
    rw (p.1, p.2, e.0, c.in-1.is) (law.bars e.1)

pub write_lock-requires : goal.write_lock-requires
write_lock-requires c =
    may-begin _ _ _ c.requires (omega arith)

pub check_free-requires-in-2 : goal.check_free-requires-in-2
check_free-requires-in-2 c =
    there _ _ _ c.requires (omega arith)

pub returns-in_err-check_free-in-2 : goal.returns-in_err-check_free-in-2
returns-in_err-check_free-in-2 c =
    let r = c.from_residual-in_err-check_free-in-2 in
    let p = err_from_is_err_and r.result r.ensures.1 in
    let e = c.in_err-check_free-in-2.ensures.barred in
    let law = unlocks _ _ _ c.requires (omega arith) in
    rw (p.1, p.2, e.0, c.in-2.is) (law.bars e.1)

pub unlock-requires : goal.unlock-requires
unlock-requires c =
    may-begin _ _ _ c.requires (omega arith)

pub returns-then-z-n : goal.returns-then-z-n
returns-then-z-n c =
    no_node _ _ _ c.requires (omega arith) _ (omega arith) (omega arith) c.if-z-n.true

pub check_free-requires-in-64-to-95 : goal.check_free-requires-in-64-to-95
check_free-requires-in-64-to-95 c =
    there _ _ _ c.requires (omega arith)

pub returns-in_err-check_free-in-64-to-95 : goal.returns-in_err-check_free-in-64-to-95
returns-in_err-check_free-in-64-to-95 c =
    let r = c.from_residual-in_err-check_free-in-64-to-95 in
    let p = err_from_is_err_and r.result r.ensures.1 in
    let e = c.in_err-check_free-in-64-to-95.ensures.barred in
    let law = locks-by _ _ _ c.requires (omega arith) _ (omega arith) (omega arith) c.if-z-n.false in
    rw (p.1, p.2, e.0) (law.bars e.1)

pub read_lock-requires : goal.read_lock-requires
read_lock-requires c =
    may-begin _ _ _ c.requires (omega arith)

pub returns-in_ok-check_free-in-1 : goal.returns-in_ok-check_free-in-1
returns-in_ok-check_free-in-1 c =
    let law = writes _ _ _ c.requires (omega arith) in
    rw c.in-1.is (law.makes c.in_ok-check_free-in-1.ensures.free c.write_lock.ensures)

pub returns-in_ok-check_free-in-2 : goal.returns-in_ok-check_free-in-2
returns-in_ok-check_free-in-2 c =
    let law = unlocks _ _ _ c.requires (omega arith) in
    rw c.in-2.is (law.makes c.in_ok-check_free-in-2.ensures.free c.unlock.ensures)

pub returns-in_ok-check_free-in-64-to-95 : goal.returns-in_ok-check_free-in-64-to-95
returns-in_ok-check_free-in-64-to-95 c =
    (locks-by _ _ _ c.requires (omega arith) _ (omega arith) (omega arith) c.if-z-n.false).makes
    c.in_ok-check_free-in-64-to-95.ensures.free
    (rw (decode-node c.args.z c.args.order (omega arith) (omega arith) c.if-z-n.false) c.read_lock.ensures)
