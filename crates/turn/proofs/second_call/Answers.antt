-- Barred by the first lock, or what the second makes of it (proofs/Rows).
use Rattle.lock.proofs.Library.{sym, ◌∙◌, arith}
use Rattle.pair.specs.Pair.{second}
use Rattle.turn.proofs.Turning.{lowered-begins}
use Rattle.turn.proofs.Rows.{there, barred-second, made-second, small-second}
use Rattle.std.proofs.lemmas.Result.{err_from_is_err_and}
use Rattle.turn.proofs.second_call.Goals as goal

pub is_busy-requires : goal.is_busy-requires
is_busy-requires c =
    there _ _ _ c.requires.0 c.requires.1

pub returns-then-is_busy : goal.returns-then-is_busy
returns-then-is_busy c =
    let p = c.requires in
    barred-second _ _ _ p.0 p.1 _ p.2 (sym c.is_busy.ensures ∙ c.if-is_busy.true)
    (rw c.own_order-own.ensures at c.barred.ensures)

pub begin-requires : goal.begin-requires
begin-requires c =
    let p = c.requires in (
      (p.0.reached second).shaped,
      there _ _ _ p.0 p.1,
      rw c.own_order-own.ensures (lowered-begins c.args.order (λ q. (let h = p.2 in omega arith))),
    )

pub returns-in_err-entry : goal.returns-in_err-entry
returns-in_err-entry c =
    let p = c.requires in
    let e = err_from_is_err_and c.from_residual.result c.from_residual.ensures.1 in
    rw (e.1, e.2)
    (made-second _ _ _ p.0 p.1 _ p.2 (sym c.is_busy.ensures ∙ c.if-is_busy.false)
    (rw (c.own_order-own.ensures, c.in_err-entry.was) at c.begin.ensures))

pub overflow_add-result : goal.overflow_add-result
overflow_add-result c =
    let p = c.requires in
    let k = small-second _ _ _ p.0 p.1 _ p.2 (sym c.is_busy.ensures ∙ c.if-is_busy.false)
    (rw (c.own_order-own.ensures, c.in_ok-entry.was) at c.begin.ensures) in
    record { fits = omega (arith, k) }

pub returns : goal.returns
returns c =
    let p = c.requires in
    made-second _ _ _ p.0 p.1 _ p.2 (sym c.is_busy.ensures ∙ c.if-is_busy.false)
    (rw (c.own_order-own.ensures, c.in_ok-entry.was) at c.begin.ensures)
