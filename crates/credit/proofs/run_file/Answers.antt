-- Refused, or run: each is one law of proofs/Outcome.
use Rattle.lock.proofs.Library.{sym, length, rules}
use Rattle.lock.proofs.Accepted.{second-part}
use Rattle.credit.proofs.Refusal.{orders-inside}
use Rattle.credit.proofs.Outcome.{settleable, ran-credits, denied-credits}
use Rattle.credit.proofs.run_file.Goals as goal

pub returns-in-Err : goal.returns-in-Err
returns-in-Err c =
    let a = c.args in
    rw c.refused.ensures
    (denied-credits a.file.now a.till.now a.journal.now _ _ _ _ c.in-Err.ensures c.sizes_of-sizes.ensures)

pub slice_bounds-settle-count : goal.slice_bounds-settle-count
slice_bounds-settle-count c =
    let a = c.args in
    orders-inside a.file.now a.till.now (length a.journal.now) (sym c.in_default.ensures) c.rows_of-orders.ensures.0

pub slice_bounds-settle-start : goal.slice_bounds-settle-start
slice_bounds-settle-start c =
    let a = c.args in
    orders-inside a.file.now a.till.now (length a.journal.now) (sym c.in_default.ensures) c.rows_of-orders.ensures.0

pub settle-requires : goal.settle-requires
settle-requires c =
    let a = c.args in
    settleable a.file.now a.till.now
    a.journal.now (sym c.in_default.ensures) _ c.items_of.ensures.0 _ _ _ _ c.run_with-ran.ensures _
    (second-part a.file.now c.rows_of-orders.ensures.0) (search rules)

pub returns : goal.returns
returns c =
    let a = c.args in
    rw c.sizes_of-sizes.ensures
    (ran-credits a.file.now a.till.now
    a.journal.now (sym c.in_default.ensures) _ c.items_of.ensures.0 _ _ _ _ c.run_with-ran.ensures _
    (second-part a.file.now c.rows_of-orders.ensures.0) _ _ c.settle.ensures _)
