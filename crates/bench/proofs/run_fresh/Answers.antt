-- Refused, or run: each is one law of proofs/Outcome.
use Rattle.lock.proofs.Library.{sym, arith}
use Rattle.bench.proofs.Outcome.{sizes-with, runnable, ran-benches, denied-benches}
use Rattle.bench.proofs.run_fresh.Goals as goal

pub returns-in-Err : goal.returns-in-Err
returns-in-Err c =
    let a = c.args in
    rw c.refused.ensures
    (denied-benches _ a.file.now a.journal.now _ _ c.in-Err.ensures _
    (sizes-with a.file.now c.sizes_of.ensures c.min.ensures))

pub run_rows-requires : goal.run_rows-requires
run_rows-requires c =
    let a = c.args in
    let ran =
    runnable a.file.now _ c.rows_of.ensures.0 _ (omega arith) a.journal.now _
    (sizes-with a.file.now c.sizes_of.ensures c.min.ensures) (sym c.in_default.ensures) in
    (ran.0, ran.1, c.requires (sym c.in_default.ensures))

pub returns : goal.returns
returns c =
    let a = c.args in
    ran-benches a.file.now _ c.rows_of.ensures.0 _ (omega arith) a.journal.now _
    (sizes-with a.file.now c.sizes_of.ensures c.min.ensures)
    (sym c.in_default.ensures) _ _ _ _ c.run_rows.ensures
