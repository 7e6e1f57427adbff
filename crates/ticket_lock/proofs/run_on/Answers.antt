-- Refused, or run: each is one law of proofs/Outcome.
use Rattle.lock.proofs.Library.{arith, refl, sym, ◌∙◌}
use Rattle.file.proofs.Checks.{not-zero}
use Rattle.ticket_lock.proofs.Outcome.{ran-tickets, denied-tickets}
use Rattle.ticket_lock.proofs.run_on.Goals as goal

pub returns-in-Err : goal.returns-in-Err
returns-in-Err c =
    rw c.handed.ensures
    (denied-tickets _ _ _ _ _ (rw c.in-Err.is at c.check_file.ensures) (not-zero _) c.threads_of-count.ensures
    c.start_of-start.ensures c.fresh-lock.ensures)

pub returns : goal.returns
returns c =
    ran-tickets c.args.file.now c.rows_of-orders.ensures.0 c.threads_of-count.ensures c.start_of-start.ensures
    (sym c.check_file.ensures ∙ rw c.in_default.is refl) _
    (omega arith) c.run_rows.ensures
