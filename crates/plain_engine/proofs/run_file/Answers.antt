-- Refused, or run: each is one law of proofs/Outcome.
use Rattle.lock.proofs.Library.{refl, sym, ◌∙◌}
use Rattle.file.proofs.Checks.{not-zero}
use Rattle.plain_engine.proofs.Outcome.{ran-benches, denied-benches}
use Rattle.plain_engine.proofs.run_file.Goals as goal

pub returns-in-Err : goal.returns-in-Err
returns-in-Err c =
    rw c.refused.ensures
    (denied-benches _ _ _ _ (rw c.in-Err.is at c.check_file.ensures) (not-zero _) c.sizes_of-sizes.ensures)

pub returns : goal.returns
returns c =
    ran-benches c.args.file.now _ c.rows_of-orders.ensures.0 _ c.sizes_of-sizes.ensures
    (sym c.check_file.ensures ∙ rw c.in_default.is refl) _ _ _ c.run_calls.ensures
