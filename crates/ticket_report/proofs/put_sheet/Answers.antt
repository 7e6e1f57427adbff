-- The answer's line is first in every sheet; what follows goes by the answer.
use Rattle.lock.proofs.Library.{sym, ◌∙◌}
use Rattle.text.proofs.Pages.{fits-head, fits-tail, adds-both}
use Rattle.ticket_lock.specs.Rows.{ran_on}
use Rattle.ticket_report.proofs.Shape.{sheet-is, run_short, run-full}
use Rattle.ticket_report.proofs.put_sheet.Goals as goal

pub put_answer-requires : goal.put_answer-requires
put_answer-requires c = fits-head _ (sheet-is _ _ _ _) c.requires

pub returns-then-is_stateless : goal.returns-then-is_stateless
returns-then-is_stateless c =
    let ran = ran_on c.args.answered c.args.lock.now in
    rw (run_short ran (sym c.is_stateless.ensures ∙ c.if-is_stateless.true)) c.put_answer.ensures

pub put_state-requires : goal.put_state-requires
put_state-requires c =
    let ran = ran_on c.args.answered c.args.lock.now in
    fits-tail (run-full ran (sym c.is_stateless.ensures ∙ c.if-is_stateless.false)) c.put_answer.ensures
    c.requires

pub returns : goal.returns
returns c =
    let ran = ran_on c.args.answered c.args.lock.now in
    adds-both (run-full ran (sym c.is_stateless.ensures ∙ c.if-is_stateless.false)) c.put_answer.ensures
    c.put_state.ensures
