-- The answer's line is first in every sheet; what follows goes by the answer: nothing, or the first lock's lines and
-- then the second's. `numbers` gives the numbers of the clauses.
use Rattle.lock.proofs.Library.{sym, ◌∙◌}
use Rattle.text.proofs.Pages.{fits-head, fits-two, fits-three, adds-three}
use Rattle.report.proofs.Shape.{sheet-is, run_short, run-full}
use Rattle.report.proofs.put_sheet.Goals as goal

pub put_answer-requires : goal.put_answer-requires
put_answer-requires g c = rw c.numbers-came.ensures (fits-head _ (sheet-is _ _ _ _) c.requires)

pub returns-then-is_stateless : goal.returns-then-is_stateless
returns-then-is_stateless g c =
    let short = run_short c.numbers-came.result c.args.one.now c.args.two.now (sym c.is_stateless.ensures ∙ c.if-is_stateless.true) in
    rw (← c.numbers-came.ensures, short) c.put_answer.ensures

pub put_state-requires : goal.put_state-requires
put_state-requires g c =
    let full = run-full c.numbers-came.result c.args.one.now c.args.two.now (sym c.is_stateless.ensures ∙ c.if-is_stateless.false) in
    fits-two c.put_answer.ensures _ full (rw (← c.numbers-came.ensures) at c.requires)

pub put_state-requires-2 : goal.put_state-requires-2
put_state-requires-2 g c =
    let full = run-full c.numbers-came.result c.args.one.now c.args.two.now (sym c.is_stateless.ensures ∙ c.if-is_stateless.false) in
    fits-three c.put_answer.ensures c.put_state.ensures full (rw (← c.numbers-came.ensures) at c.requires)

pub returns : goal.returns
returns g c =
    let full = run-full c.numbers-came.result c.args.one.now c.args.two.now (sym c.is_stateless.ensures ∙ c.if-is_stateless.false) in
    rw (← c.numbers-came.ensures) (adds-three c.put_answer.ensures c.put_state.ensures full c.put_state-2.ensures)
