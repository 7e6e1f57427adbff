-- By the answer: its line alone, or the bench's sheet and the rooms behind it (proofs/Sheet).
use Rattle.lock.proofs.Library.{sym, ◌∙◌, arith}
use Rattle.lock.specs.Refusal.{answer_number}
use Rattle.till.specs.Till.{till_of}
use Rattle.till.proofs.View.{rooms-fit}
use Rattle.text.proofs.Shape.{answer-length}
use Rattle.text.proofs.{Writing.wrote-length, Pages.adds-both}
use Rattle.credit.proofs.Sheet.{short, full}
use Rattle.credit.proofs.put_credit_sheet.Goals as goal

pub put_answer-requires : goal.put_answer-requires
put_answer-requires c =
    record { fits = omega (arith, c.requires.0, answer-length (answer_number c.args.ran.answer) c.args.ran.taken) }

pub returns-then-is_stateless : goal.returns-then-is_stateless
returns-then-is_stateless c =
    let a = c.args in
    rw (short a.ran (till_of a.till.now) a.locks.now a.ledger.now
    (sym c.is_stateless.ensures ∙ c.if-is_stateless.true)) c.put_answer.ensures

pub put_rooms-requires : goal.put_rooms-requires
put_rooms-requires c =
    let w = c.sheet_of_run.ensures in
    let k = c.requires.1 (sym c.is_stateless.ensures ∙ c.if-is_stateless.false) in (
      record {
        fits = omega (
          arith,
          w.1,
          wrote-length w.0.wrote,
          c.requires.0,
          rooms-fit c.args.till.now c.args.ledger.now k.0,
        );
      },
      k.0,
      k.1,
    )

pub returns-else-is_stateless : goal.returns-else-is_stateless
returns-else-is_stateless c =
    let a = c.args in
    adds-both (full a.ran (till_of a.till.now) a.locks.now a.ledger.now
    (sym c.is_stateless.ensures ∙ c.if-is_stateless.false)) c.sheet_of_run.ensures.0 c.put_rooms.ensures
