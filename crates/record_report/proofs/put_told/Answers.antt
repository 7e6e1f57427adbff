-- The first line, and behind it the second and both locks, where there is a state.
use Rattle.lock.proofs.Library.{sym, ◌∙◌}
use Rattle.text.proofs.Pages.{fits-head, fits-two, fits-three, adds-three, adds-as}
use Rattle.record_report.specs.Numbers.{told_in}
use Rattle.record_report.proofs.Sheet.{head-is, short-is, full_is}
use Rattle.record_report.proofs.put_told.Goals as goal

pub put_answer-requires : goal.put_answer-requires
put_answer-requires c =
    let a = c.args in fits-head _ (head-is a.z (told_in a.told) a.locks.now) c.requires

pub returns-then-is_within : goal.returns-then-is_within
returns-then-is_within c =
    let a = c.args in
    adds-as (short-is a.z (told_in a.told) a.locks.now (sym c.is_within.ensures ∙ c.if-is_within.true))
    c.put_answer.ensures

pub put_entry_if-requires : goal.put_entry_if-requires
put_entry_if-requires c =
    let a = c.args in
    fits-two c.put_answer.ensures _
    (full_is a.z (told_in a.told) a.locks.now (sym c.is_within.ensures ∙ c.if-is_within.false)) c.requires

pub put_both-requires : goal.put_both-requires
put_both-requires c =
    let a = c.args in
    fits-three c.put_answer.ensures c.put_entry_if.ensures
    (full_is a.z (told_in a.told) a.locks.now (sym c.is_within.ensures ∙ c.if-is_within.false)) c.requires

pub returns : goal.returns
returns c =
    let a = c.args in
    adds-three c.put_answer.ensures c.put_entry_if.ensures
    (full_is a.z (told_in a.told) a.locks.now (sym c.is_within.ensures ∙ c.if-is_within.false)) c.put_both.ensures
