-- By the three cases of `departed`.
use Rattle.lock.proofs.Library.{sym, ◌∙◌, ne_eqb}
use Rattle.next_row.proofs.after_depart.Goals as goal

pub returns-then-is_zero : goal.returns-then-is_zero
returns-then-is_zero c =
    let a = c.requires.3 in
    rw (ne_eqb _ 0 c.if-c-eq0.false, sym c.is_zero.ensures ∙ c.if-is_zero.true)
    (rw (a.reads _ _ _ _, c.parent_of-up.ensures) at c.goes_at.ensures)
