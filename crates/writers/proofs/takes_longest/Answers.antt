-- Two stores, one after the other, where a writer waits; one where none does.
use Rattle.rows.proofs.Rows.{none-taken, writer-taken}
use Rattle.writers.proofs.takes_longest.Goals as goal

pub returns-then-l-eq0 : goal.returns-then-l-eq0
returns-then-l-eq0 c =
    none-taken c.args.l.now c.requires.0 c.args.t _ c.if-l-eq0.true c.goes_to.ensures

pub returns-else-l-eq0 : goal.returns-else-l-eq0
returns-else-l-eq0 c =
    let w = c.longest_taken-w.ensures in
    writer-taken c.args.l.now c.requires.0 c.args.t _ c.if-l-eq0.false
    (rw (w.0.state, w.1) at c.goes_with.ensures)
