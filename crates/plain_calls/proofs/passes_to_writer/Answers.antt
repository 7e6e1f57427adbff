-- Nobody waits, or the writer who has waited longest.
use Rattle.lock.proofs.Library.{ℕ, some}
use Rattle.laws.proofs.Lock.{only, writer, State}
use Rattle.cells.specs.View.{front}
use Rattle.rows.proofs.Rows.{onward}
use Rattle.plain_calls.proofs.Calls.{passed_none, passed-front}
use Rattle.plain_calls.specs.View.{passed}
use Rattle.plain_calls.proofs.passes_to_writer.Goals as goal

pub returns-then-l-eq0 : goal.returns-then-l-eq0
returns-then-l-eq0 c =
    rw (passed_none c.args.l.now c.args.t c.if-l-eq0.true) c.goes_to.ensures

pub returns : goal.returns
returns c =
    let t : ℕ = c.args.t in
    let l = c.args.l.now in
    let w = c.longest_taken-w.ensures in
    rw (passed-front l t c.requires.0 c.if-l-eq0.false)
    (onward (λ (s : State). passed s t (some (writer (only (front l))))) w.0 (rw w.1 at c.hands_over.ensures))
