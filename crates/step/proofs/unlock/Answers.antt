-- By the program counter: a thread with another one does not hold.
use Rattle.lock.proofs.Library.{ne_eqb, arith}
use Rattle.lock.specs.Phase.{standing}
use Rattle.lock.specs.Call.{obey}
use Rattle.step.proofs.Phases.{starts, not-holding}
use Rattle.step.proofs.unlock.Goals as goal
use Rattle.step.proofs.unlock.Goals.{in-1, in-2+then-n-eq0, in-2+else-n-eq0}

pub returns-in_default : goal.returns-in_default
unfolding obey standing
returns-in_default c =
    not-holding _ _ c.requires.0 (omega arith) (omega arith)

pub returns : goal.returns
unfolding obey standing
returns c =
    elim c.match-l-t.branch [
      | in-1 w ↦
          rw w.l-is (starts _ _ (rw w.in-1.is) w.goes_to.ensures c.did.ensures)
      | in-2+then-n-eq0 w ↦
          rw w.l-is (starts _ _ (rw (w.in-2.is, w.if-n-eq0.true)) w.goes_to-then-n-eq0.ensures c.did.ensures)
      | in-2+else-n-eq0 w ↦
          rw w.l-is (starts _ _ (rw (w.in-2.is, ne_eqb _ 0 w.if-n-eq0.false)) w.goes_at.ensures c.did.ensures)
    ]
