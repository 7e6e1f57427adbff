-- Each way through the loop's body is a law of proofs/Loop.
use Rattle.lock.proofs.Library.{refl}
use Rattle.std.specs.Prelude.{Ok, Err}
use Rattle.file.proofs.Checks.{not-zero}
use Rattle.ticket_lock.proofs.Loop.{finish, nobody, stop, more}
use Rattle.ticket_lock.proofs.run_rows.Goals as goal

pub returns-then-count-t : goal.returns-then-count-t
returns-then-count-t c =
    rw c.handed.ensures
    (nobody c.loop-i.invariant c.requires.sizes c.loop-i-test.true (rw c.from-t.ensures at c.if-count-t.true))

pub returns-in-Err : goal.returns-in-Err
returns-in-Err c =
    rw (c.handed-in-Err.ensures, c.from-t.ensures)
    (stop c.loop-i.invariant c.requires.sizes c.loop-i-test.true (rw c.from-t.ensures at c.if-count-t.false)
    (Err c.in-Err.refusal) (rw (c.in-Err.is, c.from-t.ensures) at c.row.ensures) (not-zero _))

pub loop-i-preserved : goal.loop-i-preserved
loop-i-preserved c =
    rw c.from-t.ensures
    (more c.loop-i.invariant c.requires.sizes c.loop-i-test.true (rw c.from-t.ensures at c.if-count-t.false)
    (Ok tt) (rw (c.in_default.is, c.from-t.ensures) at c.row.ensures) refl)

pub returns : goal.returns
returns c =
    rw c.handed-2.ensures (finish c.loop-i.invariant c.loop-i-test.false)
