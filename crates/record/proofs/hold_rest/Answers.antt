-- A piece that is the last, or is not held, ends the stream; after any other it goes on.
use Rattle.lock.proofs.Library.{refl, arith}
use Rattle.std.proofs.lemmas.Result.{err_from_is_err_and}
use Rattle.std.specs.Prelude.{Ok, Err}
use Rattle.record_model.specs.Told.{told_of}
use Rattle.record_hold.proofs.Whole.{stands-few}
use Rattle.record.proofs.Stream.{goes_on, ends}
use Rattle.record.proofs.hold_rest.Goals as goal

pub returns-in_err-next : goal.returns-in_err-next
returns-in_err-next g c =
    let p = err_from_is_err_and c.from_residual.result c.from_residual.ensures.1 in
    rw (p.1, p.2) (ends (told_of (Err c.in_err-next.field-0.0)) (c.in_err-next.ensures _ c.loop-next.invariant.stands))

pub returns-then-next-held : goal.returns-then-next-held
returns-then-next-held g c =
    ends (told_of (Ok c.in_ok-next.next)) (c.in_ok-next.ensures _ c.loop-next.invariant.stands)

pub loop-next-smaller : goal.loop-next-smaller
loop-next-smaller g c =
    let m = c.in_ok-next.ensures _ c.loop-next.invariant.stands in
    omega (arith, stands-few {m = c.in_ok-next.next} (m.next (refl {a = 0})))

pub loop-next-preserved : goal.loop-next-preserved
loop-next-preserved g c =
    goes_on (told_of (Ok c.in_ok-next.next)) (c.in_ok-next.ensures _ c.loop-next.invariant.stands) (refl {a = 0})
