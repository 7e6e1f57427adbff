-- The counters have this thread among those that they count (proofs/Over).
use Rattle.lock.proofs.Library.{arith}
use Rattle.site_model.specs.Tally.{is_write_lock, is_read_lock}
use Rattle.site_model.proofs.Counts.{one-le}
use Rattle.site_turn.proofs.Over.{few-waiting, counted-among, reordered-waiting, one-is}
use Rattle.site_turn.proofs.SiteState.set_order.Goals as goal

pub overflow_add-self : goal.overflow_add-self
overflow_add-self c =
    omega (arith, few-waiting c.requires.1, one-is c.from.ensures c.is_write_lock.ensures, one-le (is_write_lock c.args.order))

pub overflow_sub-self : goal.overflow_sub-self
overflow_sub-self c =
    omega (arith, counted-among c.requires.1 c.args.t c.requires.0, one-is c.from-2.ensures c.is_write_lock-2.ensures)

pub overflow_add-self-2 : goal.overflow_add-self-2
overflow_add-self-2 c =
    omega (arith, few-waiting c.requires.1, one-is c.from-3.ensures c.is_read_lock.ensures, one-le (is_read_lock c.args.order))

pub overflow_sub-self-2 : goal.overflow_sub-self-2
overflow_sub-self-2 c =
    omega (arith, counted-among c.requires.1 c.args.t c.requires.0, one-is c.from-4.ensures c.is_read_lock-2.ensures)

pub returns-clause-waiting : goal.returns-clause-waiting
returns-clause-waiting c =
    rw (
      one-is c.from.ensures c.is_write_lock.ensures,
      one-is c.from-2.ensures c.is_write_lock-2.ensures,
      one-is c.from-3.ensures c.is_read_lock.ensures,
      one-is c.from-4.ensures c.is_read_lock-2.ensures,
    )
    (reordered-waiting c.requires.1 c.args.t c.requires.0 c.args.order)
