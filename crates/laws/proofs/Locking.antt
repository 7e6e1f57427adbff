-- The lock locks: requests Six to Eight, of every list of rows.
use Rattle.laws.proofs.Lock.{arith, List, take, state_at, Sizes, Row, InRange}
use Rattle.laws.specs.Locking.{Locking}
use Rattle.laws.proofs.Runs.{held}
use Rattle.laws.proofs.Locks.{locks-of, departs-of}
use Rattle.laws.proofs.Stage.{inv_at}
use Rattle.laws.proofs.Late.{in-time}
use Rattle.laws.proofs.Holding.{holds_on}
use Rattle.laws.proofs.Restoring.{restored, ends}
use Rattle.laws.proofs.Sleeping.{remembers}
use Rattle.laws.proofs.Success.{arrives, woken-without, at-most-once}

pub locking : (z : Sizes) → InRange z → (rs : List Row) → Locking z rs
locking z range rs =
    record {
      locks = λ i. locks-of z (state_at z rs i) (inv_at z range rs i);
      holds_on = holds_on z range rs;
      in_time = in-time z range rs;
      arrives = arrives z range rs;
      woken = woken-without z range rs;
      once = at-most-once z range rs;
      departs = λ i. departs-of z (state_at z rs i) (inv_at z range rs i);
      unused = λ q. let f = (held z range rs).finished.of_row (λ e. omega arith) in omega arith;
      restored = restored z range rs;
      ends = λ i. ends z range (take i rs);
      remembers = λ i. remembers z range (take i rs);
    }
