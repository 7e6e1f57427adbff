-- One row of a schedule, and a list of rows.
use Rattle.std.specs.Prelude.{ℕ, Bool, true, false, List, eqb, ltb}
use Rattle.std.proofs.Math.Option.{Option, none, some}
use Rattle.std.specs.Prelude.{if◌then◌else◌}
use Rattle.lock.specs.Journal.{Entry}
use Rattle.lock.specs.Phase.{Phase}
use Rattle.lock.specs.Call.{Op, refuse, Order, decode, obey}
pub use Rattle.lock.specs.Machine.{Row, ResultOf, stopped, after, follow}
use Rattle.lock.specs.Machine.{runs}
use Rattle.lock.specs.State.{Sizes, State, thread_at, Outcome, perform}

-- What a row is to its thread, in the phase p. "Checks run in this order, 5 to [7] at each row as it is reached":
-- refusal 5, "thread number T or more", is before the order is looked at
unfoldable pub row_op : Sizes → Phase → Row → Op
unfolding obey
row_op z p r = if ltb r.thread z.threads then obey z.fan p (decode z r.order) else refuse 5

unfoldable pub step : Sizes → State → Row → Outcome
unfolding row_op perform
step z s r = perform z s r.thread (row_op z (thread_at s r.thread).phase r)

-- ---- refusals 5 and 6 of a row that is to begin a call

-- is there no such order?
abbrev pub unknown : Option Order → Bool
unknown none = true
unknown (some o) = false

-- 5, then 6, order 0 counted in, which begins no call; 0 where neither applies
abbrev pub row_refusal : Sizes → Row → ℕ
row_refusal z r =
    if ltb r.thread z.threads
    then (if eqb r.order 0 then 6 else if unknown (decode z r.order) then 6 else 0)
    else 5

-- ---- a list of rows

abbrev pub Result : Type 0
Result = ResultOf State Entry

unfoldable pub run : Sizes → State → List Row → Result
unfolding runs step
run z s rs = runs (step z) s rs
