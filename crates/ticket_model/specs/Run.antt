-- One row of a ticket file, and a list of rows.
use Rattle.std.specs.Prelude.{ℕ, List, eqb, ltb, set}
use Rattle.std.specs.Prelude.{if◌then◌else◌}
use Rattle.lock.specs.Machine.{Row, OutcomeOf, taken, refused, ResultOf, runs}
use Rattle.ticket_model.specs.Machine.{Lock, Made, thread_at, obey}

-- no journal: a row that is taken enters nothing
abbrev pub Outcome : Type 0
Outcome = OutcomeOf Lock (Unit {0})

-- the lock after what a row of thread t made
abbrev pub after_row : Lock → ℕ → Made → Lock
after_row s t m = record { ticket = m.ticket; grant = m.grant; threads = set s.threads t m.me }

abbrev pub outcome : Lock → ℕ → Made → Outcome
outcome s t m = if eqb m.answer 0 then taken (after_row s t m) tt else refused m.answer

-- Refusals 5, 6, 7 in this order, at each row as it is reached: 5 is "thread number T or more"
unfoldable pub step : ℕ → Lock → Row → Outcome
unfolding obey
step T s r =
    if ltb r.thread T then outcome s r.thread (obey r.order s.ticket s.grant (thread_at s r.thread))
    else refused 5

-- ---- a list of rows

abbrev pub Result : Type 0
Result = ResultOf Lock (Unit {0})

unfoldable pub run : ℕ → Lock → List Row → Result
unfolding runs step
run T s rs = runs (step T) s rs
