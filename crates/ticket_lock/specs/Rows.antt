-- What the code has of a row and of a run, as the definitions' values.
use Rattle.std.specs.Prelude.{ℕ, List, Result}
use Rattle.lock.specs.declared.Refusal.{Refusal}
use Rattle.lock.specs.Refusal.{answer_number}
use Rattle.ticket_model.specs.declared.Thread.{Thread}
use Rattle.ticket_model.specs.declared.Lock.{Lock}
use Rattle.ticket_model.specs.declared.Made.{Made}
use Rattle.ticket_lock.specs.declared.Ran.{Ran}
use Rattle.ticket_lock.specs.declared.Answered.{Answered}

-- what a row came to that gave this, by the ticket, the grant and the thread that it left
abbrev pub made_by : Result (Unit {0}) Refusal → ℕ → ℕ → Thread → Made
made_by answer n g h = record { answer = answer_number answer; ticket = n; grant = g; me = h }

abbrev pub lock_of : ℕ → ℕ → List Thread → Lock
lock_of ticket grant hs = record { ticket = ticket; grant = grant; threads = hs }

abbrev pub ran_to : Result (Unit {0}) Refusal → ℕ → ℕ → Lock → Ran
ran_to answer taken T s = record { answer = answer; taken = taken; threads = T; lock = s }

-- what a run on a lent lock came to, with the lock that it left
abbrev pub ran_on : Answered → Lock → Ran
ran_on a s = ran_to a.answer a.taken a.threads s
