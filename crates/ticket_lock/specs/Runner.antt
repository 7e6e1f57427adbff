-- What a run leaves, and what the runner promises of a file.
use Rattle.std.specs.Prelude.{◌≡◌, ℕ, ◌≤◌, true, false, List, length, take}
use Rattle.std.proofs.Math.Option.{Option, none, some}
use Rattle.std.specs.Prelude.{if◌then◌else◌}
use Rattle.lock.specs.File.{paired, stateless}
use Rattle.lock.specs.Refusal.{answer_number}
use Rattle.ticket_model.specs.Machine.{fresh}
use Rattle.ticket_model.specs.declared.Lock.{Lock}
use Rattle.ticket_model.specs.Run.{run}
use Rattle.ticket_model.specs.File.{thread_count, start_of, rows_of, ticket_run}
use Rattle.ticket_model.specs.Claims.{history, Promises}
pub use Rattle.ticket_lock.specs.declared.Ran.{Ran}

-- what the checks of a file have shown where its rows are run
pub record Runnable (T : ℕ) (ts os : List ℕ) : Type 0 where
  pub threads : T ≤ 64
  pub matched : length os ≡ length ts

-- the run of the rows with thread numbers ts and orders os gives r
pub record Runs (T start : ℕ) (ts os : List ℕ) (r : Ran) : Type 0 where
  pub answer : answer_number r.answer ≡ (run T (fresh start) (paired ts os)).answer
  pub taken : r.taken ≡ (run T (fresh start) (paired ts os)).taken
  pub threads : r.threads ≡ T
  pub state : r.lock ≡ (run T (fresh start) (paired ts os)).state

-- the state that a run left: none after refusals of the file
abbrev pub state_left : Ran → Option Lock
state_left r = if stateless (answer_number r.answer) then none else some r.lock

-- Document 02, Eleven, of the rows of the file b, after each of them, and of the state handed back.
pub record Promised (b : List ℕ) (s : Lock) : Type 0 where
  pub each : (i : ℕ) → Promises (run (thread_count b) (fresh (start_of b)) (take i (rows_of b))).state
      (history (thread_count b) (fresh (start_of b)) (take i (rows_of b)))
  pub handed : Promises s (history (thread_count b) (fresh (start_of b)) (rows_of b))

-- the file b was run, and r came back
pub record Tickets (b : List ℕ) (r : Ran) : Type 0 where
  pub answer : answer_number r.answer ≡ (ticket_run b).answer
  pub taken : r.taken ≡ (ticket_run b).taken
  pub threads : r.threads ≡ thread_count b
  pub state : state_left r ≡ (ticket_run b).state
  -- "0 means all rows were taken"
  pub whole : answer_number r.answer ≡ 0 → r.taken ≡ length (rows_of b)
  -- no row was run: the lock as it is made with the file's start number, of whose bytes one that is not there is 0
  pub unused : stateless (answer_number r.answer) ≡ true → r.lock ≡ fresh (start_of b)
  pub promised : stateless (answer_number r.answer) ≡ false → Promised b r.lock
