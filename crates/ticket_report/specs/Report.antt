-- The sheet of what a run left, and of a file.
use Rattle.std.specs.Prelude.{◌≡◌, ℕ, List}
use Rattle.std.proofs.Math.Option.{some}
use Rattle.lock.specs.Refusal.{answer_number}
use Rattle.text.specs.Asked.{Asked}
use Rattle.ticket_model.specs.declared.Lock.{Lock}
use Rattle.ticket_model.specs.File.{ticket_run}
use Rattle.ticket_model.specs.Sheet.{sheet_of, sheet}
use Rattle.ticket_lock.specs.declared.Ran.{Ran}
use Rattle.ticket_lock.specs.Runner.{state_left, Promised}

abbrev pub sheet_of_run : Ran → List ℕ
sheet_of_run r = sheet_of r.threads (answer_number r.answer) r.taken (state_left r)

-- the file b's sheet was asked for with a buffer that was t₀ and is t now
pub record Sheeted (b t₀ t : List ℕ) (len : ℕ) : Type 0 where
  pub asked : Asked (sheet b) t₀ t len
  -- Document 02, Eleven, after each row of the file b and of the state that its sheet prints: 1 to 3 leave none
  pub promised : (s : Lock) → (ticket_run b).state ≡ some s → Promised b s
