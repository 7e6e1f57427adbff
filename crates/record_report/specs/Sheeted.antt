-- What asking for the sheet of a record gives.
use Rattle.std.specs.Prelude.{ℕ, List}
use Rattle.text.specs.Asked.{Asked}
use Rattle.record_model.specs.Sheet.{record_sheet}
use Rattle.record_model.specs.Runs.{ClaimedOf}

-- The record b was held, and its sheet was asked for with a buffer that was t₀ and is t now.
pub record SheetsRecord (b t₀ t : List ℕ) (len : ℕ) : Type 0 where
  pub asked : Asked (record_sheet b) t₀ t len
  -- what is proved of the bench's runs, of the record's own bytes up to the rows held, and of the state that the sheet
  -- prints
  pub claims : ClaimedOf b
