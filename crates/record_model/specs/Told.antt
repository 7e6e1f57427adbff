-- What the code tells of a record, as numbers: the code has the rows held, or how many are before the row that ended it
-- and the reason.
use Rattle.std.specs.Prelude.{ℕ, Option, Some, None, Result, Ok, Err}
use Rattle.lock.specs.Refusal.{number_of}
use Rattle.record_model.specs.declared.{Effect.Effect, Reason.Reason, NotHeld.NotHeld}
use Rattle.record_model.specs.declared.Reason.TheVariants.{Refused, EntryDiffers, ValueDiffers}
use Rattle.record_model.specs.Record.{NONE, Told, told_only}

-- a value that is there, or is not
abbrev pub value_number : Option ℕ → ℕ
value_number None = NONE
value_number (Some v) = v

abbrev pub reason_number : Reason → ℕ
reason_number (Refused r) = number_of r
reason_number (EntryDiffers e) = 11
reason_number (ValueDiffers e) = 12

-- what the bench gives, after 11 and 12
abbrev pub no_effect : Effect
no_effect = record { entry = record { kind = 0; word = 0 }; value = None }

abbrev pub effect_of : Reason → Effect
effect_of (Refused r) = no_effect
effect_of (EntryDiffers e) = e
effect_of (ValueDiffers e) = e

-- the answer a, with the effect e of the bench's row, behind n rows that are held
abbrev pub told_with : ℕ → ℕ → Effect → Told
told_with a n e =
    record { answer = a; held = n; kind = e.entry.kind; word = e.entry.word; value = value_number e.value }

abbrev pub told_by : NotHeld → Told
told_by x = told_with (reason_number x.reason) x.held (effect_of x.reason)

abbrev pub told_of : Result ℕ NotHeld → Told
told_of (Ok n) = told_with 0 n no_effect
told_of (Err x) = told_by x

-- of the one row that was compared
abbrev pub compared : Result (Unit {0}) Reason → Told
compared (Ok u) = told_only 0
compared (Err r) = told_by (record { held = 0; reason = r })
