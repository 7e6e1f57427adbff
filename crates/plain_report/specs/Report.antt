-- The sheet of what a run of calls left in the lock in place.
use Rattle.std.specs.Prelude.{ℕ, List}
use Rattle.std.proofs.Math.Option.{some}
use Rattle.lock.specs.declared.Sizes.{Sizes}
use Rattle.lock.specs.declared.Ran.{Ran}
use Rattle.lock.specs.declared.Standing.{Standing}
use Rattle.lock.specs.Phase.{standing}
use Rattle.lock.specs.Refusal.{answer_number}
use Rattle.cells.specs.View.{phase_of}
use Rattle.text.specs.Asked.{Asked}
use Rattle.plain_model.specs.Plain.{Plain}
use Rattle.plain_model.specs.Sheet.{plain_thread_line, plain_lines, plain_sheet_of, plain_sheet}
use Rattle.plain_engine.specs.Runner.{plain_left}

-- what is shown of a thread goes by its program counter alone (proofs/Shape `thread-shown`)
abbrev pub shown : ℕ → Standing
shown pc = standing (phase_of pc 0 0 0 0)

abbrev pub shown_line : ℕ → ℕ → List ℕ
shown_line t pc = plain_thread_line t (record { phase = phase_of pc 0 0 0 0; failures = 0 })

-- the lines of a state
abbrev pub some_lines : Sizes → Plain → List ℕ
some_lines z p = plain_lines z (some p)

abbrev pub sheet_of_run : Ran → List ℕ → List ℕ
sheet_of_run r l = plain_sheet_of r.sizes (answer_number r.answer) r.taken (plain_left (answer_number r.answer) l)

-- the file b's sheet was asked for with a buffer that was t₀ and is t now
abbrev pub Sheeted : List ℕ → List ℕ → List ℕ → ℕ → Type 0
Sheeted b t₀ t len = Asked (plain_sheet b) t₀ t len
