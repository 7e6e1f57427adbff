-- What the line of a thread shows, from the numbers of the lock in place.
use Rattle.std.specs.Prelude.{ℕ, List}
use Rattle.lock.specs.Phase.{standing}
use Rattle.lock.specs.Sheet.{thread_line}
use Rattle.lock.specs.declared.Standing.{Standing}
use Rattle.cells.specs.View.{phase_of}

-- what is shown of a thread goes by its program counter and its route, and not by its other cells (proofs/Cells
-- `thread-shown`)
abbrev pub shown : ℕ → ℕ → Standing
shown pc n = standing (phase_of pc 0 n 0 0)

abbrev pub shown_line : ℕ → ℕ → ℕ → ℕ → List ℕ
shown_line t pc n failures = thread_line t (record { phase = phase_of pc 0 n 0 0; failures = failures })
