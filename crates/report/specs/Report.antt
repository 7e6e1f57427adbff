-- The sheet of what a run left in the two locks in place.
use Prim.{Unit}
use Rattle.std.specs.Prelude.{ℕ, ◌≤◌, List, length}
use Rattle.std.proofs.Math.Option.{Option, none, some}
use Rattle.std.specs.Prelude.{if◌then◌else◌}
use Rattle.lock.specs.State.{State}
use Rattle.lock.specs.File.{stateless}
use Rattle.lock.specs.Refusal.{answer_number}
use Rattle.lock.specs.declared.Ran.{Ran}
use Rattle.pair.specs.Pair.{Pair}
use Rattle.pair.specs.Sheet.{sheet_of}
use Rattle.cells.specs.View.{state_of}
use Rattle.report.specs.declared.Numbers.{Numbers}

-- what a run with this answer left
abbrev pub pair_left : ℕ → List ℕ → List ℕ → Option Pair
pair_left answer one two = if stateless answer then none else some (record { one = state_of one; two = state_of two })

-- the sheet of a run that came to these numbers and left the locks one and two
abbrev pub sheet_of_numbers : Numbers → List ℕ → List ℕ → List ℕ
sheet_of_numbers n one two = sheet_of n.sizes n.answer n.taken (pair_left n.answer one two)

abbrev pub numbers_of : Ran → Numbers
numbers_of r = record { answer = answer_number r.answer; taken = r.taken; sizes = r.sizes }

abbrev pub sheet_of_run : Ran → List ℕ → List ℕ → List ℕ
sheet_of_run r one two = sheet_of_numbers (numbers_of r) one two

-- a state of at most 32 words and 64 threads: what an array holds
abbrev pub Bounded : State → Type 0
Bounded s = (length s.words ≤ 32) × (length s.threads ≤ 64)

-- two such states, if there are any
abbrev pub Sized : Option Pair → Type 0
Sized none = Unit {0}
Sized (some s) = Bounded s.one × Bounded s.two
