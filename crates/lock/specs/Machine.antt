-- A run of rows on any machine: S is its state, E what it enters of a row that is taken. A machine without a journal
-- enters nothing, which is `Unit`.
use Rattle.std.specs.Prelude.{ℕ, zero, suc, ◌<◌, ◌≡◌, ◌≢◌, List, [], ◌∷◌, length}
use Rattle.std.proofs.Math.Option.{Option, none, some}

-- a row of the schedule: "which thread makes the next atomic step", and its order
pub record Row : Type 0 where
  pub thread : ℕ
  pub order : ℕ

-- A row is taken, with the state after it and its entry, or refused, with nothing changed.
pub data OutcomeOf (S E : Type 0) : Type 0 where
  taken : S → E → OutcomeOf S E
  refused : ℕ → OutcomeOf S E

-- ---- what a row made, by its outcome

-- the numbers of document 01's table for which a row is refused: 5, 6 and 7
abbrev pub OfRow : ℕ → Type 0
OfRow n = (4 < n) × (n < 8)

module _ {S E : Type 0} where
  -- the state s after it
  abbrev pub state_after : S → OutcomeOf S E → S
  state_after s (taken s' e) = s'
  state_after s (refused n) = s

  -- 0, or the number of its refusal
  abbrev pub answer_of : OutcomeOf S E → ℕ
  answer_of (taken s e) = 0
  answer_of (refused n) = n

  -- it is refused with a number of a row, if it is
  abbrev pub RefusedAsRow : OutcomeOf S E → Type 0
  RefusedAsRow (taken s e) = Unit {0}
  RefusedAsRow (refused n) = OfRow n

-- ---- a list of rows

-- what a run gives: 0 or the refusal that ended it, the number of rows taken, the state after them, and their entries
pub record ResultOf (S E : Type 0) : Type 0 where
  pub answer : ℕ
  pub taken : ℕ
  pub state : S
  pub entries : List E

module _ {S E : Type 0} where
  -- "A refused row changes nothing and ends the run; the rows before it, perhaps none, are the rows taken."
  abbrev pub stopped : ℕ → S → ResultOf S E
  stopped n s = record { answer = n; taken = 0; state = s; entries = [] }

  abbrev pub after : E → ResultOf S E → ResultOf S E
  after e r = record { answer = r.answer; taken = suc r.taken; state = r.state; entries = e ∷ r.entries }

  -- "Each row gets the state that the row before it left"
  abbrev pub follow : S → (S → ResultOf S E) → OutcomeOf S E → ResultOf S E
  follow s rest (taken s' e) = after e (rest s')
  follow s rest (refused n) = stopped n s

  unfoldable pub runs : (S → Row → OutcomeOf S E) → S → List Row → ResultOf S E
  runs step s [] = stopped 0 s
  runs step s (r ∷ rs) = follow s (λ s'. runs step s' rs) (step s r)

-- ---- what a file gives: the run of its rows, or none

pub record GivenOf (S E : Type 0) : Type 0 where
  pub answer : ℕ
  pub taken : ℕ
  pub state : Option S
  pub entries : List E

-- by the first refusal that applies before the first row, 0 where none does: "Refusals 1 to 4 leave no state", nor does
-- 10
abbrev pub given_by : {S E : Type 0} → ℕ → ResultOf S E → GivenOf S E
given_by zero r = record { answer = r.answer; taken = r.taken; state = some r.state; entries = r.entries }
given_by (suc n) r = record { answer = suc n; taken = 0; state = none; entries = [] }

-- ---- what the answer tells

-- "0 means all rows were taken", and any other answer is that of a row
pub record Finished {S E : Type 0} (rs : List Row) (r : ResultOf S E) : Type 0 where
  pub whole : r.answer ≡ 0 → r.taken ≡ length rs
  pub of_row : r.answer ≢ 0 → OfRow r.answer
