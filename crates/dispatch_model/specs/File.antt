-- The dispatcher's file, its refusals, and what comes back: a schedule and a sheet in lent buffers.
use Rattle.std.specs.Prelude.{ℕ, zero, suc, List, [], ◌∷◌, length, eqb, ltb}
use Rattle.std.proofs.Math.Option.{Option, none, some}
use Rattle.std.specs.Prelude.{if◌then◌else◌}
use Rattle.lock.specs.Journal.{over}
use Rattle.lock.specs.declared.Sizes.{Sizes}
use Rattle.lock.specs.State.{State, fresh}
use Rattle.lock.specs.Run.{Row, row_refusal}
use Rattle.lock.specs.File.{sizes_of, rows_of, filed, file_refusal}
use Rattle.lock.specs.Sheet.{sheet_refusal, buffer_after}
use Rattle.pair.specs.Single.{beside_if}
use Rattle.pair.specs.Sheet.{sheet_of}
use Rattle.dispatch_model.specs.Dispatch.{Dispatched, dispatch}

-- ---- refusals

-- 5, then "6 (order 0 counted in)", "row by row over all rows before the first step"
abbrev pub first_refusal : Sizes → List Row → ℕ
first_refusal z [] = 0
first_refusal z (r ∷ rs) = if eqb (row_refusal z r) 0 then first_refusal z rs else row_refusal z r

-- "It refuses by 1 to 3, by 4 for a smaller buffer" than "8,197 bytes", by 9: of a file b, a schedule's buffer of m
-- bytes and a sheet's of n
abbrev pub early_refusal : List ℕ → ℕ → ℕ → ℕ
early_refusal b m n = if eqb (file_refusal b) 0 then (if ltb m 8197 then 4 else sheet_refusal n)
    else file_refusal b

-- ---- the answer to a file

-- 1 to 4 and 9 leave neither state nor schedule; 5 and 6 leave the fresh lock and no step
pub record Answered : Type 0 where
  pub answer : ℕ
  pub steps : List Row
  pub state : Option State

-- a way to give steps: going round, or by a list of turns
abbrev pub Way : Type 0
Way = Sizes → List Row → Dispatched

abbrev pub answered_rows : Way → Sizes → List Row → ℕ → Answered
answered_rows give z rs zero =
    let d = give z rs in record { answer = d.answer; steps = d.steps; state = some d.state }
answered_rows give z rs (suc n) = record { answer = suc n; steps = []; state = some fresh }

abbrev pub answered_file : Way → Sizes → List Row → ℕ → Answered
answered_file give z rs zero = answered_rows give z rs (first_refusal z rs)
answered_file give z rs (suc n) = record { answer = suc n; steps = []; state = none }

unfoldable pub answered_by : Way → List ℕ → ℕ → ℕ → Answered
answered_by give b m n = answered_file give (sizes_of b) (rows_of b) (early_refusal b m n)

abbrev pub answered : List ℕ → ℕ → ℕ → Answered
answered b m n = answered_by dispatch b m n

-- ---- what comes back

-- "The steps given come back as a schedule in a lent buffer …, untouched behind it and after 1 to 4 and 9"
abbrev pub scheduled : Sizes → Answered → Option State → List ℕ → List ℕ
scheduled z a none buffer = buffer
scheduled z a (some s) buffer = over (filed z a.steps) buffer

unfoldable pub schedule_by : Way → List ℕ → List ℕ → ℕ → List ℕ
unfolding answered_by
schedule_by give b buffer n =
    let a = answered_by give b (length buffer) n in scheduled (sizes_of b) a a.state buffer

abbrev pub schedule_after : List ℕ → List ℕ → ℕ → List ℕ
schedule_after b buffer n = schedule_by dispatch b buffer n

-- the dispatcher's sheet, of its answer and the number of steps given; the second lock, which it has no calls for, is
-- fresh
unfoldable pub sheet_by : Way → List ℕ → ℕ → ℕ → List ℕ
unfolding answered_by sheet_of
sheet_by give b m n =
    let a = answered_by give b m n in sheet_of (sizes_of b) a.answer (length a.steps) (beside_if a.state)

abbrev pub sheet_text : List ℕ → ℕ → ℕ → List ℕ
sheet_text b m n = sheet_by dispatch b m n

-- "A sheet buffer that 9 would refuse gets nothing, whatever the number."
unfoldable pub sheet_after_by : Way → List ℕ → ℕ → List ℕ → List ℕ
unfolding sheet_by
sheet_after_by give b m buffer = buffer_after (sheet_by give b m (length buffer)) buffer

abbrev pub sheet_after : List ℕ → ℕ → List ℕ → List ℕ
sheet_after b m buffer = sheet_after_by dispatch b m buffer
