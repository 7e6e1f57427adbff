-- What the dispatcher leaves of a file: what the checks before the first step come to, its answer, the lent schedule,
-- the two locks, the sheet.
use Rattle.std.specs.Prelude.{ℕ, ◌≤◌, ◌≡◌, ◌≢◌, List, [], eqb, length}
use Rattle.std.specs.Prelude.{if◌then◌else◌}
use Rattle.lock.specs.Journal.{over}
use Rattle.lock.specs.declared.Ran.{Ran}
use Rattle.lock.specs.Refusal.{answer_number}
use Rattle.lock.specs.File.{sizes_of, row_count, rows_of, filed}
use Rattle.lock.specs.Sheet.{length_after}
use Rattle.pair.specs.Pair.{first, second}
use Rattle.pair.specs.Single.{beside_if}
use Rattle.report.specs.Report.{pair_left}
use Rattle.turn.specs.Turn.{cells_of, Begins}
use Rattle.dispatch_model.specs.Dispatch.{dispatch, drawn}
use Rattle.dispatch_model.specs.File.{early_refusal, first_refusal, Way, answered_by, schedule_by, sheet_by, sheet_after_by}
use Rattle.dispatch_model.specs.Claims.{Promises, DrawPromises}

-- ---- before the first step

-- the first of all refusals but 7, 0 where there is none
abbrev pub refusal_before : List ℕ → ℕ → ℕ → ℕ
refusal_before b m n =
    if eqb (early_refusal b m n) 0 then first_refusal (sizes_of b) (rows_of b) else early_refusal b m n

-- a schedule's buffer m, when a row was refused: 5 and 6 leave a schedule of no steps
abbrev pub schedule_before : List ℕ → List ℕ → ℕ → List ℕ
schedule_before b m n =
    if eqb (early_refusal b (length m) n) 0 then
    (if eqb (first_refusal (sizes_of b) (rows_of b)) 0 then m else over (filed (sizes_of b) []) m)
    else m

-- The file b was checked, with a schedule's buffer that was m₀ and is m now, for a sheet's buffer of n bytes; the two
-- locks were ls₀, and are ls now: fresh, unless one of 1 to 4 and 9 is the refusal r.
pub record Opens (b m₀ m : List ℕ) (n : ℕ) (ls₀ ls : List (List ℕ)) (r : ℕ) : Type 0 where
  pub refusal : r ≡ refusal_before b (length m₀) n
  pub schedule : m ≡ schedule_before b m₀ n
  pub untouched : early_refusal b (length m₀) n ≢ 0 → ls ≡ ls₀
  pub begins : early_refusal b (length m₀) n ≡ 0 → Begins ls

-- ---- the answer

-- Steps were given to the file b in this way, with a schedule's buffer that was m₀ and is m now, for a sheet's buffer
-- of n bytes, on two locks that were ls₀ and are ls now; and P is promised of it.
pub record AnswersBy (give : Way) (P : Type 0) (b m₀ m : List ℕ) (n : ℕ) (ls₀ ls : List (List ℕ)) (r : Ran)
    : Type 0 where
  pub sizes : r.sizes ≡ sizes_of b
  pub answer : answer_number r.answer ≡ (answered_by give b (length m₀) n).answer
  pub taken : r.taken ≡ length (answered_by give b (length m₀) n).steps
  -- the first lock as the steps left it, and the second fresh
  pub state : pair_left (answer_number r.answer) (cells_of first ls) (cells_of second ls)
      ≡ beside_if (answered_by give b (length m₀) n).state
  pub schedule : m ≡ schedule_by give b m₀ n
  -- after 1 to 4 and 9 the locks are as they were
  pub untouched : early_refusal b (length m₀) n ≢ 0 → ls ≡ ls₀
  pub promises : P
  -- follows from the others; with it a caller takes the schedule out of the buffer at once
  pub few : r.taken ≤ 4096

-- Going round by number: fair, replayed by the bench with the same sheet, ended in no other way, in order; nobody
-- stranded where each thread's last call is an unlock, none is refused and fewer than 4,096 steps are given.
abbrev pub Answers : (b m₀ m : List ℕ) (n : ℕ) (ls₀ ls : List (List ℕ)) (r : Ran) → Type 0
Answers b m₀ m n ls₀ ls r = AnswersBy dispatch (Promises b (length m₀) n) b m₀ m n ls₀ ls r

-- At the turns ts: replayed by the bench with the same sheet, turn by turn, in order; nobody stranded where each
-- thread's last call is an unlock and everybody rests at the end.
abbrev pub DrawAnswers : (ts b m₀ m : List ℕ) (n : ℕ) (ls₀ ls : List (List ℕ)) (r : Ran) → Type 0
DrawAnswers ts b m₀ m n ls₀ ls r = AnswersBy (drawn ts) (DrawPromises ts b (length m₀) n) b m₀ m n ls₀ ls r

-- and its sheet was asked for with a buffer that was t₀ and is t now
pub record SheetedBy (give : Way) (P : Type 0) (b m₀ m t₀ t : List ℕ) (len : ℕ) : Type 0 where
  pub schedule : m ≡ schedule_by give b m₀ (length t₀)
  pub sheet : t ≡ sheet_after_by give b (length m₀) t₀
  pub long : len ≡ length_after (sheet_by give b (length m₀) (length t₀)) t₀
  pub promises : P
  -- these follow from the others; with them a caller takes the sheet and the schedule out of their buffers at once
  pub within : len ≤ length t
  pub few : row_count m₀ ≤ 4096 → row_count m ≤ 4096

abbrev pub Sheeted : (b m₀ m t₀ t : List ℕ) (len : ℕ) → Type 0
Sheeted b m₀ m t₀ t len = SheetedBy dispatch (Promises b (length m₀) (length t₀)) b m₀ m t₀ t len

abbrev pub DrawSheeted : (ts b m₀ m t₀ t : List ℕ) (len : ℕ) → Type 0
DrawSheeted ts b m₀ m t₀ t len = SheetedBy (drawn ts) (DrawPromises ts b (length m₀) (length t₀)) b m₀ m t₀ t len
