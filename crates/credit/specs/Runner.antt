-- What a run with a till leaves, and what is promised of it.
use Rattle.std.specs.Prelude.{ℕ, ◌≡◌, true, false, List, length, take, Result}
use Rattle.std.proofs.Math.Option.{Option, none, some}
use Rattle.std.specs.Prelude.{if◌then◌else◌}
use Rattle.lock.specs.declared.Ran.{Ran}
use Rattle.lock.specs.declared.Entry.{Entry}
use Rattle.lock.specs.declared.Refusal.{Refusal}
use Rattle.lock.specs.Refusal.{answer_number}
use Rattle.lock.specs.Journal.{entries_in}
use Rattle.lock.specs.Machine.{GivenOf}
use Rattle.lock.specs.File.{sizes_of, row_count, rows_of, stateless}
use Rattle.pair.specs.Pair.{Side}
use Rattle.pair.specs.Calls.{OneCall}
use Rattle.pair.specs.Demand.{CountedAt}
use Rattle.pair.specs.Locking.{LocksAt}
use Rattle.bench.specs.Bench.{pair_in}
use Rattle.till.specs.Till.{Till, till_of, till_refusal}
use Rattle.till.specs.Balanced.{Balanced}
use Rattle.till.specs.View.{ledger_of, table_of}
use Rattle.credit_model.specs.Credit.{Credit}
use Rattle.credit_model.specs.Above.{with_till}
use Rattle.credit_model.specs.Claims.{Promises}
use Rattle.credit_model.specs.File.{credit, journal_after, not_run}
use Rattle.credit_model.specs.Sheet.{credit_sheet_of}

-- two locks and a table in place
abbrev pub credit_of : Till → List (List ℕ) → List ℕ → Credit
credit_of i ls g = record { locks = pair_in ls; ledger = ledger_of i g }

-- what a run with this answer left
abbrev pub credit_left : ℕ → Till → List (List ℕ) → List ℕ → Option Credit
credit_left answer i ls g = if stateless answer then none else some (credit_of i ls g)

-- what the sheet of a run that left a state asks for: the till file c is not refused, and the table g is whole
abbrev pub Printable : ℕ → List ℕ → List ℕ → Type 0
Printable answer c g = stateless answer ≡ false → (till_refusal c ≡ 0) × (length g ≡ 64)

-- the sheet of a run that left the locks ls and the table g
abbrev pub sheet_of_run : Ran → Till → List (List ℕ) → List ℕ → List ℕ
sheet_of_run r i ls g = credit_sheet_of r.sizes (answer_number r.answer) r.taken
    (credit_left (answer_number r.answer) i ls g)

-- ---- what is claimed of the file b with the till file c, whose journal is j at exit

-- Of the state s that k rows left, with the table: the one that a sheet prints, and that a run leaves in the caller's
-- locks and table.
pub record Left (b c j : List ℕ) (k : ℕ) (s : Credit) : Type 0 where
  -- document 02, Twelve: "the balances add up …, and no balance is below 0"
  pub balanced : Balanced (till_of c) s.ledger
  -- Five and Six, at each lock; Ten
  pub locks : (x : Side) → LocksAt (with_till (till_of c) (sizes_of b)) x s.locks
  pub one_call : OneCall s.locks
  -- demand 3 at each lock; the entries are those of the caller's journal
  pub counted : (x : Side)
      → CountedAt (sizes_of b) x (take k (rows_of b)) (entries_in (row_count b) k j) s.locks

-- g is what the two files give: its state, if it has one, is what a sheet prints, and what a run leaves.
pub record Promised (b c j : List ℕ) (g : GivenOf Credit Entry) : Type 0 where
  -- of files that are not refused before the first row: all that is claimed of the rows
  pub rows : (s : Credit) → g.state ≡ some s
      → Promises (sizes_of b) (till_of c) (rows_of b) (entries_in (row_count b) g.taken j)
  pub left : (s : Credit) → g.state ≡ some s → Left b c j g.taken s
  -- "0 means all rows were taken"
  pub whole : g.answer ≡ 0 → g.taken ≡ row_count b

-- The file b was run with the till file c and a journal that was j₀ and is j now, on locks and a table that were ls₀
-- and g₀ and are ls and g now.
pub record Credits (b c j₀ j : List ℕ)
    (ls₀ : List (List ℕ)) (g₀ : List ℕ) (ls : List (List ℕ)) (g : List ℕ) (r : Ran) : Type 0 where
  pub answer : answer_number r.answer ≡ (credit b c (length j₀)).answer
  pub taken : r.taken ≡ (credit b c (length j₀)).taken
  pub sizes : r.sizes ≡ sizes_of b
  pub state : credit_left (answer_number r.answer) (till_of c) ls g ≡ (credit b c (length j₀)).state
  pub journal : j ≡ journal_after b c j₀
  pub promised : Promised b c j (credit b c (length j₀))
  pub printable : Printable (answer_number r.answer) c g
  -- every number of the table is the ledger's, or 0
  pub table : stateless (answer_number r.answer) ≡ false → g ≡ table_of (ledger_of (till_of c) g)
  -- files that are refused leave locks and table as they were
  pub untouched : stateless (answer_number r.answer) ≡ true → (ls ≡ ls₀) × (g ≡ g₀)

-- The runner has run the files, and hands back the rows not run, with the answer's number and the rows taken beside
-- them.
pub record WithTail (b c j₀ j : List ℕ)
    (ls₀ : List (List ℕ)) (g₀ : List ℕ) (ls : List (List ℕ)) (g left : List ℕ) (answer taken : ℕ) : Type 0 where
  pub came : Result (Unit {0}) Refusal
  pub number : answer ≡ answer_number came
  pub credits : Credits b c j₀ j ls₀ g₀ ls g (record { answer = came; taken = taken; sizes = sizes_of b })
  pub tail : left ≡ not_run b c (length j₀)
