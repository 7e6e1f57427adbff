-- What the bench promises of a file: the run of the definitions; and of that run all that is claimed, demand 3 over the
-- caller's own bytes among it.
use Prim.{Unit}
use Rattle.std.specs.Prelude.{◌≡◌, ℕ, ◌≤◌, true, List, length, take, Result}
use Rattle.std.proofs.Math.Option.{Option, some}
use Rattle.lock.specs.declared.Entry.{Entry}
use Rattle.lock.specs.declared.{Ran.Ran, Refusal.Refusal}
use Rattle.lock.specs.Refusal.{answer_number}
use Rattle.lock.specs.declared.Sizes.{Sizes}
use Rattle.lock.specs.Journal.{journal_bytes, entries_in}
use Rattle.lock.specs.Machine.{GivenOf, given_by}
use Rattle.lock.specs.File.{sizes_of, with_items, row_count, rows_of, refusal, stateless}
use Rattle.pair.specs.Pair.{Side, first, second, Pair, fresh_pair, run}
use Rattle.pair.specs.Demand.{CountedAt}
use Rattle.pair.specs.File.{in_journal, not_run}
use Rattle.progress.specs.Claimed.{RowsClaimed, StateClaimed}
use Rattle.report.specs.Report.{pair_left}
-- whoever stands above the bench needs only these of the crates below it
pub use Rattle.turn.specs.Turn.{cells_of, pair_in}

-- ---- a file, with a till of E items of which the bench knows the number alone

abbrev pub sizes_with : ℕ → List ℕ → Sizes
sizes_with E b = with_items E (sizes_of b)

-- what the bench gives for the file b, with a journal of j bytes; for no items it is `bench` (pair specs/File)
abbrev pub bench_with : ℕ → List ℕ → ℕ → GivenOf Pair Entry
bench_with E b j = given_by (refusal b j) (in_journal (run (sizes_with E b) fresh_pair (rows_of b)))

-- ---- what is claimed of the file b, whose journal is j at exit

-- g is what the bench gives for the file: its state, if it has one, is what a sheet prints, and what a run leaves in the
-- caller's locks.
pub record Promises (E : ℕ) (b j : List ℕ) (g : GivenOf Pair Entry) : Type 0 where
  -- demand 3: "After the first i rows taken, for every i from 0 to all of them", where the entries are those of the
  -- caller's journal
  pub counted : (x : Side) (i : ℕ) → i ≤ g.taken
      → CountedAt (sizes_with E b) x
      (take i (rows_of b)) (entries_in (row_count b) i j) (run (sizes_with E b) fresh_pair (take i (rows_of b))).state
  -- of a file that is not refused before its first row
  pub rows : (s : Pair) → g.state ≡ some s → RowsClaimed (sizes_with E b) (rows_of b)
  pub left : (s : Pair) → g.state ≡ some s
      → StateClaimed (sizes_with E b) (take g.taken (rows_of b)) (entries_in (row_count b) g.taken j) s
  -- "0 means all rows were taken"
  pub whole : g.answer ≡ 0 → g.taken ≡ row_count b

-- ---- the bench

-- what a run with this answer left
abbrev pub left_of : ℕ → List (List ℕ) → Option Pair
left_of answer ls = pair_left answer (cells_of first ls) (cells_of second ls)

-- The file b was run, with E items, with a journal that was j₀ and is j now, on locks that were ls₀ and are ls now.
pub record BenchesWith (E : ℕ) (b j₀ j : List ℕ) (ls₀ ls : List (List ℕ)) (r : Ran) : Type 0 where
  pub answer : answer_number r.answer ≡ (bench_with E b (length j₀)).answer
  pub taken : r.taken ≡ (bench_with E b (length j₀)).taken
  pub sizes : r.sizes ≡ sizes_with E b
  pub state : left_of (answer_number r.answer) ls ≡ (bench_with E b (length j₀)).state
  pub journal : j ≡ journal_bytes (row_count b) (bench_with E b (length j₀)).entries j₀
  pub promises : Promises E b j (bench_with E b (length j₀))
  -- a file that is refused leaves the locks as they were
  pub untouched : stateless (answer_number r.answer) ≡ true → ls ≡ ls₀

-- without a till
abbrev pub Benches : List ℕ → List ℕ → List ℕ → List (List ℕ) → List (List ℕ) → Ran → Type 0
Benches b j₀ j ls₀ ls r = BenchesWith 0 b j₀ j ls₀ ls r

-- The runner has run the file, and hands back the rows not run, with the answer's number and the rows taken beside them.
pub record WithTail (b j₀ j : List ℕ) (ls₀ ls : List (List ℕ)) (left : List ℕ) (answer taken : ℕ) : Type 0 where
  pub came : Result (Unit {0}) Refusal
  pub number : answer ≡ answer_number came
  pub benches : Benches b j₀ j ls₀ ls (record { answer = came; taken = taken; sizes = sizes_of b })
  pub tail : left ≡ not_run b (length j₀)
