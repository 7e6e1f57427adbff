-- What a schedule file and a till file give together.
use Rattle.std.specs.Prelude.{ℕ, List, length}
use Rattle.lock.specs.declared.Entry.{Entry}
use Rattle.lock.specs.Machine.{GivenOf, given_by}
use Rattle.lock.specs.Journal.{journal_bytes}
use Rattle.lock.specs.File.{sizes_of, row_count, threads_of, rows_of, or_else, file_refusal, journal_refusal}
use Rattle.pair.specs.File.{tail_as}
use Rattle.till.specs.Till.{till_of, till_refusal}
use Rattle.credit_model.specs.Credit.{Credit, start, run}

-- "It refuses, as 10, a till file …, after 3 and before 4": of the file b, the till file c and a journal of j bytes
abbrev pub credit_refusal : List ℕ → List ℕ → ℕ → ℕ
credit_refusal b c j = or_else (file_refusal b) (or_else (till_refusal c) (journal_refusal b j))

-- refusal 10 leaves and prints "what 1 to 4 do"
unfoldable pub credit : List ℕ → List ℕ → ℕ → GivenOf Credit Entry
unfolding run
credit b c j = given_by (credit_refusal b c j) (run (sizes_of b) (till_of c) (start (till_of c)) (rows_of b))

-- the caller's journal after the run
unfoldable pub journal_after : List ℕ → List ℕ → List ℕ → List ℕ
unfolding credit
journal_after b c j = journal_bytes (row_count b) (credit b c (length j)).entries j

-- the rows not run, "empty when all were taken and after refusals 1 to 4", and after 10
unfoldable pub not_run : List ℕ → List ℕ → ℕ → List ℕ
unfolding credit
not_run b c j = tail_as (credit_refusal b c j) (credit b c j).taken (threads_of b)
