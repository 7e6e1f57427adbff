-- What the bench gives for a schedule file.
use Rattle.std.specs.Prelude.{ℕ, zero, suc, List, [], length, drop}
use Rattle.lock.specs.declared.Entry.{Entry}
use Rattle.lock.specs.Machine.{ResultOf, GivenOf, given_by}
use Rattle.lock.specs.Journal.{journal_bytes}
use Rattle.std.specs.Prelude.{if◌then◌else◌}
use Rattle.lock.specs.File.{sizes_of, row_count, threads_of, rows_of, refusal, stateless}
use Rattle.pair.specs.Pair.{Pair, fresh_pair, Note, run, journal}

-- a run's result with its notes as they are written
abbrev pub in_journal : ResultOf Pair Note → ResultOf Pair Entry
in_journal r = record { answer = r.answer; taken = r.taken; state = r.state; entries = journal r.entries }

-- of the file b, with a journal of j bytes
unfoldable pub bench : List ℕ → ℕ → GivenOf Pair Entry
unfolding run
bench b j = given_by (refusal b j) (in_journal (run (sizes_of b) fresh_pair (rows_of b)))

-- the caller's journal after the run
unfoldable pub journal_after : List ℕ → List ℕ → List ℕ
unfolding bench
journal_after b j = journal_bytes (row_count b) (bench b (length j)).entries j

-- "the rows not run are handed back as the tail of the caller's own array of thread numbers, empty when all were taken
-- and after refusals 1 to 4"
abbrev pub tail_as : ℕ → ℕ → List ℕ → List ℕ
tail_as zero k ts = drop k ts
tail_as (suc n) k ts = []

-- the same from a run's answer and rows taken, of the file b
abbrev pub tail_of : List ℕ → ℕ → ℕ → List ℕ
tail_of b answer k = if stateless answer then [] else drop k (threads_of b)

unfoldable pub not_run : List ℕ → ℕ → List ℕ
unfolding bench
not_run b j = tail_as (refusal b j) (bench b j).taken (threads_of b)
