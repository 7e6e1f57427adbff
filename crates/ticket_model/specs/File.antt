-- The ticket file: its sizes, checks 1 to 3, its rows, and the run of them.
use Rattle.std.specs.Prelude.{ℕ, ◌+◌, ◌*◌, Bool, ◌&&◌, List, length, get_or, take, drop, leb}
use Rattle.lock.specs.Machine.{Row, GivenOf, given_by}
use Rattle.lock.specs.File.{paired, within, shape_refusal}
use Rattle.ticket_model.specs.Machine.{Lock, fresh}
use Rattle.ticket_model.specs.Run.{run}

-- "T, then S and a start number in two bytes each, low byte first"
abbrev pub thread_count : List ℕ → ℕ
thread_count b = get_or b 0 0

abbrev pub row_count : List ℕ → ℕ
row_count b = get_or b 1 0 + 256 * get_or b 2 0

abbrev pub start_of : List ℕ → ℕ
start_of b = get_or b 3 0 + 256 * get_or b 4 0

-- "then thread numbers and orders"
abbrev pub threads_of : List ℕ → List ℕ
threads_of b = take (row_count b) (drop 5 b)

abbrev pub orders_of : List ℕ → List ℕ
orders_of b = drop (5 + row_count b) b

abbrev pub rows_of : List ℕ → List Row
rows_of b = paired (threads_of b) (orders_of b)

-- ---- refusals 1 to 3

-- "T, 1 to 64", "S, 0 to 4,096" (document 01); any start number is in range
abbrev pub sizes_in_range : List ℕ → Bool
sizes_in_range b = within 1 64 (thread_count b) && leb (row_count b) 4096

abbrev pub refusal : List ℕ → ℕ
refusal b = shape_refusal (length b) (sizes_in_range b) (row_count b)

-- ---- the run of a file

unfoldable pub ticket_run : List ℕ → GivenOf Lock (Unit {0})
unfolding run
ticket_run b = given_by (refusal b) (run (thread_count b) (fresh (start_of b)) (rows_of b))
