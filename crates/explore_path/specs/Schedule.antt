-- The schedule file of a record: the rows by which the search came to it.
use Rattle.std.specs.Prelude.{ℕ, ◌+◌, ◌*◌, ◌/◌, ◌<◌, ◌≤◌, ◌≡◌, Bool, false, List, [], ltb, length, get_or}
use Rattle.std.specs.Prelude.{if◌then◌else◌}
use Rattle.lock.specs.File.{within, filed}
use Rattle.lock.specs.Journal.{over}
use Rattle.lock.specs.Machine.{Row}
use Rattle.explore_store.specs.Store.{depth_at}
use Rattle.explore_search.specs.Search.{path_in, path_to, sizes_for}

-- a row, where a list has none
abbrev pub no_row : Row
no_row = record { thread = 0; order = 0 }

-- the s rows of record i in their places, from place k of them on; every other byte as it was
pub record RowsFrom (st : List ℕ) (i s k : ℕ) (out out' : List ℕ) : Type 0 where
  pub long : length out' ≡ length out
  pub threads : (j : ℕ) → k ≤ j → j < s → get_or out' (5 + j) 0 ≡ (get_or (path_in st s i) j no_row).thread
  pub orders : (j : ℕ) → k ≤ j → j < s → get_or out' (5 + s + j) 0 ≡ (get_or (path_in st s i) j no_row).order
  pub before : (q : ℕ) → q < 5 → get_or out' q 0 ≡ get_or out q 0
  pub behind : (q : ℕ) → 5 + 2 * s ≤ q → get_or out' q 0 ≡ get_or out q 0

-- the sizes are in range, and the store has record i
abbrev pub is_there : ℕ → ℕ → ℕ → List ℕ → ℕ → Bool
is_there n f t st i =
    if within 1 8 n then if within 1 16 f then if within 1 8 t then ltb i (length st / 8) else false else false else false

-- What is written into a buffer of m bytes: the schedule file of record i, or nothing where there is no such record, or
-- it has more rows than a schedule may have, or the file is longer than the buffer.
abbrev pub schedule_of : ℕ → ℕ → ℕ → List ℕ → ℕ → ℕ → List ℕ
schedule_of n f t st i m =
    if is_there n f t st i then
    if ltb 4096 (depth_at st i) then []
    else if ltb m (5 + 2 * depth_at st i) then []
    else filed (sizes_for n f t) (path_to st i)
    else []

-- the bytes written, and their number
pub record Schedules (n f t : ℕ) (st : List ℕ) (i : ℕ) (out out' : List ℕ) (r : ℕ) : Type 0 where
  pub bytes : out' ≡ over (schedule_of n f t st i (length out)) out
  pub told : r ≡ length (schedule_of n f t st i (length out))
