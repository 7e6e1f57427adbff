-- The sheet of a site's run: lines of numbers, each with its name.
use Rattle.std.specs.Prelude.{ℕ, ◌+◌, List, [], ◌∷◌, ◌++◌, get_or, take}
use Rattle.std.proofs.Math.Option.{Option, none, some}
use Prim.Native.String.{String}
use Rattle.lock.specs.Text.{text, digits}
use Rattle.lock.specs.Sheet.{answer_line, lines}
use Rattle.lock.specs.File.{sizes_of}
use Rattle.site_model.specs.Tally.{Waits, Tally, is_call, is_write_lock, is_read_lock}
use Rattle.site_model.specs.Site.{Going, counted}
use Rattle.site_model.specs.File.{site_run, Ran}

-- a number behind a space; twenty digits hold every number of 64 bits
abbrev pub field : ℕ → ℕ → List ℕ
field i n = 32 ∷ digits 20 n

-- a line of numbers, with its name
unfoldable pub line : String → List ℕ → List ℕ
unfolding text digits lines
line name ns = text name ++ lines field 0 ns ++ 10 ∷ []

-- "turns used, passed over, spent holding and thinking": those used are these and the rows
unfoldable pub turns_line : Tally → List ℕ
unfolding line
turns_line y = line "turns"
    ((y.passed + y.holding + y.thinking + y.rows) ∷ y.passed ∷ y.holding ∷ y.thinking ∷ [])

-- "calls finished, and unfinished at the end", by the orders of the calls that threads are in
unfoldable pub calls_line : Tally → List ℕ → List ℕ
unfolding line
calls_line y order = line "calls" (y.finished ∷ counted is_call order ∷ [])

-- "rows, failed swaps, rows on the root word, rows held up"
unfoldable pub rows_line : Tally → List ℕ
unfolding line
rows_line y = line "rows" (y.rows ∷ y.failed ∷ y.root ∷ y.held ∷ [])

-- "for write-locks and for read-locks: got, waited in all, the longest wait, still waiting"
unfoldable pub waits_line : String → Waits → ℕ → List ℕ
unfolding line
waits_line name w still = line name (w.got ∷ w.waited ∷ w.longest ∷ still ∷ [])

-- "for each thread calls finished and failed swaps", behind its number
unfoldable pub thread_line : List ℕ → ℕ → ℕ → List ℕ
unfolding line
thread_line failed t done = line "thread" (t ∷ done ∷ get_or failed t 0 ∷ [])

unfoldable pub cost_lines : Tally → List ℕ → List ℕ
unfolding turns_line calls_line rows_line
cost_lines y order = turns_line y ++ calls_line y order ++ rows_line y

unfoldable pub wait_lines : Tally → List ℕ → List ℕ
unfolding waits_line
wait_lines y order = waits_line "write-locks" y.writers (counted is_write_lock order)
    ++ waits_line "read-locks" y.readers (counted is_read_lock order)

unfoldable pub site_lines : ℕ → Going → List ℕ
unfolding cost_lines wait_lines thread_line lines
site_lines T g =
    cost_lines g.tally g.order ++ wait_lines g.tally g.order
    ++ lines (thread_line g.failed) 0 (take T g.done)

-- the rows made, and the lines behind the answer's
abbrev pub rows_if : Option Going → ℕ
rows_if none = 0
rows_if (some g) = g.row

abbrev pub lines_if : ℕ → Option Going → List ℕ
lines_if T none = []
lines_if T (some g) = site_lines T g

unfoldable pub sheet_of : ℕ → Ran → List ℕ
unfolding answer_line site_lines
sheet_of T r = answer_line r.answer (rows_if r.going) ++ lines_if T r.going

-- the sheet of the site file b at the turns ts
unfoldable pub sheet : List ℕ → List ℕ → List ℕ
unfolding sheet_of site_run
sheet b ts = sheet_of (sizes_of b).threads (site_run b ts)
