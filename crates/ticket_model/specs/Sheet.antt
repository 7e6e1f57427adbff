-- The sheet of a ticket file.
use Rattle.std.specs.Prelude.{ℕ, Bool, true, false, List, [], ◌++◌, take, ltb}
use Rattle.std.proofs.Math.Option.{Option, none, some}
use Rattle.lock.specs.Text.{text, decimal}
use Rattle.lock.specs.Sheet.{answer_line, lines}
use Rattle.ticket_model.specs.Machine.{Standing, Idle, Waiting, Holding, Thread, Lock, past}
use Rattle.ticket_model.specs.File.{thread_count, ticket_run}

-- "A waiter whose ticket is more than 1 past grant, counted round the wrap, is printed `far`, else `near`."
abbrev pub is_far : ℕ → ℕ → Bool
is_far own g = ltb 1 (past own g)

abbrev pub distance : Bool → List ℕ
unfolding text
distance true = text " far\n"
distance false = text " near\n"

-- "`idle`, `near`, `far` or `holding`"
abbrev pub standing_field : ℕ → ℕ → Standing → List ℕ
unfolding text
standing_field g own Idle = text " idle\n"
standing_field g own Waiting = distance (is_far own g)
standing_field g own Holding = text " holding\n"

-- "`thread`, its number and …"
unfoldable pub thread_line : ℕ → ℕ → Thread → List ℕ
unfolding text decimal
thread_line g t h = text "thread " ++ decimal t ++ standing_field g h.own h.standing

-- "`ticket` and `grant` lines with their numbers"
unfoldable pub ticket_line : ℕ → List ℕ
unfolding text decimal
ticket_line n = text "ticket " ++ decimal n ++ text "\n"

unfoldable pub grant_line : ℕ → List ℕ
unfolding text decimal
grant_line n = text "grant " ++ decimal n ++ text "\n"

unfoldable pub state_lines : ℕ → Lock → List ℕ
unfolding ticket_line grant_line thread_line lines
state_lines T s = ticket_line s.ticket ++ grant_line s.grant ++ lines (thread_line s.grant) 0 (take T s.threads)

-- "only the first line, with `at 0`" (document 01), for refusals 1 to 3
abbrev pub state_lines_if : ℕ → Option Lock → List ℕ
unfolding state_lines
state_lines_if T none = []
state_lines_if T (some s) = state_lines T s

-- "the answer line, …": the sheet of a run with T threads, by its answer, rows taken and state, if it has one
unfoldable pub sheet_of : ℕ → ℕ → ℕ → Option Lock → List ℕ
unfolding answer_line state_lines
sheet_of T answer taken s = answer_line answer taken ++ state_lines_if T s

unfoldable pub sheet : List ℕ → List ℕ
unfolding sheet_of ticket_run
sheet b = let r = ticket_run b in sheet_of (thread_count b) r.answer r.taken r.state
