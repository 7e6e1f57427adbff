-- The lines of a sheet: "the lines below, each ended by a newline". (The sheet of a file is in the crate `pair`,
-- specs/Sheet.)
use Rattle.std.specs.Prelude.{ℕ, zero, suc, Bool, true, false, List, [], ◌∷◌, ◌++◌, length, take, drop, ltb}
use Rattle.std.proofs.Math.Option.{Option, none, some}
use Rattle.std.specs.Prelude.{if◌then◌else◌}
use Rattle.lock.specs.Word.{Word, is_closed}
use Rattle.lock.specs.Queue.{groups}
use Rattle.lock.specs.Phase.{Standing, standing, Thread}
use Rattle.lock.specs.State.{Sizes, State}
use Rattle.lock.specs.Text.{text, decimal}

-- "refusal number and rows taken"
unfoldable pub answer_line : ℕ → ℕ → List ℕ
unfolding text decimal
answer_line n k = text "answer " ++ decimal n ++ text " at " ++ decimal k ++ text "\n"

-- "the root line shows direct, tree, state": `open` or `closed`
abbrev pub closed_field : Bool → List ℕ
unfolding text
closed_field true = text " closed\n"
closed_field false = text " open\n"

unfoldable pub root_line : Word → List ℕ
unfolding text decimal
root_line v = text "root " ++ decimal v.direct ++ text " " ++ decimal v.tree ++ closed_field (is_closed v)

-- "node number and its count"
unfoldable pub node_line : ℕ → Word → List ℕ
unfolding text decimal
node_line i v = text "node " ++ decimal i ++ text " " ++ decimal v.tree ++ text "\n"

-- word 0 is the root, and the others are "nodes 1 to N − 1"
unfoldable pub word_line : ℕ → Word → List ℕ
unfolding root_line node_line
word_line zero v = root_line v
word_line (suc i) v = node_line (suc i) v

-- "mutex (`free` or the thread that has it) and number of groups" (document 02, Two: the queued writers, plus one if
-- readers are queued); Five: the number of waiting writers "as a last field"
abbrev pub mutex_field : Option ℕ → List ℕ
unfolding text decimal
mutex_field none = text "free"
mutex_field (some t) = decimal t

unfoldable pub queue_line : Option ℕ → ℕ → ℕ → List ℕ
unfolding text decimal
queue_line m groups waiting =
    text "queue " ++ mutex_field m ++ text " " ++ decimal groups ++ text " " ++ decimal waiting ++ text "\n"

-- "standing (`idle`, `reading`, `writing`, `calling`, `asleep`)"
unfoldable pub standing_name : Standing → List ℕ
unfolding text
standing_name Standing.Idle = text " idle"
standing_name (Standing.Reading k) = text " reading"
standing_name Standing.Writing = text " writing"
standing_name Standing.Calling = text " calling"
standing_name Standing.Asleep = text " asleep"

-- "ticket node while reading and `-` in every other standing"
unfoldable pub ticket_field : Standing → List ℕ
unfolding text decimal
ticket_field Standing.Idle = text " -"
ticket_field (Standing.Reading k) = text " " ++ decimal k
ticket_field Standing.Writing = text " -"
ticket_field Standing.Calling = text " -"
ticket_field Standing.Asleep = text " -"

unfoldable pub standing_fields : Standing → List ℕ
unfolding standing_name ticket_field
standing_fields p = standing_name p ++ ticket_field p

-- "thread number, standing …, ticket …, failures"
unfoldable pub thread_line : ℕ → Thread → List ℕ
unfolding text decimal standing standing_fields
thread_line t h = text "thread "
    ++ decimal t ++ standing_fields (standing h.phase) ++ text " " ++ decimal h.failures ++ text "\n"

-- a line for each element, numbered from i on
unfoldable pub lines : {A : Type 0} → (ℕ → A → List ℕ) → ℕ → List A → List ℕ
lines line i [] = []
lines line i (x ∷ xs) = line i x ++ lines line (suc i) xs

-- the words of N nodes, the queue, T threads
unfoldable pub state_lines : Sizes → State → List ℕ
unfolding word_line queue_line thread_line lines
state_lines z s =
    lines word_line 0 (take z.nodes s.words) ++ queue_line s.mutex
    (groups s.queue) s.queue.waiting ++ lines thread_line 0 (take z.threads s.threads)

-- ---- the sheet's buffer

-- is a buffer of n bytes too small?
abbrev pub no_room : ℕ → Bool
no_room n = ltb n 8192

-- Refusal 9, of a buffer of n bytes: "the sheet's buffer is below" a length; document 02, Ten: "now asks for 8,192 bytes
-- for every sheet". 0 where there is room
abbrev pub sheet_refusal : ℕ → ℕ
sheet_refusal n = if no_room n then 9 else 0

-- "Refusal 9 writes nothing; a written sheet leaves the bytes behind it unchanged": the buffer after the sheet t was
-- asked for, by that refusal
abbrev pub buffer_by : ℕ → List ℕ → List ℕ → List ℕ
buffer_by zero t buffer = t ++ drop (length t) buffer
buffer_by (suc n) t buffer = buffer

abbrev pub buffer_after : List ℕ → List ℕ → List ℕ
buffer_after t buffer = buffer_by (sheet_refusal (length buffer)) t buffer

-- what a function that gives a sheet's length gives: 0 for a refusal, since no sheet is empty
abbrev pub length_by : ℕ → List ℕ → ℕ
length_by zero t = length t
length_by (suc n) t = 0

abbrev pub length_after : List ℕ → List ℕ → ℕ
length_after t buffer = length_by (sheet_refusal (length buffer)) t
