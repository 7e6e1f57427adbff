-- Runs of the ticket lock, each a file with its sheet, as an independent model gives them.
use Rattle.std.specs.Prelude.{ℕ, ◌/◌, ◌%◌, List, [], ◌∷◌, ◌++◌, map, length}
use Rattle.lock.specs.Text.{text}
use Rattle.lock.specs.Machine.{Row}
use Rattle.lock.specs.Examples.{ExampleOf, AllGive, by}
use Rattle.ticket_model.specs.Sheet.{sheet}

-- a file, and its sheet
abbrev pub Example : Type 0
Example = ExampleOf (List ℕ) (List ℕ)

abbrev example : List ℕ → List ℕ → Example
example b t = record { gets = b; gives = t }

-- rows as a ticket file with T threads and a start number
abbrev ticket_file : ℕ → ℕ → List Row → List ℕ
ticket_file T start rs =
    T ∷ length rs % 256 ∷ length rs / 256
    ∷ start % 256 ∷ start / 256 ∷ map (λ (r : Row). r.thread) rs ++ map (λ (r : Row). r.order) rs

-- three tickets from 65,535 on
abbrev three : List Row
three = by 0 (1 ∷ []) ++ by 1 (1 ∷ []) ++ by 2 (1 ∷ [])

unfoldable pub examples : List Example
unfolding text
examples =
    -- no row: ticket and grant stand at the start number
    example (ticket_file 1 263 []) (text "answer 0 at 0\nticket 263\ngrant 263\nthread 0 idle\n")
    -- tickets 65,535, 0 and 1: a waiter whose turn it is is near until it compares; 2 past the grant is far, also round
    -- the wrap
    ∷ example (ticket_file 3 65535 three)
    (text "answer 0 at 3\nticket 2\ngrant 65535\nthread 0 near\nthread 1 near\nthread 2 far\n")
    ∷ example (ticket_file 3 65535 (three ++ by 0 (0 ∷ [])))
    (text "answer 0 at 4\nticket 2\ngrant 65535\nthread 0 holding\nthread 1 near\nthread 2 far\n")
    -- a comparison in vain is a row taken
    ∷ example (ticket_file 3 65535 (three ++ by 2 (0 ∷ 0 ∷ []) ++ by 0 (0 ∷ [])))
    (text "answer 0 at 6\nticket 2\ngrant 65535\nthread 0 holding\nthread 1 near\nthread 2 far\n")
    -- the holder leaves, and the grant wraps; who is next holds when it compares
    ∷ example (ticket_file 3 65535 (three ++ by 0 (0 ∷ 2 ∷ [])))
    (text "answer 0 at 5\nticket 2\ngrant 0\nthread 0 idle\nthread 1 near\nthread 2 near\n")
    ∷ example (ticket_file 3 65535 (three ++ by 0 (0 ∷ 2 ∷ 1 ∷ []) ++ by 1 (0 ∷ [])))
    (text "answer 0 at 7\nticket 3\ngrant 0\nthread 0 far\nthread 1 holding\nthread 2 near\n")
    -- 7: order 0 by an idle thread and by the holder; 1 by a waiter and by the holder; 2 by an idle thread and by a
    -- waiter, whose turn it is
    ∷ example (ticket_file 1 263 (by 0 (0 ∷ []))) (text "answer 7 at 0\nticket 263\ngrant 263\nthread 0 idle\n")
    ∷ example (ticket_file 1 263 (by 0 (1 ∷ 0 ∷ 0 ∷ [])))
    (text "answer 7 at 2\nticket 264\ngrant 263\nthread 0 holding\n")
    ∷ example (ticket_file 1 263 (by 0 (1 ∷ 1 ∷ []))) (text "answer 7 at 1\nticket 264\ngrant 263\nthread 0 near\n")
    ∷ example (ticket_file 1 263 (by 0 (1 ∷ 0 ∷ 1 ∷ [])))
    (text "answer 7 at 2\nticket 264\ngrant 263\nthread 0 holding\n")
    ∷ example (ticket_file 1 263 (by 0 (2 ∷ []))) (text "answer 7 at 0\nticket 263\ngrant 263\nthread 0 idle\n")
    ∷ example (ticket_file 1 263 (by 0 (1 ∷ 2 ∷ []))) (text "answer 7 at 1\nticket 264\ngrant 263\nthread 0 near\n")
    -- 5 before 6 before 7, and the rows behind are not looked at
    ∷ example (ticket_file 1 263 (by 1 (3 ∷ []))) (text "answer 5 at 0\nticket 263\ngrant 263\nthread 0 idle\n")
    ∷ example (ticket_file 1 263 (by 0 (3 ∷ []) ++ by 1 (1 ∷ [])))
    (text "answer 6 at 0\nticket 263\ngrant 263\nthread 0 idle\n")
    ∷ example (ticket_file 1 263 (by 0 (1 ∷ 64 ∷ []))) (text "answer 6 at 1\nticket 264\ngrant 263\nthread 0 near\n")
    -- 1 to 3: four bytes; no thread, 65 threads, 4,097 rows; a byte less than the rows that the file names, and a byte
    -- more
    ∷ example (1 ∷ 0 ∷ 0 ∷ 7 ∷ []) (text "answer 1 at 0\n")
    ∷ example (0 ∷ 0 ∷ 0 ∷ 7 ∷ 1 ∷ []) (text "answer 2 at 0\n")
    ∷ example (65 ∷ 0 ∷ 0 ∷ 7 ∷ 1 ∷ []) (text "answer 2 at 0\n")
    ∷ example (1 ∷ 1 ∷ 16 ∷ 7 ∷ 1 ∷ []) (text "answer 2 at 0\n")
    ∷ example (1 ∷ 1 ∷ 0 ∷ 7 ∷ 1 ∷ 0 ∷ []) (text "answer 3 at 0\n")
    ∷ example (1 ∷ 1 ∷ 0 ∷ 7 ∷ 1 ∷ 0 ∷ 1 ∷ 0 ∷ []) (text "answer 3 at 0\n")
    ∷ []

unfoldable pub AllSheeted : List Example → Type 0
unfolding sheet
AllSheeted = AllGive sheet
