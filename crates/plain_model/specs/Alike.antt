-- The lines of both engines' sheets are one form with three blanks: the root's numbers, the node lines and the tickets.
-- "Its sheet has no node lines and `-` for each ticket"; Seven: "the root line shows direct, tree, state …, the plain
-- engine's one number as before".
use Rattle.std.specs.Prelude.{ℕ, ◌≡◌, List, [], ◌++◌, take, drop}
use Rattle.std.proofs.Math.Option.{some}
use Rattle.lock.specs.Word.{is_closed}
use Rattle.lock.specs.Queue.{groups}
use Rattle.lock.specs.declared.Standing.{Standing}
use Rattle.lock.specs.declared.Thread.{Thread}
use Rattle.lock.specs.Phase.{standing}
use Rattle.lock.specs.declared.Sizes.{Sizes}
use Rattle.lock.specs.State.{State, fresh, word_at}
use Rattle.lock.specs.Text.{text, decimal}
use Rattle.lock.specs.Sheet.{closed_field, word_line, queue_line, standing_name, ticket_field, lines, state_lines}
use Rattle.pair.specs.Pair.{Pair}
use Rattle.pair.specs.Sheet.{pair_lines}
use Rattle.plain_model.specs.Plain.{Plain}
use Rattle.plain_model.specs.Sheet.{plain_lines}

-- a thread's line; `ticket` fills the ticket's blank
unfoldable pub thread_form : (Standing → List ℕ) → ℕ → Thread → List ℕ
thread_form ticket t h =
    let x = standing h.phase in
    text "thread " ++ decimal t ++ (standing_name x ++ ticket x) ++ text " " ++ decimal h.failures ++ text "\n"

-- the lines of the state s, the blanks filled
unfoldable pub sheet_form : List ℕ → List ℕ → (Standing → List ℕ) → Sizes → State → List ℕ
sheet_form numbers nodes ticket z s =
    text "root " ++ numbers ++ closed_field (is_closed (word_at s 0))
    ++ nodes
    ++ queue_line s.mutex (groups s.queue) s.queue.waiting
    ++ lines (thread_form ticket) 0 (take z.threads s.threads)

-- the tree's blanks: "direct, tree"; the lines of the nodes 1 to N − 1
abbrev pub root_numbers : State → List ℕ
root_numbers s = decimal (word_at s 0).direct ++ text " " ++ decimal (word_at s 0).tree

abbrev pub node_lines : Sizes → State → List ℕ
node_lines z s = lines word_line 1 (drop 1 (take z.nodes s.words))

-- Both sheets show the tree's first lock and differ in the blanks alone: open flag, mutex, queue, standings and
-- failures are the same. Behind it the bench's sheet has the lines of the second lock, which is fresh. (The answer line
-- has each engine's own number of rows.)
pub record AlikeSheets (z : Sizes) (s : Pair) (p : Plain) : Type 0 where
  pub tree : pair_lines z s
      ≡ sheet_form (root_numbers s.one) (node_lines z s.one) ticket_field z s.one ++ state_lines z fresh
  pub plain : plain_lines z (some p) ≡ sheet_form (decimal p.root.count) [] (λ x. text " -") z s.one
