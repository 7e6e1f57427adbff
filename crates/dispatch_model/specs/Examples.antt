-- Runs of the dispatcher, each with the answer, the steps given and the sheet, as an independent model gives them.
use Rattle.std.specs.Prelude.{ℕ, ◌≡◌, List, [], ◌∷◌, ◌++◌, map}
use Rattle.lock.specs.Text.{text}
use Rattle.lock.specs.declared.Sizes.{Sizes}
use Rattle.lock.specs.State.{fresh}
use Rattle.lock.specs.Run.{Row}
use Rattle.lock.specs.File.{paired, filed}
use Rattle.lock.specs.Sheet.{state_lines}
use Rattle.lock.specs.Examples.{sizes, by}
use Rattle.dispatch_model.specs.Dispatch.{dispatch, drawn}
use Rattle.dispatch_model.specs.File.{Way, answered_by, answered, sheet_by}

-- ---- files whose sizes and buffers are right

pub record Gives : Type 0 where
  pub answer : ℕ
  pub steps : List Row
  pub sheet : List ℕ

pub record Example : Type 0 where
  pub sizes : Sizes
  pub wants : List Row
  pub gives : Gives

-- t is the sheet up to the second lock's lines, which are a fresh lock's
abbrev example : Sizes → List Row → ℕ → List Row → List ℕ → Example
unfolding state_lines
example z rs a steps t =
    record { sizes = z; wants = rs; gives = record { answer = a; steps = steps; sheet = t ++ state_lines z fresh } }

-- what is given in this way
unfoldable pub given : Way → Sizes → List Row → Gives
unfolding answered_by sheet_by
given give z rs =
    let b = filed z rs in
    let a = answered_by give b 8197 8192 in
    record { answer = a.answer; steps = a.steps; sheet = sheet_by give b 8197 8192 }

unfoldable pub examples : List Example
unfolding text state_lines
examples =
    -- a thread alone: read-lock, unlock
    example (sizes 1 1 1) (by 0 (64 ∷ 2 ∷ [])) 0
    (by 0 (64 ∷ 0 ∷ 0 ∷ 2 ∷ 0 ∷ 0 ∷ []))
    (text "answer 0 at 6\nroot 0 0 open\nqueue free 0 0\nthread 0 idle - 0\n")
    -- a writer and a reader who finds the root closed, sleeps and is woken
    ∷ example (sizes 1 1 2) (by 0 (1 ∷ 2 ∷ []) ++ by 1 (64 ∷ 2 ∷ [])) 0
    (paired (0 ∷ 1 ∷ 0 ∷ 1 ∷ 0 ∷ 1 ∷ 0 ∷ 1 ∷ 0 ∷ 1 ∷ 0 ∷ 1 ∷ 0 ∷ 1 ∷ 0 ∷ 0 ∷ 0 ∷ 0 ∷ 0 ∷ 1 ∷ 1 ∷ 1 ∷ [])
    (1 ∷ 64 ∷ 0 ∷ 0 ∷ 0 ∷ 0 ∷ 2 ∷ 0 ∷ 0 ∷ 0 ∷ 0 ∷ 0 ∷ 0 ∷ 0 ∷ 0 ∷ 0 ∷ 0 ∷ 0 ∷ 0 ∷ 2 ∷ 0 ∷ 0 ∷ []))
    (text "answer 0 at 22\nroot 0 0 open\nqueue free 0 0\nthread 0 idle - 0\nthread 1 idle - 1\n")
    -- the file's order matters only within a thread
    ∷ example (sizes 1 1 2) (by 1 (64 ∷ []) ++ by 0 (1 ∷ []) ++ by 1 (2 ∷ []) ++ by 0 (2 ∷ [])) 0
    (paired (0 ∷ 1 ∷ 0 ∷ 1 ∷ 0 ∷ 1 ∷ 0 ∷ 1 ∷ 0 ∷ 1 ∷ 0 ∷ 1 ∷ 0 ∷ 1 ∷ 0 ∷ 0 ∷ 0 ∷ 0 ∷ 0 ∷ 1 ∷ 1 ∷ 1 ∷ [])
    (1 ∷ 64 ∷ 0 ∷ 0 ∷ 0 ∷ 0 ∷ 2 ∷ 0 ∷ 0 ∷ 0 ∷ 0 ∷ 0 ∷ 0 ∷ 0 ∷ 0 ∷ 0 ∷ 0 ∷ 0 ∷ 0 ∷ 2 ∷ 0 ∷ 0 ∷ []))
    (text "answer 0 at 22\nroot 0 0 open\nqueue free 0 0\nthread 0 idle - 0\nthread 1 idle - 1\n")
    -- a writer keeps the lock, the reader stays asleep
    ∷ example (sizes 1 1 2) (by 0 (1 ∷ []) ++ by 1 (64 ∷ 2 ∷ [])) 0
    (paired (0 ∷ 1 ∷ 0 ∷ 1 ∷ 0 ∷ 1 ∷ 1 ∷ 1 ∷ 1 ∷ 1 ∷ []) (1 ∷ 64 ∷ 0 ∷ 0 ∷ 0 ∷ 0 ∷ 0 ∷ 0 ∷ 0 ∷ 0 ∷ []))
    (text "answer 0 at 10\nroot 0 0 closed\nqueue free 1 0\nthread 0 writing - 0\nthread 1 asleep - 1\n")
    -- three threads, by the root, by node 1 and writing
    ∷ example (sizes 2 1 3)
    (by 0 (64 ∷ []) ++ by 1 (65 ∷ []) ++ by 2 (1 ∷ []) ++ by 0 (2 ∷ []) ++ by 1 (2 ∷ []) ++ by 2 (2 ∷ [])) 0
    (paired (0 ∷ 1 ∷ 2 ∷ 0 ∷ 1 ∷ 2
    ∷ 0 ∷ 1 ∷ 2 ∷ 0 ∷ 1 ∷ 2 ∷ 0 ∷ 1 ∷ 2 ∷ 0 ∷ 1 ∷ 2 ∷ 0 ∷ 1 ∷ 2 ∷ 0 ∷ 1 ∷ 2 ∷ 1 ∷ 1 ∷ 1 ∷ 1 ∷ 1 ∷ 1 ∷ 1 ∷ 2 ∷ 2 ∷ 2 ∷
    2 ∷ 2 ∷ [])
    (64 ∷ 65 ∷ 1 ∷ 0 ∷ 0 ∷ 0 ∷ 0
    ∷ 0 ∷ 0 ∷ 2 ∷ 0 ∷ 0 ∷ 0 ∷ 0 ∷ 0 ∷ 0 ∷ 0 ∷ 0 ∷ 0 ∷ 2 ∷ 0 ∷ 0 ∷ 0 ∷ 0 ∷ 0 ∷ 0 ∷ 0 ∷ 0 ∷ 0 ∷ 0 ∷ 0 ∷ 2 ∷ 0 ∷ 0 ∷ 0 ∷
    0 ∷ []))
    (text
    "answer 0 at 36\nroot 0 0 open\nnode 1 0\nqueue free 0 0\nthread 0 idle - 2\nthread 1 idle - 0\nthread 2 idle - 1\n")
    -- an unsuitable call at once, and when its turn comes
    ∷ example (sizes 1 1 1) (by 0 (2 ∷ [])) 7
    []
    (text "answer 7 at 0\nroot 0 0 open\nqueue free 0 0\nthread 0 idle - 0\n")
    ∷ example (sizes 1 1 2) (by 0 (64 ∷ 64 ∷ []) ++ by 1 (1 ∷ [])) 7
    (paired (0 ∷ 1 ∷ 0 ∷ 1 ∷ 0 ∷ 1 ∷ []) (64 ∷ 1 ∷ 0 ∷ 0 ∷ 0 ∷ 0 ∷ []))
    (text "answer 7 at 6\nroot 1 0 open\nqueue free 0 0\nthread 0 reading 0 0\nthread 1 calling - 1\n")
    -- a writer goes back to reading: the reader who slept holds beside it
    ∷ example (sizes 1 1 2) (by 0 (1 ∷ 4 ∷ 2 ∷ []) ++ by 1 (64 ∷ 2 ∷ [])) 0
    (paired (0 ∷ 1 ∷ 0 ∷ 1 ∷ 0 ∷ 1 ∷ 0 ∷ 1 ∷ 0 ∷ 1 ∷ 0 ∷ 1 ∷ 0 ∷ 1 ∷ 0 ∷ 0 ∷ 0 ∷ 0 ∷ 0 ∷ 1 ∷ 0 ∷ 1 ∷ 0 ∷ 1 ∷ 0 ∷ 0 ∷ [])
    (1 ∷ 64 ∷ 0 ∷ 0 ∷ 0 ∷ 0 ∷ 4 ∷ 0 ∷ 0 ∷ 0 ∷ 0 ∷ 0 ∷ 0 ∷ 0 ∷ 0 ∷ 0 ∷ 0 ∷ 0 ∷ 0 ∷ 2 ∷ 2 ∷ 0 ∷ 0 ∷ 0 ∷ 0 ∷ 0 ∷ []))
    (text "answer 0 at 26\nroot 0 0 open\nqueue free 0 0\nthread 0 idle - 1\nthread 1 idle - 1\n")
    -- an upgrade by a node, alone; an upgrade denied
    ∷ example (sizes 2 1 1) (by 0 (65 ∷ 3 ∷ 2 ∷ [])) 0
    (by 0 (65 ∷ 0 ∷ 0 ∷ 0 ∷ 0 ∷ 0 ∷ 3 ∷ 0 ∷ 0 ∷ 0 ∷ 0 ∷ 0 ∷ 0 ∷ 0 ∷ 0 ∷ 2 ∷ 0 ∷ 0 ∷ 0 ∷ 0 ∷ []))
    (text "answer 0 at 20\nroot 0 0 open\nnode 1 0\nqueue free 0 0\nthread 0 idle - 0\n")
    ∷ example (sizes 1 1 2) (by 0 (64 ∷ 3 ∷ 2 ∷ []) ++ by 1 (64 ∷ 2 ∷ [])) 0
    (paired (0 ∷ 1 ∷ 0 ∷ 1 ∷ 0 ∷ 1 ∷ 0 ∷ 1 ∷ 0 ∷ 1 ∷ 0 ∷ 1 ∷ 0 ∷ 1 ∷ 0 ∷ 0 ∷ [])
    (64 ∷ 64 ∷ 0 ∷ 0 ∷ 0 ∷ 0 ∷ 3 ∷ 0 ∷ 0 ∷ 2 ∷ 2 ∷ 0 ∷ 0 ∷ 0 ∷ 0 ∷ 0 ∷ []))
    (text "answer 0 at 16\nroot 0 0 open\nqueue free 0 0\nthread 0 idle - 1\nthread 1 idle - 1\n")
    -- a downgrade by a reader, an upgrade by a writer
    ∷ example (sizes 1 1 1) (by 0 (64 ∷ 4 ∷ [])) 7
    (by 0 (64 ∷ 0 ∷ 0 ∷ []))
    (text "answer 7 at 3\nroot 1 0 open\nqueue free 0 0\nthread 0 reading 0 0\n")
    ∷ example (sizes 1 1 1) (by 0 (1 ∷ 3 ∷ [])) 7
    (by 0 (1 ∷ 0 ∷ 0 ∷ []))
    (text "answer 7 at 3\nroot 0 0 closed\nqueue free 0 0\nthread 0 writing - 0\n")
    -- nothing wanted
    ∷ example (sizes 1 1 2) [] 0
    []
    (text "answer 0 at 0\nroot 0 0 open\nqueue free 0 0\nthread 0 idle - 0\nthread 1 idle - 0\n")
    -- refusals 5, 6, and 6 for order 0, above 127 too; the first row that is refused counts
    ∷ example (sizes 1 1 1) (by 1 (64 ∷ [])) 5
    []
    (text "answer 5 at 0\nroot 0 0 open\nqueue free 0 0\nthread 0 idle - 0\n")
    ∷ example (sizes 1 1 1) (by 0 (65 ∷ []) ++ by 1 (64 ∷ [])) 6
    []
    (text "answer 6 at 0\nroot 0 0 open\nqueue free 0 0\nthread 0 idle - 0\n")
    ∷ example (sizes 1 1 1) (by 0 (64 ∷ 0 ∷ [])) 6
    []
    (text "answer 6 at 0\nroot 0 0 open\nqueue free 0 0\nthread 0 idle - 0\n")
    ∷ example (sizes 1 1 1) (by 1 (0 ∷ [])) 5
    []
    (text "answer 5 at 0\nroot 0 0 open\nqueue free 0 0\nthread 0 idle - 0\n")
    ∷ example (sizes 1 1 1) (by 0 (1 ∷ 128 ∷ [])) 6
    []
    (text "answer 6 at 0\nroot 0 0 open\nqueue free 0 0\nthread 0 idle - 0\n")
    ∷ example (sizes 1 1 1) (by 0 (1 ∷ 129 ∷ [])) 6
    []
    (text "answer 6 at 0\nroot 0 0 open\nqueue free 0 0\nthread 0 idle - 0\n")
    ∷ []

-- the shared claim
unfoldable pub AllGive : List Example → Type 0
unfolding given
AllGive xs = map (λ (x : Example). given dispatch x.sizes x.wants) xs ≡ map (λ (x : Example). x.gives) xs

-- ---- at turns

pub record Drawing : Type 0 where
  pub turns : List ℕ
  pub run : Example

abbrev at : List ℕ → Example → Drawing
at ts x = record { turns = ts; run = x }

unfoldable pub drawings : List Drawing
unfolding text state_lines
drawings =
    -- turns of T or more are passed over, and the last two, of a reader who sleeps by then
    at (0 ∷ 0 ∷ 2 ∷ 0 ∷ 1 ∷ 1 ∷ 255 ∷ 1 ∷ 0 ∷ 1 ∷ 1 ∷ 1 ∷ 1 ∷ 1 ∷ [])
    (example (sizes 1 1 2) (by 0 (1 ∷ 2 ∷ []) ++ by 1 (64 ∷ 2 ∷ [])) 0
    (paired (0 ∷ 0 ∷ 0 ∷ 1 ∷ 1 ∷ 1 ∷ 0 ∷ 1 ∷ 1 ∷ 1 ∷ []) (1 ∷ 0 ∷ 0 ∷ 64 ∷ 0 ∷ 0 ∷ 2 ∷ 0 ∷ 0 ∷ 0 ∷ []))
    (text "answer 0 at 10\nroot 0 0 closed\nqueue free 1 0\nthread 0 calling - 0\nthread 1 asleep - 0\n"))
    -- the reader is woken, and the turns of who is done are passed over
    ∷ at (1 ∷ 1 ∷ 1 ∷ 0 ∷ 0 ∷ 0 ∷ 0 ∷ 0 ∷ 0 ∷ 0 ∷ 0 ∷ 0 ∷ 1 ∷ 1 ∷ 1 ∷ 1 ∷ 1 ∷ 1 ∷ 1 ∷ 1 ∷ 1 ∷ 0 ∷ 0 ∷ 0 ∷ 0 ∷ [])
    (example (sizes 1 1 2) (by 0 (64 ∷ []) ++ by 1 (1 ∷ []) ++ by 0 (2 ∷ []) ++ by 1 (2 ∷ [])) 0
    (paired (1 ∷ 1 ∷ 1 ∷ 0 ∷ 0 ∷ 0 ∷ 0 ∷ 0 ∷ 0 ∷ 1 ∷ 1 ∷ 1 ∷ 1 ∷ 1 ∷ 1 ∷ 0 ∷ 0 ∷ 0 ∷ [])
    (1 ∷ 0 ∷ 0 ∷ 64 ∷ 0 ∷ 0 ∷ 0 ∷ 0 ∷ 0 ∷ 2 ∷ 0 ∷ 0 ∷ 0 ∷ 0 ∷ 0 ∷ 2 ∷ 0 ∷ 0 ∷ []))
    (text "answer 0 at 18\nroot 0 0 open\nqueue free 0 0\nthread 0 idle - 0\nthread 1 idle - 0\n"))
    -- the turns are used up inside a call
    ∷ at (0 ∷ 0 ∷ []) (example (sizes 1 1 1) (by 0 (1 ∷ [])) 0
    (by 0 (1 ∷ 0 ∷ []))
    (text "answer 0 at 2\nroot 0 0 open\nqueue free 0 0\nthread 0 calling - 0\n"))
    -- an unsuitable call at its turn
    ∷ at (0 ∷ 0 ∷ 0 ∷ 0 ∷ 1 ∷ []) (example (sizes 1 1 2) (by 0 (64 ∷ 64 ∷ []) ++ by 1 (1 ∷ [])) 7
    (by 0 (64 ∷ 0 ∷ 0 ∷ []))
    (text "answer 7 at 3\nroot 1 0 open\nqueue free 0 0\nthread 0 reading 0 0\nthread 1 idle - 0\n"))
    -- no turns, and such as name no thread
    ∷ at [] (example (sizes 1 1 1) (by 0 (64 ∷ 2 ∷ [])) 0
    []
    (text "answer 0 at 0\nroot 0 0 open\nqueue free 0 0\nthread 0 idle - 0\n"))
    ∷ at (1 ∷ 64 ∷ 255 ∷ []) (example (sizes 1 1 1) (by 0 (64 ∷ 2 ∷ [])) 0
    []
    (text "answer 0 at 0\nroot 0 0 open\nqueue free 0 0\nthread 0 idle - 0\n"))
    -- refusal 5, before any turn
    ∷ at (0 ∷ 0 ∷ []) (example (sizes 1 1 1) (by 0 (64 ∷ []) ++ by 1 (64 ∷ [])) 5
    []
    (text "answer 5 at 0\nroot 0 0 open\nqueue free 0 0\nthread 0 idle - 0\n"))
    ∷ []

unfoldable pub AllDrawn : List Drawing → Type 0
unfolding given
AllDrawn xs =
    map (λ (x : Drawing). given (drawn x.turns) x.run.sizes x.run.wants) xs
    ≡ map (λ (x : Drawing). x.run.gives) xs

-- ---- refusals 1 to 4 and 9, in this order

-- a file, the lengths of the two buffers, and the answer
pub record Input : Type 0 where
  pub file : List ℕ
  pub schedule : ℕ
  pub sheet : ℕ
  pub answer : ℕ

abbrev input : ℕ → List ℕ → ℕ → ℕ → Input
input a b m n = record { file = b; schedule = m; sheet = n; answer = a }

unfoldable pub inputs : List Input
inputs =
    input 1 (1 ∷ 1 ∷ 1 ∷ []) 8197 8192
    ∷ input 2 (0 ∷ 1 ∷ 1 ∷ 0 ∷ 0 ∷ []) 8196 8192
    ∷ input 3 (1 ∷ 1 ∷ 1 ∷ 1 ∷ 0 ∷ 0 ∷ []) 8196 8192
    ∷ input 4 (1 ∷ 1 ∷ 1 ∷ 1 ∷ 0 ∷ 1 ∷ 64 ∷ []) 8196 8191
    ∷ input 9 (1 ∷ 1 ∷ 1 ∷ 1 ∷ 0 ∷ 1 ∷ 64 ∷ []) 8197 8191
    ∷ []

unfoldable pub AllAnswered : List Input → Type 0
unfolding answered_by
AllAnswered xs =
    map (λ (x : Input). (answered x.file x.schedule x.sheet).answer) xs ≡ map (λ (x : Input). x.answer) xs
