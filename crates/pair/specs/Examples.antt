-- Runs of two locks, and the files that documents 01 and 02 give: the small inputs of the table of refusals, the worked
-- sheet and its journal.
use Rattle.std.specs.Prelude.{ℕ, ◌*◌, ◌≡◌, List, [], ◌∷◌, ◌++◌, map, length}
use Rattle.std.proofs.Math.Option.{Option, none, some}
use Rattle.lock.specs.Word.{opened, closed}
use Rattle.lock.specs.Queue.{nobody_waits}
use Rattle.lock.specs.declared.Phase.TheVariants.{Idle, Writing, Asleep, WriteLook, UpgradeLook}
use Rattle.lock.specs.declared.Sizes.{Sizes}
use Rattle.lock.specs.Journal.{kinds, words}
use Rattle.lock.specs.declared.Entry.{Entry}
use Rattle.lock.specs.Machine.{Row, ResultOf, runs, GivenOf}
use Rattle.lock.specs.State.{State, fresh}
use Rattle.lock.specs.File.{with_items, filed}
use Rattle.lock.specs.Examples as lock
use Rattle.lock.specs.Text.{text}
use Rattle.lock.specs.Examples.{ExampleOf, AllGive, Schedule, sizes, by, at, waiting, free, shown, worked_lines}
use Rattle.lock.specs.Examples.{every_kind, every_entries, every_lines}
use Rattle.pair.specs.Pair.{Pair, fresh_pair, Note, run, journal}
use Rattle.pair.specs.File.{bench}

-- ---- runs of rows on both locks

-- the answer, the rows taken, what is shown of each lock, and the journal's words, which tell the locks apart
pub record Ending : Type 0 where
  pub answer : ℕ
  pub taken : ℕ
  pub one : State
  pub two : State
  pub words : List ℕ

abbrev pub ending : Sizes → ResultOf Pair Note → Ending
ending z r =
    record {
      answer = r.answer;
      taken = r.taken;
      one = shown z r.state.one;
      two = shown z r.state.two;
      words = words (journal r.entries);
    }

abbrev pub Example : Type 0
Example = ExampleOf Schedule Ending

abbrev example : Sizes → List Row → ℕ → ℕ → State → State → List ℕ → Example
example z rs n k s u ws =
    record {
      gets = record { sizes = z; rows = rs };
      gives = record { answer = n; taken = k; one = s; two = u; words = ws };
    }

-- one thread, in the order: write-lock of the first, of the second
abbrev writes_first : List Row
writes_first = by 0 (1 ∷ 0 ∷ 0 ∷ [])

abbrev writes_second : List Row
writes_second = by 0 (129 ∷ 0 ∷ 0 ∷ [])

-- Thread 1 holds the second lock; thread 0, which writes the first, sleeps in the second.
abbrev sleeps_in_second : List Row
sleeps_in_second = by 1 (129 ∷ 0 ∷ 0 ∷ []) ++ writes_first ++ by 0 (129 ∷ 0 ∷ 0 ∷ 0 ∷ 0 ∷ 0 ∷ [])

-- a lock of one thread, which is idle or writes
abbrev unheld : State
unheld = free (opened 0 0 ∷ []) nobody_waits (at Idle 0 ∷ [])

abbrev written : State
written = free (closed 0 0 ∷ []) nobody_waits (at Writing 0 ∷ [])

-- A thread that holds both. One that sleeps in the second while it holds the first, and whose held-up row belongs to
-- the second. Both locks upgraded by one thread. "128 alone is a 6", before and after; 0 without a call; a new call of
-- the other lock inside a call, and one that is no order there. With two items: both are booked by the thread that
-- writes the first lock, and item 2 is a 6; whoever writes the second lock alone is refused with 7, and 128 added is a
-- 6; who writes the first and is in a call of the second is refused with 7, after 6. Without a till every booking is a
-- 6.
unfoldable pub examples : List Example
examples =
    example (sizes 1 1 1) (writes_first ++ writes_second) 0 6
    (free (closed 0 0 ∷ []) nobody_waits (at Writing 0 ∷ []))
    (free (closed 0 0 ∷ []) nobody_waits (at Writing 0 ∷ [])) (33 ∷ 0 ∷ 0 ∷ 97 ∷ 64 ∷ 64 ∷ [])
    ∷ example (sizes 1 1 2) (sleeps_in_second ++ by 0 (0 ∷ [])) 0 13
    (free (closed 0 0 ∷ []) nobody_waits (at Writing 0 ∷ at Idle 0 ∷ []))
    (free (closed 0 0 ∷ []) (waiting 0 (0 ∷ [])) (at Asleep 0 ∷ at Writing 0 ∷ []))
    (97 ∷ 64 ∷ 64 ∷ 33 ∷ 0 ∷ 0 ∷ 97 ∷ 64 ∷ 96 ∷ 64 ∷ 96 ∷ 96 ∷ 96 ∷ [])
    ∷ example (sizes 1 1 1) (by 0 (64 ∷ 0 ∷ 0 ∷ 192 ∷ 0 ∷ 0 ∷ 3 ∷ 0 ∷ 0 ∷ 131 ∷ 0 ∷ 0 ∷ [])) 0 12
    (free (closed 0 0 ∷ []) nobody_waits (at Writing 0 ∷ [])) (free (closed 0 0 ∷ []) nobody_waits (at Writing 0 ∷ []))
    (33 ∷ 0 ∷ 0 ∷ 97 ∷ 64 ∷ 64 ∷ 33 ∷ 0 ∷ 0 ∷ 97 ∷ 64 ∷ 64 ∷ [])
    ∷ example (sizes 1 1 1) (by 0 (128 ∷ [])) 6 0
    (free (opened 0 0 ∷ []) nobody_waits (at Idle 0 ∷ [])) (free (opened 0 0 ∷ []) nobody_waits (at Idle 0 ∷ [])) []
    ∷ example (sizes 1 1 1) (writes_second ++ by 0 (0 ∷ [])) 7 3
    (free (opened 0 0 ∷ []) nobody_waits (at Idle 0 ∷ []))
    (free (closed 0 0 ∷ []) nobody_waits (at Writing 0 ∷ [])) (97 ∷ 64 ∷ 64 ∷ [])
    ∷ example (sizes 1 1 1) (by 0 (192 ∷ 0 ∷ 0 ∷ 131 ∷ 1 ∷ [])) 7 4
    (free (opened 0 0 ∷ []) nobody_waits (at Idle 0 ∷ []))
    (free (opened 1 0 ∷ []) nobody_waits (at UpgradeLook 0 ∷ [])) (97 ∷ 64 ∷ 64 ∷ 97 ∷ [])
    ∷ example (sizes 1 1 1) (by 0 (192 ∷ 0 ∷ 0 ∷ 131 ∷ 65 ∷ [])) 6 4
    (free (opened 0 0 ∷ []) nobody_waits (at Idle 0 ∷ []))
    (free (opened 1 0 ∷ []) nobody_waits (at UpgradeLook 0 ∷ [])) (97 ∷ 64 ∷ 64 ∷ 97 ∷ [])
    ∷ example (with_items 2 (sizes 1 1 1))
    (writes_first ++ by 0 (97 ∷ 96 ∷ 97 ∷ 98 ∷ [])) 6 6 written unheld (33 ∷ 0 ∷ 0 ∷ 33 ∷ 33 ∷ 33 ∷ [])
    ∷ example (with_items 2 (sizes 1 1 1)) (writes_second ++ by 0 (96 ∷ [])) 7 3 unheld written (97 ∷ 64 ∷ 64 ∷ [])
    ∷ example (with_items 2 (sizes 1 1 1)) (writes_second ++ by 0 (224 ∷ [])) 6 3 unheld written (97 ∷ 64 ∷ 64 ∷ [])
    ∷ example (with_items 2 (sizes 1 1 1)) (writes_first ++ by 0 (129 ∷ 96 ∷ [])) 7 4 written
    (free (opened 0 0 ∷ []) nobody_waits (at WriteLook 0 ∷ [])) (33 ∷ 0 ∷ 0 ∷ 97 ∷ [])
    ∷ example (with_items 2 (sizes 1 1 1)) (writes_first ++ by 0 (129 ∷ 98 ∷ [])) 6 4 written
    (free (opened 0 0 ∷ []) nobody_waits (at WriteLook 0 ∷ [])) (33 ∷ 0 ∷ 0 ∷ 97 ∷ [])
    ∷ example (sizes 1 1 1) (writes_first ++ by 0 (96 ∷ [])) 6 3 written unheld (33 ∷ 0 ∷ 0 ∷ [])
    ∷ []

unfoldable pub AllEnd : List Example → Type 0
unfolding run runs
AllEnd = AllGive (λ (x : Schedule). ending x.sizes (run x.sizes fresh_pair x.rows))

-- ---- document 01's runs as files: what the bench gives for them

-- the answer, the rows taken, and the state of both locks, of which the first is shown as document 01 names it
abbrev benched : Sizes → GivenOf Pair Entry → Option Pair → Option (lock.Ending × State)
benched z r none = none
benched z r (some s) = some (record { answer = r.answer; taken = r.taken; state = shown z s.one }, s.two)

-- the shared claim: the file of each run of a list ends as it says, and leaves the second lock fresh
unfoldable pub AllBenched : List lock.Example → Type 0
unfolding bench
AllBenched xs =
    map (λ (x : lock.Example). let y = x.gets in
    let r = bench (filed y.sizes y.rows) (2 * length y.rows) in benched y.sizes r r.state) xs
    ≡ map (λ (x : lock.Example). some (x.gives, fresh)) xs

-- ---- the small inputs

-- a file, and the length of the journal
pub record Input : Type 0 where
  pub file : List ℕ
  pub journal : ℕ

-- and the answer to them
abbrev input : ℕ → List ℕ → ℕ → ExampleOf Input ℕ
input n b j = record { gets = record { file = b; journal = j }; gives = n }

-- the column "Small input" for refusals 1 to 7; the journal is of 2 × S bytes where none is named
unfoldable pub inputs : List (ExampleOf Input ℕ)
inputs =
    input 1 (1 ∷ 1 ∷ 1 ∷ []) 0
    ∷ input 2 (0 ∷ 1 ∷ 1 ∷ 0 ∷ 0 ∷ []) 0
    ∷ input 3 (1 ∷ 1 ∷ 1 ∷ 1 ∷ 0 ∷ 0 ∷ []) 2
    ∷ input 4 (1 ∷ 1 ∷ 1 ∷ 1 ∷ 0 ∷ 0 ∷ 0x40 ∷ []) 1
    ∷ input 5 (1 ∷ 1 ∷ 1 ∷ 1 ∷ 0 ∷ 1 ∷ 0x40 ∷ []) 2
    ∷ input 6 (1 ∷ 1 ∷ 1 ∷ 1 ∷ 0 ∷ 0 ∷ 0x41 ∷ []) 2
    ∷ input 7 (1 ∷ 1 ∷ 1 ∷ 1 ∷ 0 ∷ 0 ∷ 0 ∷ []) 2
    ∷ []

unfoldable pub AllAnswered : List (ExampleOf Input ℕ) → Type 0
unfolding bench
AllAnswered = AllGive (λ (x : Input). (bench x.file x.journal).answer)

-- ---- the sheet's example

-- "`02 01 02 06 00`, six bytes `00`, then `41` and five `00`"
unfoldable pub worked : List ℕ
worked = 0x02 ∷ 0x01 ∷ 0x02 ∷ 0x06 ∷ 0x00 ∷ 0 ∷ 0 ∷ 0 ∷ 0 ∷ 0 ∷ 0 ∷ 0x41 ∷ 0 ∷ 0 ∷ 0 ∷ 0 ∷ 0 ∷ []

-- what document 01 writes, and "the second lock's lines after the first's, without an answer line"
unfoldable pub worked_sheet : List ℕ
unfolding worked_lines text
worked_sheet = worked_lines ++ text "root 0 0 open\nnode 1 0\nqueue free 0 0\nthread 0 idle - 0\nthread 1 idle - 0\n"

-- ---- every kind of entry but a booking's, and every field of the sheet

-- the run of `lock` specs/Examples; then thread 3, which reads the first lock, writes the second and downgrades there,
-- where it finds the queue empty
unfoldable pub every_file : List ℕ
every_file = filed (sizes 2 1 4) (every_kind ++ by 3 (129 ∷ 0 ∷ 0 ∷ 132 ∷ 0 ∷ 0 ∷ 0 ∷ 0 ∷ []))

unfoldable pub every_sheet : List ℕ
unfolding every_lines text
every_sheet =
    text "answer 0 at 75\n" ++ every_lines ++ text "root 1 0 open\nnode 1 0\nqueue free 0 0\n"
    ++ text "thread 0 idle - 0\nthread 1 idle - 0\nthread 2 idle - 0\nthread 3 reading 0 0\n"

unfoldable pub every_journal : List ℕ
unfolding every_entries
every_journal =
    kinds every_entries ++ (0x00 ∷ 0x01 ∷ 0x02 ∷ 0x00 ∷ 0x06 ∷ 0x08 ∷ 0x05 ∷ 0x07 ∷ [])
    ++ words every_entries ++ (0x61 ∷ 0x40 ∷ 0x40 ∷ 0x61 ∷ 0x60 ∷ 0x60 ∷ 0x40 ∷ 0x60 ∷ [])
