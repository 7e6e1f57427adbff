-- The runs P1 to P12 of document 01, some of document 02, and the lines and journal of P5: what each is to give.
-- (Examples of files are in the crate `pair`, specs/Examples.)
use Rattle.std.specs.Prelude.{ℕ, ◌≡◌, List, [], ◌∷◌, ◌++◌, map, length, take}
use Rattle.std.proofs.Math.Option.{none}
use Rattle.lock.specs.Word.{Word, opened, closed}
use Rattle.lock.specs.Queue.{Waiters, nobody_waits}
use Rattle.lock.specs.Journal.{Entry, entry, kinds}
use Rattle.lock.specs.Phase.{Phase, Idle, Writing, Asleep, Reading, Look, Enter, QueueTake, Thread}
use Rattle.lock.specs.State.{Sizes, State, fresh}
use Rattle.lock.specs.Machine.{runs}
use Rattle.lock.specs.Run.{Row, Result, run}
use Rattle.lock.specs.Text.{text}

-- ---- an example of any engine: what it gets, and what it gives for that

pub record ExampleOf (I O : Type 0) : Type 0 where
  pub gets : I
  pub gives : O

-- the shared claim: each example of a list gives what it says
abbrev pub AllGive : {I O : Type 0} → (I → O) → List (ExampleOf I O) → Type 0
AllGive {I} {O} f xs = map (λ (x : ExampleOf I O). f x.gets) xs ≡ map (λ (x : ExampleOf I O). x.gives) xs

-- ---- runs of rows

-- what document 01 names of a run: the answer, the rows taken, and the state, of which it shows N words and T threads
pub record Ending : Type 0 where
  pub answer : ℕ
  pub taken : ℕ
  pub state : State

abbrev pub shown : Sizes → State → State
shown z s = record {
  words = take z.nodes s.words;
  mutex = s.mutex;
  queue = s.queue;
  threads = take z.threads s.threads;
}

abbrev pub ending : Sizes → Result → Ending
ending z r = record { answer = r.answer; taken = r.taken; state = shown z r.state }

-- sizes, and the rows that are run with them
pub record Schedule : Type 0 where
  pub sizes : Sizes
  pub rows : List Row

abbrev pub Example : Type 0
Example = ExampleOf Schedule Ending

-- N, F, T; "Sizes not named are 1"
abbrev pub sizes : ℕ → ℕ → ℕ → Sizes
sizes N F T = record { nodes = N; fan = F; threads = T; items = 0 }

-- "t:o,o"
abbrev pub by : ℕ → List ℕ → List Row
by t os = map (λ (o : ℕ). record { thread = t; order = o }) os

-- a thread, and a state whose mutex is free
abbrev pub at : Phase → ℕ → Thread
at p f = record { phase = p; failures = f }

abbrev pub waiting : ℕ → List ℕ → Waiters
waiting b ws = record { readers = b; writers = ws; waiting = length ws }

abbrev pub free : List Word → Waiters → List Thread → State
free ws q hs = record { words = ws; mutex = none; queue = q; threads = hs }

abbrev example : Sizes → List Row → ℕ → ℕ → State → Example
example z rs n k s =
    record { gets = record { sizes = z; rows = rs }; gives = record { answer = n; taken = k; state = s } }

abbrev p2 : List Row
p2 = by 0 (64 ∷ 0 ∷ 0 ∷ [])

abbrev p3 : List Row
p3 = p2 ++ by 0 (2 ∷ 0 ∷ 0 ∷ [])

abbrev pub p5 : List Row
p5 = by 0 (65 ∷ 0 ∷ 0 ∷ 0 ∷ 0 ∷ 0 ∷ [])

abbrev p7 : List Row
p7 = by 0 (1 ∷ 0 ∷ 0 ∷ [])

abbrev p8 : List Row
p8 = by 0 (64 ∷ []) ++ by 1 (64 ∷ []) ++ by 0 (0 ∷ []) ++ by 1 (0 ∷ []) ++ by 0 (0 ∷ []) ++ by 1 (0 ∷ [])

abbrev p9 : List Row
p9 = p7 ++ by 1 (64 ∷ 0 ∷ 0 ∷ 0 ∷ 0 ∷ 0 ∷ [])

abbrev pub p11 : List Row
p11 = p2 ++ by 1 (65 ∷ 0 ∷ []) ++ by 2 (1 ∷ 0 ∷ 0 ∷ 0 ∷ 0 ∷ 0 ∷ 0 ∷ []) ++ by 1 (0 ∷ 0 ∷ 0 ∷ 0 ∷ [])

-- P1 to P12, with both endings of P7 and of P8
unfoldable pub examples : List Example
examples =
    example (sizes 1 1 1) [] 0 0 (free (opened 0 0 ∷ []) nobody_waits (at Idle 0 ∷ []))
    ∷ example (sizes 1 1 1) p2 0 3 (free (opened 1 0 ∷ []) nobody_waits (at (Reading 0) 0 ∷ []))
    ∷ example (sizes 1 1 1) p3 0 6 (free (opened 0 0 ∷ []) nobody_waits (at Idle 0 ∷ []))
    ∷ example (sizes 1 1 1) (p3 ++ by 0 (2 ∷ [])) 7 6 (free (opened 0 0 ∷ []) nobody_waits (at Idle 0 ∷ []))
    ∷ example (sizes 2 1 2) p5 0 6 (free (opened 0 1 ∷ opened 0 1 ∷ []) nobody_waits (at (Reading 1) 0 ∷ at Idle 0 ∷ []))
    ∷ example (sizes 2 1 2) (p5 ++ by 0 (2 ∷ 0 ∷ 0 ∷ 0 ∷ 0 ∷ [])) 0 11
    (free (opened 0 0 ∷ opened 0 0 ∷ []) nobody_waits (at Idle 0 ∷ at Idle 0 ∷ []))
    ∷ example (sizes 1 1 1) p7 0 3 (free (closed 0 0 ∷ []) nobody_waits (at Writing 0 ∷ []))
    ∷ example (sizes 1 1 1)
    (p7 ++ by 0 (2 ∷ 0 ∷ 0 ∷ 0 ∷ 0 ∷ [])) 0 8 (free (opened 0 0 ∷ []) nobody_waits (at Idle 0 ∷ []))
    ∷ example (sizes 1 1 2) p8 0 6
    (free (opened 1 0 ∷ []) nobody_waits (at (Reading 0) 0 ∷ at (Enter (opened 1 0)) 1 ∷ []))
    ∷ example (sizes 1 1 2)
    (p8 ++ by 1 (0 ∷ [])) 0 7 (free (opened 2 0 ∷ []) nobody_waits (at (Reading 0) 0 ∷ at (Reading 0) 1 ∷ []))
    ∷ example (sizes 1 1 2) p9 0 9 (free (closed 0 0 ∷ []) (waiting 2 []) (at Writing 0 ∷ at Asleep 0 ∷ []))
    ∷ example (sizes 1 1 2) (p9 ++ by 0 (2 ∷ 0 ∷ 0 ∷ 0 ∷ 0 ∷ 0 ∷ [])) 0 15
    (free (opened 1 0 ∷ []) nobody_waits (at Idle 0 ∷ at (Reading 0) 0 ∷ []))
    ∷ example (sizes 2 1 3) p11 0 16
    (free (closed 1 1 ∷ opened 0 1 ∷ []) (waiting 0 (2 ∷ [])) (at (Reading 0) 0 ∷ at (Reading 1) 0 ∷ at Asleep 0 ∷ []))
    ∷ example (sizes 1 1 1) (by 1 (64 ∷ [])) 5 0 (free (opened 0 0 ∷ []) nobody_waits (at Idle 0 ∷ []))
    ∷ []

-- ---- hand-overs, as document 02, Two, has them

-- thread t finds the root closed, queues and sleeps: as a reader, as a writer
abbrev queue_reader : ℕ → List Row
queue_reader t = by t (64 ∷ 0 ∷ 0 ∷ 0 ∷ 0 ∷ 0 ∷ [])

abbrev queue_writer : ℕ → List Row
queue_writer t = by t (1 ∷ 0 ∷ 0 ∷ 0 ∷ 0 ∷ 0 ∷ [])

-- thread 0 writes; a reader, a writer and a reader queue
abbrev mixed : List Row
mixed = p7 ++ queue_reader 1 ++ queue_writer 2 ++ queue_reader 3

-- thread 0 reads; a writer, who closes the root, a reader and a writer queue; thread 0, the last reader, unlocks
abbrev last_leaves : List Row
last_leaves = p2 ++ by 1 (1 ∷ 0 ∷ 0 ∷ 0 ∷ 0 ∷ 0 ∷ 0 ∷ [])
    ++ queue_reader 2 ++ queue_writer 3 ++ by 0 (2 ∷ 0 ∷ 0 ∷ 0 ∷ 0 ∷ 0 ∷ 0 ∷ [])

-- One group of readers, joined behind a writer; the leaving writer takes it. A leaving writer passes over a writer who
-- came first. The last reader takes the writer who has waited longest, with both kinds queued. A leaving writer who
-- finds no readers takes that writer.
unfoldable pub hand_overs : List Example
hand_overs =
    example (sizes 1 1 4) mixed 0 21
    (free (closed 0 0 ∷ []) (waiting 10 (2 ∷ [])) (at Writing 0 ∷ at Asleep 0 ∷ at Asleep 0 ∷ at Asleep 0 ∷ []))
    ∷ example (sizes 1 1 4) (mixed ++ by 0 (2 ∷ 0 ∷ 0 ∷ 0 ∷ 0 ∷ 0 ∷ [])) 0 27
    (free (closed 2 0 ∷ []) (waiting 0 (2 ∷ [])) (at Idle 0 ∷ at (Reading 0) 0 ∷ at Asleep 0 ∷ at (Reading 0) 0 ∷ []))
    ∷ example (sizes 1 1 3) (p7 ++ queue_writer 1 ++ queue_reader 2 ++ by 0 (2 ∷ 0 ∷ 0 ∷ 0 ∷ 0 ∷ 0 ∷ [])) 0 21
    (free (closed 1 0 ∷ []) (waiting 0 (1 ∷ [])) (at Idle 0 ∷ at Asleep 0 ∷ at (Reading 0) 0 ∷ []))
    ∷ example (sizes 1 1 4) last_leaves 0 29
    (free (closed 0 0 ∷ []) (waiting 4 (3 ∷ [])) (at Idle 0 ∷ at Writing 0 ∷ at Asleep 0 ∷ at Asleep 0 ∷ []))
    ∷ example (sizes 1 1 3) (p7 ++ queue_writer 1 ++ queue_writer 2 ++ by 0 (2 ∷ 0 ∷ 0 ∷ 0 ∷ 0 ∷ [])) 0 20
    (free (closed 0 0 ∷ []) (waiting 0 (2 ∷ [])) (at Idle 0 ∷ at Writing 0 ∷ at Asleep 0 ∷ []))
    ∷ []

-- ---- where the lock could fail to lock, document 02, Six

-- An arrival by the tree, whose look found the root open, finds it at (0, closed) and queues. A reader who leaves a
-- closed root at 2, directly and by a node, is not the last, and wakes nobody. A reader who leaves a node at 2 does not
-- depart from the parent.
unfoldable pub exclusions : List Example
exclusions =
    example (sizes 2 1 2) (by 1 (65 ∷ 0 ∷ []) ++ p7 ++ by 1 (0 ∷ 0 ∷ [])) 0 7
    (free (closed 0 0 ∷ opened 0 0 ∷ []) nobody_waits (at Writing 0 ∷ at (QueueTake 1) 0 ∷ []))
    ∷ example (sizes 1 1 3)
    (p2 ++ by 1 (64 ∷ 0 ∷ 0 ∷ []) ++ by 2 (1 ∷ 0 ∷ 0 ∷ 0 ∷ 0 ∷ 0 ∷ 0 ∷ []) ++ by 0 (2 ∷ 0 ∷ 0 ∷ [])) 0 16
    (free (closed 1 0 ∷ []) (waiting 0 (2 ∷ [])) (at Idle 0 ∷ at (Reading 0) 0 ∷ at Asleep 0 ∷ []))
    ∷ example (sizes 2 1 3)
    (p5 ++ by 1 (64 ∷ 0 ∷ 0 ∷ []) ++ by 2 (1 ∷ 0 ∷ 0 ∷ 0 ∷ 0 ∷ 0 ∷ 0 ∷ []) ++ by 0 (2 ∷ 0 ∷ 0 ∷ 0 ∷ 0 ∷ [])) 0 21
    (free (closed 1 0 ∷ opened 0 0 ∷ []) (waiting 0 (2 ∷ [])) (at Idle 0 ∷ at (Reading 0) 0 ∷ at Asleep 0 ∷ []))
    ∷ example (sizes 2 1 2) (p5 ++ by 1 (65 ∷ 0 ∷ 0 ∷ 0 ∷ []) ++ by 0 (2 ∷ 0 ∷ 0 ∷ [])) 0 13
    (free (opened 0 1 ∷ opened 0 1 ∷ []) nobody_waits (at Idle 0 ∷ at (Reading 1) 0 ∷ []))
    ∷ []

-- ---- upgrades and downgrades, as document 02, Seven and Eight, have them

-- thread 0 reads with ticket 0 and upgrades
abbrev upgraded : List Row
upgraded = p2 ++ by 0 (3 ∷ 0 ∷ 0 ∷ [])

-- thread 0 reads; a writer, who closes the root, queues; thread 0 upgrades before it
abbrev overtaken : List Row
overtaken = p2 ++ by 1 (1 ∷ 0 ∷ 0 ∷ 0 ∷ 0 ∷ 0 ∷ 0 ∷ []) ++ by 0 (3 ∷ 0 ∷ 0 ∷ [])

-- Alone with ticket 0; with ticket 1. Denied by the read, and by a failed swap. Denied after the arrival was traded for
-- a direct one. Before a queued writer, to whom it hands over. Refused to a thread that is idle, writes, or is in a
-- call.
unfoldable pub upgrade_runs : List Example
upgrade_runs =
    example (sizes 1 1 1) upgraded 0 6 (free (closed 0 0 ∷ []) nobody_waits (at Writing 0 ∷ []))
    ∷ example (sizes 2 1 1) (p5 ++ by 0 (3 ∷ 0 ∷ 0 ∷ 0 ∷ 0 ∷ 0 ∷ 0 ∷ 0 ∷ 0 ∷ [])) 0 15
    (free (closed 0 0 ∷ opened 0 0 ∷ []) nobody_waits (at Writing 0 ∷ []))
    ∷ example (sizes 1 1 2) (p2 ++ by 1 (64 ∷ 0 ∷ 0 ∷ []) ++ by 0 (3 ∷ 0 ∷ [])) 0 8
    (free (opened 2 0 ∷ []) nobody_waits (at (Reading 0) 0 ∷ at (Reading 0) 0 ∷ []))
    ∷ example (sizes 1 1 2) (p2 ++ by 0 (3 ∷ 0 ∷ []) ++ by 1 (64 ∷ 0 ∷ 0 ∷ []) ++ by 0 (0 ∷ [])) 0 9
    (free (opened 2 0 ∷ []) nobody_waits (at (Reading 0) 1 ∷ at (Reading 0) 0 ∷ []))
    ∷ example (sizes 2 1 2) (p5 ++ by 1 (65 ∷ 0 ∷ 0 ∷ 0 ∷ []) ++ by 0 (3 ∷ 0 ∷ 0 ∷ 0 ∷ 0 ∷ 0 ∷ [])) 0 16
    (free (opened 1 1 ∷ opened 0 1 ∷ []) nobody_waits (at (Reading 0) 0 ∷ at (Reading 1) 0 ∷ []))
    ∷ example (sizes 1 1 2) overtaken 0 13
    (free (closed 0 0 ∷ []) (waiting 0 (1 ∷ [])) (at Writing 0 ∷ at Asleep 0 ∷ []))
    ∷ example (sizes 1 1 2) (overtaken ++ by 0 (2 ∷ 0 ∷ 0 ∷ 0 ∷ 0 ∷ [])) 0 18
    (free (closed 0 0 ∷ []) nobody_waits (at Idle 0 ∷ at Writing 0 ∷ []))
    ∷ example (sizes 1 1 1) (by 0 (3 ∷ [])) 7 0 (free (opened 0 0 ∷ []) nobody_waits (at Idle 0 ∷ []))
    ∷ example (sizes 1 1 1) (p7 ++ by 0 (3 ∷ [])) 7 3 (free (closed 0 0 ∷ []) nobody_waits (at Writing 0 ∷ []))
    ∷ example (sizes 1 1 1) (by 0 (64 ∷ 3 ∷ [])) 7 1 (free (opened 0 0 ∷ []) nobody_waits (at (Look 0) 0 ∷ []))
    ∷ []

-- Back to the word that the upgrade's swap found. After a write-lock, and then unlocked. With a reader queued, who is
-- woken. With a writer queued, who is not. With a reader, a writer and a reader queued. Refused to a thread that reads.
unfoldable pub downgrade_runs : List Example
downgrade_runs =
    example (sizes 1 1 1)
    (upgraded ++ by 0 (4 ∷ 0 ∷ 0 ∷ 0 ∷ 0 ∷ [])) 0 11 (free (opened 1 0 ∷ []) nobody_waits (at (Reading 0) 0 ∷ []))
    ∷ example (sizes 1 1 1)
    (p7 ++ by 0 (4 ∷ 0 ∷ 0 ∷ 0 ∷ 0 ∷ 2 ∷ 0 ∷ 0 ∷ [])) 0 11 (free (opened 0 0 ∷ []) nobody_waits (at Idle 0 ∷ []))
    ∷ example (sizes 1 1 2) (p9 ++ by 0 (4 ∷ 0 ∷ 0 ∷ 0 ∷ 0 ∷ 0 ∷ [])) 0 15
    (free (opened 2 0 ∷ []) nobody_waits (at (Reading 0) 0 ∷ at (Reading 0) 0 ∷ []))
    ∷ example (sizes 1 1 2) (p7 ++ queue_writer 1 ++ by 0 (4 ∷ 0 ∷ 0 ∷ 0 ∷ 0 ∷ [])) 0 14
    (free (closed 1 0 ∷ []) (waiting 0 (1 ∷ [])) (at (Reading 0) 0 ∷ at Asleep 0 ∷ []))
    ∷ example (sizes 1 1 4) (mixed ++ by 0 (4 ∷ 0 ∷ 0 ∷ 0 ∷ 0 ∷ 0 ∷ [])) 0 27
    (free (closed 3 0 ∷ [])
    (waiting 0 (2 ∷ [])) (at (Reading 0) 0 ∷ at (Reading 0) 0 ∷ at Asleep 0 ∷ at (Reading 0) 0 ∷ []))
    ∷ example (sizes 1 1 1) (p2 ++ by 0 (4 ∷ [])) 7 3 (free (opened 1 0 ∷ []) nobody_waits (at (Reading 0) 0 ∷ []))
    ∷ []

-- "otherwise that read denies it, is journalled as kind 10"; "A failed swap that finds otherwise denies it too, still
-- as kind 3": the entries of these two runs, the kinds alone
unfoldable pub denied_kinds : List (List ℕ)
unfolding run runs
denied_kinds =
    kinds (run (sizes 1 1 2) fresh (p2 ++ by 1 (64 ∷ 0 ∷ 0 ∷ []) ++ by 0 (3 ∷ 0 ∷ []))).entries
    ∷ kinds (run (sizes 1 1 2) fresh (p2 ++ by 0 (3 ∷ 0 ∷ []) ++ by 1 (64 ∷ 0 ∷ 0 ∷ []) ++ by 0 (0 ∷ []))).entries
    ∷ []

-- ---- the shared claim: each run of a list ends as it says

unfoldable pub AllEnd : List Example → Type 0
unfolding run runs
AllEnd = AllGive (λ (x : Schedule). ending x.sizes (run x.sizes fresh x.rows))

-- ---- the sheet's example: P5

-- "it writes all of this"
unfoldable pub worked_lines : List ℕ
unfolding text
worked_lines = text "answer 0 at 6\nroot 0 1 open\nnode 1 1\nqueue free 0 0\nthread 0 reading 1 0\nthread 1 idle - 0\n"

-- "The journal of this run is `00 01 01 01 02 02`, then `21 00 01 00 00 01`."
unfoldable pub worked_journal : List ℕ
worked_journal = 0x00 ∷ 0x01 ∷ 0x01 ∷ 0x01 ∷ 0x02 ∷ 0x02 ∷ 0x21 ∷ 0x00 ∷ 0x01 ∷ 0x00 ∷ 0x00 ∷ 0x01 ∷ []

-- ---- every kind of entry but a booking's, and every field of the sheet

-- Thread 0 writes. 1 queues as a reader, sleeps and is held up. 0 downgrades, which wakes 1, and is denied an upgrade.
-- 2 closes the root and queues as a writer. 0 leaves; 1, the last reader, leaves and hands over to 2. 3 queues as a
-- reader. 2 leaves and hands over to 3. 0 comes to read by node 1, and a swap of 1 fails meanwhile. 2 closes the root
-- and queues again. 1 fails again, takes the mutex and joins the queue.
abbrev pub every_kind : List Row
every_kind =
    p7
    ++ queue_reader 1 ++ by 1 (0 ∷ [])
    ++ by 0 (4 ∷ 0 ∷ 0 ∷ 0 ∷ 0 ∷ 0 ∷ [])
    ++ by 0 (3 ∷ 0 ∷ [])
    ++ by 2 (1 ∷ 0 ∷ 0 ∷ 0 ∷ 0 ∷ 0 ∷ 0 ∷ [])
    ++ by 0 (2 ∷ 0 ∷ 0 ∷ [])
    ++ by 1 (2 ∷ 0 ∷ 0 ∷ 0 ∷ 0 ∷ 0 ∷ 0 ∷ [])
    ++ queue_reader 3
    ++ by 2 (2 ∷ 0 ∷ 0 ∷ 0 ∷ 0 ∷ 0 ∷ [])
    ++ by 0 (65 ∷ 0 ∷ 0 ∷ 0 ∷ []) ++ by 1 (64 ∷ 0 ∷ []) ++ by 0 (0 ∷ []) ++ by 1 (0 ∷ []) ++ by 0 (0 ∷ [])
    ++ by 2 (1 ∷ 0 ∷ 0 ∷ 0 ∷ 0 ∷ 0 ∷ 0 ∷ [])
    ++ by 1 (0 ∷ 0 ∷ 0 ∷ 0 ∷ [])

-- its entries, a line for each of these lines
unfoldable pub every_entries : List Entry
every_entries =
    entry 0 33 ∷ entry 1 0 ∷ entry 2 0
    ∷ entry 0 33 ∷ entry 1 0 ∷ entry 6 32 ∷ entry 1 0 ∷ entry 8 32 ∷ entry 7 32 ∷ entry 4 32
    ∷ entry 0 33 ∷ entry 6 32 ∷ entry 8 32 ∷ entry 5 0 ∷ entry 7 32 ∷ entry 9 32
    ∷ entry 0 33 ∷ entry 10 0
    ∷ entry 0 33 ∷ entry 1 0 ∷ entry 6 32 ∷ entry 1 0 ∷ entry 2 0 ∷ entry 8 32 ∷ entry 7 32
    ∷ entry 0 33 ∷ entry 1 0 ∷ entry 2 0
    ∷ entry 0 33 ∷ entry 1 0 ∷ entry 2 0 ∷ entry 6 32 ∷ entry 8 32 ∷ entry 7 32 ∷ entry 9 32
    ∷ entry 0 33 ∷ entry 1 0 ∷ entry 6 32 ∷ entry 1 0 ∷ entry 8 32 ∷ entry 7 32
    ∷ entry 0 33 ∷ entry 6 32 ∷ entry 8 32 ∷ entry 5 0 ∷ entry 7 32 ∷ entry 9 32
    ∷ entry 0 33 ∷ entry 1 0 ∷ entry 1 1 ∷ entry 1 0 ∷ entry 0 33 ∷ entry 1 0 ∷ entry 2 0 ∷ entry 3 0 ∷ entry 2 1
    ∷ entry 0 33 ∷ entry 1 0 ∷ entry 6 32 ∷ entry 1 0 ∷ entry 2 0 ∷ entry 8 32 ∷ entry 7 32
    ∷ entry 3 0 ∷ entry 6 32 ∷ entry 1 0 ∷ entry 8 32
    ∷ []

-- the lines of the state after it
unfoldable pub every_lines : List ℕ
unfolding text
every_lines =
    text "root 1 1 closed\nnode 1 1\nqueue 1 2 1\nthread 0 reading 1 0\nthread 1 calling - 2\n"
    ++ text "thread 2 asleep - 0\nthread 3 reading 0 0\n"
