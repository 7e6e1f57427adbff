-- The queue of waiting threads. Document 02, Two, after section 5 of the paper: "readers hand over to writers and
-- writers to readers".
use Rattle.std.specs.Prelude.{ℕ, zero, suc, ◌+◌, ◌-◌, ◌/◌, ◌%◌, ◌^◌, Bool, true, false, List, [], ◌∷◌, ◌++◌, eqb, ltb, length}
use Rattle.std.proofs.Math.Option.{Option, none, some}
use Rattle.std.specs.Int.Bits.{bit_or}
use Rattle.std.specs.Int.Count.{ones}
use Rattle.std.specs.Prelude.{if◌then◌else◌}
pub use Rattle.lock.specs.declared.Group.{Group}

-- "A group is a set of thread numbers, one bit each in a 64-bit word"
abbrev pub readers : ℕ → Group
readers b = record { exclusive = 0; members = b }

abbrev pub writer : ℕ → Group
writer b = record { exclusive = 1; members = b }

abbrev pub is_writer : Group → Bool
is_writer g = eqb g.exclusive 1

-- the set that has thread t alone
abbrev pub only : ℕ → ℕ
only t = 2 ^ t

-- thread t's bit in a set; the lowest bit is the first thread's
abbrev pub bit_at : ℕ → ℕ → ℕ
bit_at b zero = b % 2
bit_at b (suc t) = bit_at (b / 2) t

-- "Its size is the count of its ones"
unfoldable pub size : ℕ → ℕ
unfolding ones
size b = ones b

-- Who waits: "All queued readers form one group", a set, and the writers by number, the one "who has waited longest"
-- first; and, stored beside them, "the number of waiting writers" (document 02, Five).
pub record Waiters : Type 0 where
  pub readers : ℕ
  pub writers : List ℕ
  pub waiting : ℕ

abbrev pub nobody_waits : Waiters
nobody_waits = record { readers = 0; writers = []; waiting = 0 }

abbrev pub with_readers : ℕ → Waiters → Waiters
with_readers b q = record { readers = b; writers = q.writers; waiting = q.waiting }

-- the writers, and their number
abbrev pub with_writers : List ℕ → ℕ → Waiters → Waiters
with_writers ws n q = record { readers = q.readers; writers = ws; waiting = n }

-- "one group, which a reader joins even behind a writer"
abbrev pub join_reader : ℕ → Waiters → Waiters
join_reader t q = with_readers (bit_or q.readers (only t)) q

-- "a writer is a group alone": it waits behind the writers who came before it
abbrev pub join_writer : ℕ → Waiters → Waiters
join_writer t q = with_writers (q.writers ++ t ∷ []) (q.waiting + 1) q

-- thread t joins, as a writer or as a reader
abbrev pub joined : Bool → ℕ → Waiters → Waiters
joined true t q = join_writer t q
joined false t q = join_reader t q

-- is "a writer still queued"? Document 02, Five: "figure 3 reads a number"
abbrev pub writer_queued : Waiters → Bool
writer_queued q = ltb 0 q.waiting

-- the writer who has waited longest, as a group, and the writers without it
abbrev pub longest : List ℕ → Option Group
longest [] = none
longest (w ∷ ws) = some (writer (only w))

abbrev pub behind_longest : List ℕ → List ℕ
behind_longest [] = []
behind_longest (w ∷ ws) = ws

-- who waits once the group of readers has left, and once that writer has
abbrev pub without_readers : Waiters → Waiters
without_readers q = with_readers 0 q

abbrev pub without_longest : Waiters → Waiters
without_longest q = with_writers (behind_longest q.writers) (q.waiting - 1) q

-- Who takes the next group, the last reader or a leaving writer? "A leaving writer takes that group if there is one,
-- else the writer who has waited longest. The last reader to leave takes that writer." Does the set b of queued readers
-- leave?
abbrev pub readers_leave : Bool → ℕ → Bool
readers_leave true b = false
readers_leave false b = ltb 0 b

-- the next group, and what is left in the queue
abbrev pub next_group : Bool → Waiters → Option Group
next_group last q = if readers_leave last q.readers then some (readers q.readers) else longest q.writers

abbrev pub left : Bool → Waiters → Waiters
left last q = if readers_leave last q.readers then without_readers q else without_longest q

-- the sheet's "number of groups": the queued writers, and one more if readers are queued
abbrev pub groups : Waiters → ℕ
groups q = length q.writers + (if ltb 0 q.readers then 1 else 0)
