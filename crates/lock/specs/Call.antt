-- The calls of documents 01 and 02, row by row: for each phase the atomic operation of its next row, with what follows
-- it. What an operation does to the state, and which journal entry it makes, is in State. "One row, one step": a
-- beginning touches no word; after that, "read" remembers a word, and "swap" writes only if the word equals what was
-- remembered.
use Rattle.std.specs.Prelude.{ℕ, ◌+◌, ◌-◌, Bool, true, false, eqb, ltb}
use Rattle.std.proofs.Math.Option.{Option, none, some}
use Rattle.std.specs.Prelude.{if◌then◌else◌}
use Rattle.lock.specs.Word.{Word, opened, closed, is_closed, is_zero, is_sole, same, up, down, up_direct, down_direct}
use Rattle.lock.specs.Word.{shut}
use Rattle.lock.specs.Tree.{parent, toward}
use Rattle.lock.specs.Queue.{Group, readers, is_writer, size}
use Rattle.lock.specs.declared.Sizes.{Sizes}
use Rattle.lock.specs.Phase.{Then, Leaving, Upgrading, Inside, Phase, Idle, Writing, Asleep, Reading, Look, Enter}
use Rattle.lock.specs.Phase.{Climb, ClimbSwap, Descend, Again, AgainSwap, Depart, DepartSwap, Leave, LeaveSwap}
use Rattle.lock.specs.Phase.{QueueTake, QueueRead, QueueBack, QueueJoin, Sleep, WriteLook, WriteEnter, WriteTake}
use Rattle.lock.specs.Phase.{WriteRead, WriteClose, WriteHold, WriteJoin, UnlockTake, UnlockNext, UnlockOpen}
use Rattle.lock.specs.Phase.{UnlockEnd, UnlockStore, LastTake, LastNext, HandRelease, HandWake, UpgradeTrade}
use Rattle.lock.specs.Phase.{UpgradeEnter, UpgradeLook, UpgradeSwap, DowngradeTake, DowngradeNext, DowngradeStore}
use Rattle.lock.specs.Phase.{DowngradeRelease, DowngradeWake, Standing, standing}

-- An operation, with the phases that follow it.
pub data Op : Type 0 where
  begin : Phase → Op  -- a call begins
  read : ℕ → (Word → Phase) → Op  -- the word; what follows, by what it has
  ask : (Word → Option Phase) → Phase → Op  -- read the root for an upgrade; what follows if granted; if denied
  swap : ℕ → Word → Word → Phase → Phase → Op  -- the word, from, to; done; the read before it, for a failure
  stay : Op  -- held up, as a sleeper is
  store : (Bool → Word) → Phase → Op  -- the root, by whether a writer is queued
  lock : Phase → Op  -- take the mutex; held up where it is taken
  release : Phase → Op  -- release the mutex
  join : Bool → Phase → Op  -- join the queue, as a writer or as a reader
  next : Bool → (Option Group → Phase) → Op  -- take the next group, as the last reader or a writer; what follows, by it
  take_readers : (ℕ → Phase) → Op  -- take the queued readers, if any; what follows, by their set
  wake : Group → Phase → Op  -- wake a group; what follows
  note : Op  -- a booking: it moves nothing and is entered
  refuse : ℕ → Op

-- ---- what follows

-- *Read-lock by n.* "Look: read the root; closed leads to the queue. Open and n = 0: swap count + 1 … Open and n above
-- 0: arrive at n."
abbrev pub looked : ℕ → Word → Phase
looked n v = if is_closed v then QueueTake n else if eqb n 0 then Enter v else Climb n n

-- *Arrive at c, not yet arrived above.* "If 0, go on to the parent without writing c; otherwise swap + 1 … At the root:
-- read; (0, closed) fails the whole arrival, which leads to the queue; else swap count + 1"
abbrev pub climbed : ℕ → ℕ → ℕ → Word → Phase
climbed F c n v =
    if eqb c 0 then (if same v (closed 0 0) then QueueTake n else ClimbSwap c n v)
    else if same v (opened 0 0) then Climb (parent F c) n else ClimbSwap c n v

-- Success at c. "After success above, come down the path node by node … At n itself either swap … ends the call with
-- ticket n."
abbrev pub arrived : ℕ → ℕ → ℕ → Phase
arrived F c n = if eqb c n then Reading n else Descend (toward F n c) n

-- c was swapped from v on the way down. "If the value swapped from on this way down was not 0, depart from the parent …
-- Then go on down."
abbrev pub settled : ℕ → ℕ → ℕ → Word → Phase
settled F c n v = if is_zero v then arrived F c n else Depart (parent F c) (Inside n c)

-- The departure ends. *Unlock by a reader.* "If last: take the mutex". "The answer of a departure inside an arrival is
-- ignored." An upgrade, arrived directly, "then does the same with ticket 0".
abbrev pub ended : ℕ → Then → Bool → Phase
ended F Leaving last = if last then LastTake else Idle
ended F Upgrading last = UpgradeLook
ended F (Inside n c) last = arrived F c n

-- d was swapped to v. "from 1, depart from the parent too. At the root the departure is the last exactly if the new
-- word is (0, closed)."
abbrev pub departed : ℕ → ℕ → Then → Word → Phase
departed F d k v =
    if eqb d 0 then ended F k (same v (closed 0 0))
    else if is_zero v then Depart (parent F d) k else ended F k false

-- *Queue, for a reader.* "read the root; if open, release and look again. If closed, join"
abbrev pub queue_found : ℕ → Word → Phase
queue_found n v = if is_closed v then QueueJoin else QueueBack n

-- *Write-lock.* "Read the root; if (0, open), swap to (0, closed), done. Otherwise take the mutex"
abbrev pub write_looked : Word → Phase
write_looked v = if same v (opened 0 0) then WriteEnter else WriteTake

-- "read the root; if closed, join, release, sleep; if open, swap to closed with the count kept"
abbrev pub write_found : Word → Phase
write_found v = if is_closed v then WriteJoin else WriteClose v

-- "then with count 0 release and hold, else join"
abbrev pub write_closed : Word → Phase
write_closed v = if is_zero v then WriteHold else WriteJoin

-- *Unlock by a writer.* "take the next group. None: store (0, open), release. Readers: store … A writer: release,
-- wake." *Unlock by a reader.* "The last reader to leave takes that writer … release, wake". It always finds one (laws,
-- specs/Departing).
abbrev pub unlock_got : Option Group → Phase
unlock_got none = UnlockOpen
unlock_got (some g) = if is_writer g then HandRelease g else UnlockStore g.members

-- "store (size of group, closed if a writer is still queued, else open)": n readers come to hold with ticket 0, so the
-- count is direct
abbrev pub stored : ℕ → Bool → Word
stored n queued = if queued then closed n 0 else opened n 0

-- *Upgrade.* "at direct 1 and tree 0 it swaps to (0, 0, closed) and writes; otherwise that read denies it"
abbrev pub upgrade_found : Word → Option Phase
upgrade_found v = if is_sole v then some (UpgradeSwap v) else none

-- *Downgrade.* "releases, wakes them if any, and reads with ticket 0"
abbrev pub downgraded : ℕ → Phase
downgraded b = if eqb b 0 then Reading 0 else DowngradeWake b

-- ---- the pseudocode

-- The operation of the next row of a thread that goes on (order 0), by its phase. Refusal 7: "0 while idle or holding".
-- "A step … by a sleeper, is held up".
unfoldable pub op : ℕ → Phase → Op
unfolding toward size
op F Idle = refuse 7
op F Writing = refuse 7
op F Asleep = stay
op F (Reading k) = refuse 7
-- Read-lock by n
op F (Look n) = read 0 (looked n)
op F (Enter v) = swap 0 v (up_direct v) (Reading 0) (Look 0)
-- Arrive at c
op F (Climb c n) = read c (climbed F c n)
op F (ClimbSwap c n v) = swap c v (up v) (arrived F c n) (Climb c n)
-- "swap to 1 from the 0 read on the way up, with no new read; after a failure, read and swap + 1, even from 0"
op F (Descend c n) = swap c (opened 0 0) (opened 0 1) (arrived F c n) (Again c n)
op F (Again c n) = read c (AgainSwap c n)
op F (AgainSwap c n v) = swap c v (up v) (settled F c n v) (Again c n)
-- Depart from d: "Read, swap − 1"; and who arrived directly, from the direct count. It is always above 0 (laws,
-- specs/Departing).
op F (Depart d k) = read d (DepartSwap d k)
op F (DepartSwap d k v) = swap d v (down v) (departed F d k (down v)) (Depart d k)
op F Leave = read 0 LeaveSwap
op F (LeaveSwap v) = swap 0 v (down_direct v) (ended F Leaving (same (down_direct v) (closed 0 0))) Leave
-- Queue, for a reader: "Take the mutex; read the root … join, release; the release row begins the sleep, here and
-- below"
op F (QueueTake n) = lock (QueueRead n)
op F (QueueRead n) = read 0 (queue_found n)
op F (QueueBack n) = release (Look n)
op F QueueJoin = join false Sleep
op F Sleep = release Asleep
-- Write-lock
op F WriteLook = read 0 write_looked
op F WriteEnter = swap 0 (opened 0 0) (closed 0 0) Writing WriteLook
op F WriteTake = lock WriteRead
op F WriteRead = read 0 write_found
op F (WriteClose v) = swap 0 v (shut v) (write_closed v) WriteRead
op F WriteHold = release Writing
op F WriteJoin = join true Sleep
-- Unlock by a writer
op F UnlockTake = lock UnlockNext
op F UnlockNext = next false unlock_got
op F UnlockOpen = store (λ queued. opened 0 0) UnlockEnd
op F UnlockEnd = release Idle
op F (UnlockStore b) = store (stored (size b)) (HandRelease (readers b))
-- Unlock by a reader, the last
op F LastTake = lock LastNext
op F LastNext = next true unlock_got
-- "release, wake"
op F (HandRelease g) = release (HandWake g)
op F (HandWake g) = wake g Idle
-- Upgrade: "With another ticket it first arrives directly at the root, state kept, departs from its node, and then does
-- the same with ticket 0." "With ticket 0 the thread reads the root … the thread goes on reading. A failed swap that
-- finds otherwise denies it too"
op F (UpgradeTrade n) = read 0 (UpgradeEnter n)
op F (UpgradeEnter n v) = swap 0 v (up_direct v) (Depart n Upgrading) (UpgradeTrade n)
op F UpgradeLook = ask upgrade_found (Reading 0)
op F (UpgradeSwap v) = swap 0 v (closed 0 0) Writing UpgradeLook
-- Downgrade: "takes the mutex, takes the sleeping readers if there are any …, stores direct count 1 plus the size of
-- that group, closed if a writer is queued and open if not, releases, wakes them if any, and reads with ticket 0"
op F DowngradeTake = lock DowngradeNext
op F DowngradeNext = take_readers DowngradeStore
op F (DowngradeStore b) = store (stored (1 + size b)) (DowngradeRelease b)
op F (DowngradeRelease b) = release (downgraded b)
op F (DowngradeWake b) = wake (readers b) (Reading 0)

-- ---- orders

-- "Orders: 0 go on; 1 write-lock; 2 unlock; 64 + n read-lock by node n, n below N"; document 02: "order 3, upgrade",
-- "order 4, downgrade"; "order 96 + e books entry e in one row"
pub data Order : Type 0 where
  go_on write_lock unlock upgrade downgrade : Order
  read_lock book : ℕ → Order

-- one decoding, with the ranges 0, 1, 2, 3, 4, 64 to 95, 96 to 127, the node then checked against N, the item against
-- E. Refusal 6: "order is none of the above", "an entry number of E or more"
abbrev pub decode : Sizes → ℕ → Option Order
decode z o =
    if eqb o 0 then some go_on
    else if eqb o 1 then some write_lock
    else if eqb o 2 then some unlock
    else if eqb o 3 then some upgrade
    else if eqb o 4 then some downgrade
    else if ltb o 64 then none
    else if ltb o 96 then (if ltb (o - 64) z.nodes then some (read_lock (o - 64)) else none)
    else if ltb o 128 then (if ltb (o - 96) z.items then some (book (o - 96)) else none)
    else none

-- A call that an idle thread begins. Refusal 7: "1 or 64 + n while not idle"
abbrev pub beginning : Phase → Standing → Op
beginning p Standing.Idle = begin p
beginning p (Standing.Reading k) = refuse 7
beginning p Standing.Writing = refuse 7
beginning p Standing.Calling = refuse 7
beginning p Standing.Asleep = refuse 7

-- A reader's unlock and its upgrade, by its ticket: who has ticket 0 is counted directly
abbrev pub departs : ℕ → Phase
departs k = if eqb k 0 then Leave else Depart k Leaving

abbrev pub upgrades : ℕ → Phase
upgrades k = if eqb k 0 then UpgradeLook else UpgradeTrade k

-- Unlock: by a reader "Depart from the ticket's node", by a writer "Take the mutex". Refusal 7: "2 while not holding"
abbrev pub unlocking : Standing → Op
unlocking Standing.Idle = refuse 7
unlocking (Standing.Reading k) = begin (departs k)
unlocking Standing.Writing = begin UnlockTake
unlocking Standing.Calling = refuse 7
unlocking Standing.Asleep = refuse 7

-- "It refuses order 3 to a thread not reading, with 7"
abbrev pub upgrading : Standing → Op
upgrading Standing.Idle = refuse 7
upgrading (Standing.Reading k) = begin (upgrades k)
upgrading Standing.Writing = refuse 7
upgrading Standing.Calling = refuse 7
upgrading Standing.Asleep = refuse 7

-- "It refuses order 4 to a thread not writing, with 7"
abbrev pub downgrading : Standing → Op
downgrading Standing.Idle = refuse 7
downgrading (Standing.Reading k) = refuse 7
downgrading Standing.Writing = begin DowngradeTake
downgrading Standing.Calling = refuse 7
downgrading Standing.Asleep = refuse 7

-- A booking is "by a thread that is writing". Refusal 7: "any other thread's booking"
abbrev pub booking : Standing → Op
booking Standing.Idle = refuse 7
booking (Standing.Reading k) = refuse 7
booking Standing.Writing = note
booking Standing.Calling = refuse 7
booking Standing.Asleep = refuse 7

-- what an order is to a thread in the phase p
unfoldable pub obey : ℕ → Phase → Option Order → Op
unfolding op standing
obey F p none = refuse 6
obey F p (some go_on) = op F p
obey F p (some write_lock) = beginning WriteLook (standing p)
obey F p (some unlock) = unlocking (standing p)
obey F p (some upgrade) = upgrading (standing p)
obey F p (some downgrade) = downgrading (standing p)
obey F p (some (read_lock n)) = beginning (Look n) (standing p)
obey F p (some (book e)) = booking (standing p)
