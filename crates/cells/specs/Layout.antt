-- The layout of the lock's array, by the names that src/lib.rt has (`Cell`, `Pc`): where it has what, and the program
-- counters that definitions and contracts name.
use Rattle.std.specs.Prelude.{ℕ}

-- ---- places; the words are first, word w at place w

-- the thread that has the mutex, or FREE
abbrev pub MUTEX : ℕ
MUTEX = 32

-- the set of queued readers
abbrev pub READERS : ℕ
READERS = 33

-- the place of the ring at which the writer is who has waited longest
abbrev pub FIRST : ℕ
FIRST = 34

-- the number of queued writers
abbrev pub WRITERS : ℕ
WRITERS = 35

-- the ring of the queued writers' numbers
abbrev pub RING : ℕ
RING = 64

-- columns with a number for each thread: its program counter
abbrev pub PC : ℕ
PC = 128

-- the node it is at
abbrev pub NODE : ℕ
NODE = 192

-- the route of its read-lock, which is its ticket once it reads
abbrev pub ROUTE : ℕ
ROUTE = 256

-- the node below, to which a departure inside an arrival comes back
abbrev pub BELOW : ℕ
BELOW = 320

-- the word seen last, or the set in hand
abbrev pub SEEN : ℕ
SEEN = 384

-- its failures
abbrev pub FAILURES : ℕ
FAILURES = 448

-- ---- numbers there

-- no thread has the mutex
abbrev pub FREE : ℕ
FREE = 64

-- the ring's places
abbrev pub PLACES : ℕ
PLACES = 64

-- ---- program counters, by their place in `phases` (View)

abbrev pub IDLE : ℕ
IDLE = 0

abbrev pub WRITING : ℕ
WRITING = 1

abbrev pub READING : ℕ
READING = 2

-- reads of a departure: one that ends an unlock, one inside an arrival, one inside an upgrade
abbrev pub DEPART : ℕ
DEPART = 9

abbrev pub OWED : ℕ
OWED = 11

abbrev pub TRADED : ℕ
TRADED = 13

-- the first row that is not of the tree
abbrev pub QUEUE-READ : ℕ
QUEUE-READ = 17

-- the first of the rows that take the mutex
abbrev pub QUEUE-TAKE : ℕ
QUEUE-TAKE = 44

-- a thread sleeps
abbrev pub ASLEEP : ℕ
ASLEEP = 49
