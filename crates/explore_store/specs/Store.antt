-- The store of an exploration: records of eight numbers in the caller's slice, and the lock that each stands for.
use Rattle.std.specs.Prelude.{ℕ, suc, ◌+◌, ◌*◌, ◌/◌, ◌%◌, ◌<◌, ◌≤◌, ◌≡◌, ◌⊎◌, Bool, true, false}
use Rattle.std.specs.Prelude.{List, [], ◌∷◌, length, get_or, set, replicate}
use Rattle.lock.specs.Machine.{Row}
use Rattle.lock.specs.State.{State}
use Rattle.cells.specs.Layout.{MUTEX, READERS, WRITERS, RING, PC, NODE, ROUTE, BELOW, SEEN, FAILURES}
use Rattle.cells.specs.View.{state_of}
use Rattle.explore_store.specs.declared.Record.{Record}
use Rattle.explore_store.specs.declared.Key.{Key}
use Rattle.explore_store.specs.declared.States.{States}

-- ---- records in the store

-- record i is the eight numbers from place 8 i on
abbrev pub record_at : List ℕ → ℕ → Record
record_at st i =
    record {
      head = get_or st (8 * i) 0;
      failures = get_or st (8 * i + 1) 0;
      others = get_or st (8 * i + 2) 0;
      lock = get_or st (8 * i + 3) 0;
      first = get_or st (8 * i + 4) 0;
      second = get_or st (8 * i + 5) 0;
      third = get_or st (8 * i + 6) 0;
      fourth = get_or st (8 * i + 7) 0;
    }

-- the store with the numbers xs in the places p + k and on
abbrev pub puts : List ℕ → ℕ → ℕ → List ℕ → List ℕ
puts st p k [] = st
puts st p k (x ∷ xs) = puts (set st (p + k) x) p (suc k) xs

-- the store with r as record n
abbrev pub stored : List ℕ → ℕ → Record → List ℕ
stored st n r =
    puts st (8 * n) 0 (r.head ∷ r.failures ∷ r.others ∷ r.lock
    ∷ r.first ∷ r.second ∷ r.third ∷ r.fourth ∷ [])

-- ---- the head: the record from which a row led to it, how many rows have led there, and the row

abbrev pub head_of : ℕ → ℕ → ℕ → ℕ → ℕ
head_of parent depth thread order = order + 256 * thread + 65536 * depth + 4294967296 * parent

abbrev pub parent_at : List ℕ → ℕ → ℕ
parent_at st i = (record_at st i).head / 4294967296

abbrev pub depth_at : List ℕ → ℕ → ℕ
depth_at st i = (record_at st i).head / 65536 % 65536

abbrev pub thread_at : List ℕ → ℕ → ℕ
thread_at st i = (record_at st i).head / 256 % 256

abbrev pub order_at : List ℕ → ℕ → ℕ
order_at st i = (record_at st i).head % 256

abbrev pub row_at : List ℕ → ℕ → Row
row_at st i = record { thread = thread_at st i; order = order_at st i }

-- ---- the lock that a record stands for

-- Words 0 to 7 of a lock, its mutex and its queue: of the root what is not of the tree, the mutex, the set of readers
-- and the number of writers in 8 bits each, then of each word the arrivals from nodes in 4 bits.
abbrev pub with_lock : List ℕ → ℕ → List ℕ
with_lock l x =
    set (set (set (set (set (set (set (set (set (set (set l 0 (x % 256 + 131072 * (x / 4294967296 % 16)))
    1 (131072 * (x / 4294967296 / 16 % 16))) 2 (131072 * (x / 4294967296 / 256 % 16)))
    3 (131072 * (x / 4294967296 / 4096 % 16))) 4 (131072 * (x / 4294967296 / 65536 % 16)))
    5 (131072 * (x / 4294967296 / 1048576 % 16))) 6 (131072 * (x / 4294967296 / 16777216 % 16)))
    7 (131072 * (x / 4294967296 / 268435456 % 16))) MUTEX (x / 256 % 256)) READERS (x / 65536 % 256))
    WRITERS (x / 16777216 % 256)

-- Thread t in 32 bits: its program counter, node, route and node below, the word seen (what is not of the tree, and the
-- arrivals from nodes), and the number at place t of the ring; f are its failures.
abbrev pub with_thread : List ℕ → ℕ → ℕ → ℕ → List ℕ
with_thread l t x f =
    set (set (set (set (set (set (set l (PC + t) (x % 64)) (NODE + t) (x / 64 % 8)) (ROUTE + t) (x / 512 % 8))
    (BELOW + t) (x / 4096 % 8)) (SEEN + t) (x / 32768 % 256 + 131072 * (x / 8388608 % 16)))
    (RING + t) (x / 134217728 % 8)) (FAILURES + t) f

-- two threads in 64 bits; each has 16 bits of failures
abbrev pub with_pair : List ℕ → ℕ → ℕ → ℕ → List ℕ
with_pair l t x f =
    with_thread (with_thread l t (x % 4294967296) (f % 65536)) (t + 1) (x / 4294967296) (f / 65536 % 65536)

-- the lock, then the threads two by two; every other number is 0
unfoldable pub lock_of : Record → List ℕ
lock_of r =
    with_pair (with_pair (with_pair (with_pair (with_lock (replicate 512 0) r.lock)
    0 r.first r.failures) 2 r.second (r.failures / 4294967296)) 4 r.third r.others)
    6 r.fourth (r.others / 4294967296)

unfoldable pub state_in : Record → State
unfolding lock_of state_of
state_in r = state_of (lock_of r)

abbrev pub lock_at : List ℕ → ℕ → List ℕ
lock_at st i = lock_of (record_at st i)

abbrev pub state_at : List ℕ → ℕ → State
state_at st i = state_in (record_at st i)

-- ---- a lock in numbers: which lock they stand for is found by unpacking them again

-- a number of the lock
abbrev pub at : List ℕ → ℕ → ℕ
at l p = get_or l p 0

abbrev pub tree_number : List ℕ → ℕ
tree_number l =
    at l 0 / 131072 % 16 + 16 * (at l 1 / 131072 % 16) + 256 * (at l 2 / 131072 % 16)
    + 4096 * (at l 3 / 131072 % 16) + 65536 * (at l 4 / 131072 % 16) + 1048576 * (at l 5 / 131072 % 16)
    + 16777216 * (at l 6 / 131072 % 16) + 268435456 * (at l 7 / 131072 % 16)

abbrev pub lock_number : List ℕ → ℕ
lock_number l =
    at l 0 % 256 + 256 * (at l MUTEX % 256) + 65536 * (at l READERS % 256) + 16777216 * (at l WRITERS % 256)
    + 4294967296 * tree_number l

abbrev pub thread_number : List ℕ → ℕ → ℕ
thread_number l t =
    at l (PC + t) % 64 + 64 * (at l (NODE + t) % 8) + 512 * (at l (ROUTE + t) % 8) + 4096 * (at l (BELOW + t) % 8)
    + 32768 * (at l (SEEN + t) % 256) + 8388608 * (at l (SEEN + t) / 131072 % 16) + 134217728 * (at l (RING + t) % 8)

abbrev pub pair_number : List ℕ → ℕ → ℕ
pair_number l t = thread_number l t + 4294967296 * thread_number l (t + 1)

abbrev pub failures_number : List ℕ → ℕ → ℕ
failures_number l t =
    at l (FAILURES + t) % 65536 + 65536 * (at l (FAILURES + t + 1) % 65536)
    + 4294967296 * (at l (FAILURES + t + 2) % 65536) + 281474976710656 * (at l (FAILURES + t + 3) % 65536)

-- the record of a lock
abbrev pub record_of : ℕ → List ℕ → Record
record_of h l =
    record {
      head = h;
      failures = failures_number l 0;
      others = failures_number l 4;
      lock = lock_number l;
      first = pair_number l 0;
      second = pair_number l 2;
      third = pair_number l 4;
      fourth = pair_number l 6;
    }

-- ---- two records, two stores

-- they have the same numbers but for the head and the failures
pub record SameKey (a b : Record) : Type 0 where
  pub lock : a.lock ≡ b.lock
  pub first : a.first ≡ b.first
  pub second : a.second ≡ b.second
  pub third : a.third ≡ b.third
  pub fourth : a.fourth ≡ b.fourth

abbrev pub key_of : Record → Key
key_of r = record { lock = r.lock; first = r.first; second = r.second; third = r.third; fourth = r.fourth }

-- the first n records stayed
pub record Before (n : ℕ) (st st' : List ℕ) : Type 0 where
  pub long : length st' ≡ length st
  pub same : (i : ℕ) → i < n → record_at st' i ≡ record_at st i

-- ---- a record added to n: then there are m, where ok is true

-- one of the first n records has its key; or there is no room; or it is record n now
pub record Found (st : List ℕ) (n : ℕ) (r : Record) (st' : List ℕ) (m : ℕ) (ok : Bool) : Type 0 where
  pub place : ℕ
  pub within : place < n
  pub key : SameKey (record_at st place) r
  pub same : st' ≡ st
  pub count : m ≡ n
  pub told : ok ≡ true

pub record Full (st : List ℕ) (n : ℕ) (st' : List ℕ) (m : ℕ) (ok : Bool) : Type 0 where
  pub same : st' ≡ st
  pub count : m ≡ n
  pub told : ok ≡ false

pub record New (st : List ℕ) (n : ℕ) (r : Record) (st' : List ℕ) (m : ℕ) (ok : Bool) : Type 0 where
  pub room : 8 * n + 8 ≤ length st
  pub here : st' ≡ stored st n r
  pub count : m ≡ n + 1
  pub told : ok ≡ true

abbrev pub Adds : List ℕ → ℕ → Record → List ℕ → ℕ → Bool → Type 0
Adds st n r st' m ok = Found st n r st' m ok ⊎ Full st n st' m ok ⊎ New st n r st' m ok

-- the two slices that are lent
abbrev pub names_of : States → ℕ × ℕ
names_of s = (s.records.ghost_name, s.index.ghost_name)

-- ---- the index: where a search begins, which decides how long it takes and nothing else

-- one number more in a number of 33 bits
abbrev pub mixed : ℕ → ℕ → ℕ
mixed h x =
    let y = (h % 4294967296 + x % 4294967296 + x / 4294967296 * 40503) % 4294967296 * 2654435761 in
    y % 4294967296 + y / 4294967296

-- a number for a record but for its head and the failures
abbrev pub hash_of : Record → ℕ
hash_of r = mixed (mixed (mixed (mixed (mixed 1 r.lock) r.first) r.second) r.third) r.fourth
