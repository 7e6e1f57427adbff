-- What each phase of a thread stands for in the lock, and the invariant of all runs. `place` is the one table by phase;
-- every measure of a phase is a field of the role that its place has.
use Rattle.laws.proofs.Lock.{ℕ, zero, suc, ◌+◌, ◌*◌, ◌-◌, ◌^◌, ◌≤◌, ◌<◌, zero-le, min, ◌≡◌, refl, ◌≢◌, true}
use Rattle.laws.proofs.Lock.{false, List, [], ◌∷◌, Option, none, some, le_refl, arith, length, get_or, set}
use Rattle.std.specs.Prelude.{if◌then◌else◌}
use Rattle.laws.proofs.Lock.{if-both, On, Word, closed, is_closed, total, is_sole, same, parent}
use Rattle.laws.proofs.Lock.{Group, readers, is_writer, only, size, Waiters, Then, Leaving, Upgrading, Inside}
use Rattle.laws.proofs.Lock.{Phase, Thread, Sizes, State, fresh_thread, word_at, thread_at, InRange, All}
use Rattle.laws.proofs.Sum.{sum_at, sum-set, sum-mem, bit_at, at, at-le, size-le, sum-some}

-- ---- roles

pub record Role : Type 0 where
  pub owes : ℕ → ℕ  -- arrivals by the tree, at each word, that the thread answers for
  pub direct : ℕ  -- direct arrivals at the root that it answers for
  pub own : ℕ  -- it owns the root at (0, closed)
  pub last : ℕ  -- it is the last reader, before it takes a writer
  pub joins : ℕ  -- a writer about to join
  pub inmutex : ℕ
  pub hand : ℕ  -- the set of threads that it took from the queue
  pub waits : ℕ  -- it is in the queue or in a hand
  pub sleeps : ℕ

abbrev pub nowhere : ℕ → ℕ
nowhere c = 0

-- direct arrivals and others
abbrev pub answering : ℕ → (ℕ → ℕ) → Role
answering d f =
    record { owes = f; direct = d; own = 0; last = 0; joins = 0; inmutex = 0; hand = 0; waits = 0; sleeps = 0 }

abbrev pub owing : (ℕ → ℕ) → Role
owing f = answering 0 f

-- own, last, joins, inmutex
abbrev pub plain : ℕ → ℕ → ℕ → ℕ → Role
plain o l j m =
    record { owes = nowhere; direct = 0; own = o; last = l; joins = j; inmutex = m; hand = 0; waits = 0; sleeps = 0 }

abbrev pub waiting : ℕ → ℕ → Role
waiting m x =
    record { owes = nowhere; direct = 0; own = 0; last = 0; joins = 0; inmutex = m; hand = 0; waits = 1; sleeps = x }

-- a set of readers in hand, the root not yet theirs
abbrev pub storing : ℕ → Role
storing b =
    record { owes = nowhere; direct = 0; own = 1; last = 0; joins = 0; inmutex = 1; hand = b; waits = 0; sleeps = 0 }

-- a group in hand, its readers counted in at the root, and x arrivals of its own
abbrev pub handing : ℕ → ℕ → Group → Role
handing m x g =
    record {
      owes = nowhere;
      direct = x + (if is_writer g then 0 else size g.members);
      own = if is_writer g then 1 else 0;
      last = 0;
      joins = 0;
      inmutex = m;
      hand = g.members;
      waits = 0;
      sleeps = 0;
    }

abbrev pub blank : Role
blank = owing nowhere

abbrev pub entered : Role
entered = answering 1 nowhere

abbrev pub direct_then : Then → ℕ
direct_then Leaving = 0
direct_then Upgrading = 1
direct_then (Inside n b) = 0

abbrev pub owes_then : Then → ℕ → ℕ → ℕ
owes_then Leaving d c = at d c
owes_then Upgrading d c = at d c
owes_then (Inside n b) d c = at d c + at b c

-- ---- places: the few kinds of roles, each with what is known of a phase's payload

-- a group's members: thread numbers below 64; a writer is alone
pub record Whole (g : Group) : Type 0 where
  pub within : g.members < 2 ^ 64
  pub alone : is_writer g ≡ true → size g.members ≡ 1

pub data Place : Type 1 where
  outside : Type 0 → Place  -- answers for nothing
  counted : ℕ → Type 0 → Place  -- counted in at a word
  entrant : Type 0 → Place  -- counted in at the root, directly
  -- counted in at the word that it departs from, inside an arrival at the node reached, in an upgrade directly
  departing : ℕ → Then → Type 0 → Place
  locked : Type 0 → Place  -- has the mutex
  joining : Place  -- has it, a writer about to join
  owner : ℕ → Place  -- the writer that holds, with the mutex (1) or without (0)
  last_reader : ℕ → Place  -- who made the root (0, closed) by departing: it owns the root as a writer does
  store : ℕ → Type 0 → Place  -- a writer that leaves or goes back to reading, about to store a set's size
  -- has a group in hand, that the root already stands for, as it does for x arrivals of its own
  hand : ℕ → ℕ → Group → Place
  drowsy sleeper : Place  -- waits: about to sleep, asleep

abbrev pub role_of : Place → Role
role_of (outside R) = blank
role_of (counted c R) = owing (at c)
role_of (entrant R) = entered
role_of (departing d k R) = answering (direct_then k) (owes_then k d)
role_of (locked R) = plain 0 0 0 1
role_of joining = plain 0 0 1 1
role_of (owner m) = plain 1 0 0 m
role_of (last_reader m) = plain 1 1 0 m
role_of (store b R) = storing b
role_of (hand m x g) = handing m x g
role_of drowsy = waiting 1 0
role_of sleeper = waiting 0 1

abbrev pub RightOf : Place → Type 0
RightOf (outside R) = R
RightOf (counted c R) = R
RightOf (entrant R) = R
RightOf (departing d k R) = R
RightOf (locked R) = R
RightOf joining = Unit {0}
RightOf (owner m) = Unit {0}
RightOf (last_reader m) = Unit {0}
RightOf (store b R) = R
RightOf (hand m x g) = (x ≤ 1) × Whole g
RightOf drowsy = Unit {0}
RightOf sleeper = Unit {0}

-- what every role has: a last reader owns the root, a joiner has the mutex, who waits sleeps or has the mutex
pub record Known (r : Role) : Type 0 where
  pub last : r.last ≤ r.own
  pub joins : r.joins ≤ r.inmutex
  pub waits : r.waits ≤ r.sleeps + r.inmutex
  pub once : r.waits ≤ 1
  pub sleeps : 0 < r.sleeps → r ≡ waiting 0 1

awake : (r : Role) → r.sleeps ≡ 0 → r.waits ≡ 0 → r.last ≤ r.own → r.joins ≤ r.inmutex → Known r
awake r s w l j = record {
  last = l;
  joins = j;
  waits = omega arith;
  once = omega arith;
  sleeps = λ h. absurd (omega arith);
}

pub known : (x : Place) → Known (role_of x)
known (outside R) = awake _ refl refl zero-le zero-le
known (counted c R) = awake _ refl refl zero-le zero-le
known (entrant R) = awake _ refl refl zero-le zero-le
known (departing d k R) = awake _ refl refl zero-le zero-le
known (locked R) = awake _ refl refl zero-le zero-le
known joining = awake _ refl refl zero-le (le_refl 1)
known (owner m) = awake _ refl refl zero-le zero-le
known (last_reader m) = awake _ refl refl (le_refl 1) zero-le
known (store b R) = awake _ refl refl zero-le zero-le
known (hand m x g) = awake _ refl refl zero-le zero-le
known drowsy =
    record { last = zero-le; joins = zero-le; waits = le_refl 1; once = le_refl 1; sleeps = λ h. absurd (omega arith) }
known sleeper = record { last = zero-le; joins = zero-le; waits = omega arith; once = le_refl 1; sleeps = λ h. refl }

-- by the tree a thread owes at most 2 at a word; directly at most 65, where the group in its hand is whole
pub most : (x : Place) → RightOf x → ((c : ℕ) → (role_of x).owes c ≤ 2) × ((role_of x).direct ≤ 65)
most (outside R) r = omega arith
most (counted d R) r = (λ c. omega (arith, at-le d c), zero-le)
most (entrant R) r = omega arith
most (departing d Leaving R) r = (λ c. omega (arith, at-le d c), zero-le)
most (departing d Upgrading R) r = (λ c. omega (arith, at-le d c), omega arith)
most (departing d (Inside n b) R) r = (λ c. omega (arith, at-le d c, at-le b c), zero-le)
most (locked R) r = omega arith
most joining r = omega arith
most (owner m) r = omega arith
most (last_reader m) r = omega arith
most (store b R) r = omega arith
most (hand m x g) r = (
  λ c. zero-le,
  if-both (λ (n : ℕ). x + n ≤ 65) (is_writer g) (λ e. omega arith)
      (λ e. omega (arith, size-le 64 g.members r.1.within)),
)
most drowsy r = omega arith
most sleeper r = omega arith

-- ---- the table

-- the route n of an arrival that is at c; on its way down it is above c
pub record Path (z : Sizes) (c n : ℕ) : Type 0 where
  pub route : n < z.nodes
  pub below : 0 < n
  pub on : On z.fan n c

abbrev pub Under : Sizes → ℕ → ℕ → Type 0
Under z c n = Path z c n × (0 < c)

abbrev pub Follows : Sizes → Then → Type 0
Follows z Leaving = Unit {0}
Follows z Upgrading = Unit {0}
Follows z (Inside n c) = Under z c n

-- who reads, by its ticket
abbrev pub ticket : ℕ → Type 0 → Place
ticket zero R = entrant R
ticket (suc k) R = counted (suc k) R

unfoldable pub place : Sizes → Phase → Place
place z Phase.Idle = outside (Unit {0})
place z Phase.Writing = owner 0
place z Phase.Asleep = sleeper
place z (Phase.Reading k) = ticket k (k < z.nodes)
place z (Phase.Look n) = outside (n < z.nodes)
place z (Phase.Enter v) = outside (is_closed v ≡ false)
place z (Phase.Climb c n) = outside (Path z c n)
place z (Phase.ClimbSwap c n v) = outside (Path z c n × (c ≡ 0 → same v (closed 0 0) ≡ false) × (c ≢ 0 → 0 < v.tree))
place z (Phase.Descend c n) = counted (parent z.fan c) (Under z c n)
place z (Phase.Again c n) = counted (parent z.fan c) (Under z c n)
place z (Phase.AgainSwap c n v) = counted (parent z.fan c) (Under z c n)
place z (Phase.Depart d k) = departing d k ((d < z.nodes) × Follows z k)
place z (Phase.DepartSwap d k v) = departing d k ((d < z.nodes) × Follows z k × (0 < v.tree))
place z Phase.Leave = entrant (Unit {0})
place z (Phase.LeaveSwap v) = entrant (0 < v.direct)
place z (Phase.QueueTake n) = outside (n < z.nodes)
place z (Phase.QueueRead n) = locked (n < z.nodes)
place z (Phase.QueueBack n) = locked (n < z.nodes)
place z Phase.QueueJoin = locked (Unit {0})
place z Phase.Sleep = drowsy
place z Phase.WriteLook = outside (Unit {0})
place z Phase.WriteEnter = outside (Unit {0})
place z Phase.WriteTake = outside (Unit {0})
place z Phase.WriteRead = locked (Unit {0})
place z (Phase.WriteClose v) = locked (is_closed v ≡ false)
place z Phase.WriteHold = owner 1
place z Phase.WriteJoin = joining
place z Phase.UnlockTake = owner 0
place z Phase.UnlockNext = owner 1
place z Phase.UnlockOpen = owner 1
place z Phase.UnlockEnd = locked (Unit {0})
place z (Phase.UnlockStore b) = store b ((0 < b) × Whole (readers b))
place z Phase.LastTake = last_reader 0
place z Phase.LastNext = last_reader 1
place z (Phase.HandRelease g) = hand 1 0 g
place z (Phase.HandWake g) = hand 0 0 g
place z (Phase.UpgradeTrade n) = counted n (n < z.nodes)
place z (Phase.UpgradeEnter n v) = counted n (n < z.nodes)
place z Phase.UpgradeLook = entrant (Unit {0})
place z (Phase.UpgradeSwap v) = entrant (is_sole v ≡ true)
place z Phase.DowngradeTake = owner 0
place z Phase.DowngradeNext = owner 1
place z (Phase.DowngradeStore b) = store b (Whole (readers b))
place z (Phase.DowngradeRelease b) = hand 1 1 (readers b)
place z (Phase.DowngradeWake b) = hand 0 1 (readers b)

abbrev pub role : Sizes → Phase → Role
role z p = role_of (place z p)

abbrev pub Right : Sizes → Phase → Type 0
Right z p = RightOf (place z p)

-- thread t, of those of hs, goes on to p, with f failures
abbrev pub moves : ℕ → List Word → Option ℕ → Waiters → List Thread → Phase → ℕ → State
moves t ws m q hs p f =
    record { words = ws; mutex = m; queue = q; threads = set hs t (record { phase = p; failures = f }) }

-- ---- sums over threads and nodes; the queue

abbrev pub tot : Sizes → (Role → ℕ) → List Thread → ℕ
tot z f hs = sum_at (λ i (h : Thread). f (role z h.phase)) 0 hs

pub tot-set : (z : Sizes) (f : Role → ℕ) (hs : List Thread) (t : ℕ) (h : Thread) → t < length hs
    → tot z f (set hs t h) + f (role z (get_or hs t fresh_thread).phase) ≡ tot z f hs + f (role z h.phase)
tot-set z f hs t h l = sum-set (λ i (h : Thread). f (role z h.phase)) 0 hs t h fresh_thread l

pub tot-mem : (z : Sizes) (f : Role → ℕ) (hs : List Thread) (t : ℕ)
    → t < length hs → f (role z (get_or hs t fresh_thread).phase) ≤ tot z f hs
tot-mem z f hs t l = sum-mem (λ i (h : Thread). f (role z h.phase)) 0 hs t fresh_thread l

pub tot-some : (z : Sizes) (f : Role → ℕ) (hs : List Thread)
    → 0 < tot z f hs → (t : ℕ) × (0 < f (role z (get_or hs t fresh_thread).phase))
tot-some z f hs h = sum-some (λ i (h : Thread). f (role z h.phase)) 0 hs fresh_thread h

-- 1 where node w has its parent at c
abbrev pub node_at : ℕ → ℕ → ℕ → ℕ
node_at F c zero = 0
node_at F c (suc w) = at (parent F (suc w)) c

-- the children of c with a count above 0
abbrev pub kid : ℕ → ℕ → ℕ → Word → ℕ
kid F c w v = node_at F c w * min v.tree 1

abbrev pub kids : ℕ → ℕ → List Word → ℕ
kids F c ws = sum_at (kid F c) 0 ws

-- how often thread t is in the queue: among the writers, and in all
abbrev pub numbers_of : ℕ → List ℕ → ℕ
numbers_of t [] = 0
numbers_of t (w ∷ ws) = bit_at (only w) t + numbers_of t ws

abbrev pub bits_of : ℕ → Waiters → ℕ
bits_of t q = bit_at q.readers t + numbers_of t q.writers

abbrev pub writers_of : Waiters → ℕ
writers_of q = length q.writers

-- the queue has threads below 64 only, and the number of its writers
pub record Named (q : Waiters) : Type 0 where
  pub set : q.readers < 2 ^ 64
  pub numbers : All (λ (w : ℕ). w < 64) q.writers
  pub tally : q.waiting ≡ writers_of q

-- 1 where the word is (0, closed); where it is closed with a count above 0
abbrev pub zero_shut : Word → ℕ
zero_shut v = if is_closed v then 1 - total v else 0

abbrev pub some_shut : Word → ℕ
some_shut v = if is_closed v then min (total v) 1 else 0

abbrev pub is_taken : Option ℕ → ℕ
is_taken none = 0
is_taken (some t) = 1

-- ---- the invariant

abbrev pub role_at : Sizes → State → ℕ → Role
role_at z s u = role z (thread_at s u).phase

abbrev pub sums : Sizes → State → (Role → ℕ) → ℕ
sums z s f = tot z f s.threads

-- a node's word: nobody arrives there directly, and it is open
abbrev pub NodeWord : Word → Type 0
NodeWord v = (v.direct ≡ 0) × (v.closed ≡ 0)

pub record Inv (z : Sizes) (s : State) : Type 0 where
  pub sizes : InRange z
  pub words : length s.words ≡ 32
  pub threads : length s.threads ≡ 64
  pub plainly : (w : ℕ) → 0 < w → NodeWord (word_at s w)
  -- the root is open or closed
  pub flag : (word_at s 0).closed ≤ 1
  -- a count by the tree is what the threads owe there and the children that are above 0, the direct one what they
  -- answer for
  pub direct : (word_at s 0).direct ≡ sums z s (λ r. r.direct)
  pub counts : (c : ℕ) → (word_at s c).tree ≡ sums z s (λ r. r.owes c) + kids z.fan c s.words
  -- the root at (0, closed) has one owner
  pub owner : sums z s (λ r. r.own) ≡ zero_shut (word_at s 0)
  pub mutex : sums z s (λ r. r.inmutex) ≡ is_taken s.mutex
  -- a thread that waits is once in the queue or in a hand; in a hand it sleeps
  pub queued : (u : ℕ) → bits_of u s.queue + sums z s (λ r. bit_at r.hand u) ≡ (role_at z s u).waits
  pub handed : (u : ℕ) → sums z s (λ r. bit_at r.hand u) ≤ (role_at z s u).sleeps
  -- readers behind a closed root, and the last of them, have a writer to hand over to
  pub writers : min
      (some_shut (word_at s 0) + sums z s (λ r. r.last)) 1 ≤ writers_of s.queue + sums z s (λ r. r.joins)
  pub named : Named s.queue
  pub right : (u : ℕ) → Right z (thread_at s u).phase
