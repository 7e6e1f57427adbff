-- What an exploration finds.
use Rattle.std.specs.Prelude.{ℕ, zero, suc, ◌+◌, ◌-◌, ◌*◌, ◌<◌, ◌≤◌, ◌≡◌, Bool, true, List, [], ◌∷◌, ◌++◌, ◌⊎◌, ltb, length, Result, Ok, Err}
use Rattle.std.specs.Prelude.{if◌then◌else◌}
use Rattle.lock.specs.declared.Sizes.{Sizes}
use Rattle.lock.specs.declared.Entry.{Entry}
use Rattle.lock.specs.File.{InRange}
use Rattle.lock.specs.Machine.{Row, OutcomeOf, taken, refused}
use Rattle.lock.specs.State.{State}
use Rattle.cells.specs.View.{state_of}
use Rattle.step.specs.Reached.{Reached}
use Rattle.explore_machine.specs.Closed.{Machine, one_lock, Forgets, HasAfter, Closed, Complete, Leads}
use Rattle.explore_store.specs.Store.{parent_at, row_at, depth_at, lock_at, Before}
use Rattle.explore_subject.specs.declared.Explored.{Explored}
use Rattle.explore_subject.specs.declared.Halt.{Halt}
use Rattle.explore_subject.specs.declared.Halt.TheVariants.{NoRoom, SizeOutOfRange}

-- ---- what is explored

-- a machine with the states S, as the code holds them: L is a lock in place, or two; X a store of them
pub record Subject (S E L X : Type 0) : Type 1 where
  pub machine : Machine S E
  -- the state that numbers stand for
  pub view : L → S
  -- so many rows at most have led there
  pub After : ℕ → L → Type 0
  -- there is room for n records; the records with the heads; and the numbers that record i stands for
  pub Room : X → ℕ → Type 0
  pub heads : X → List ℕ
  pub at : X → ℕ → L

-- one lock: its record has all
abbrev pub one : Sizes → Subject State Entry (List ℕ) (List ℕ)
one z = record {
  machine = one_lock z;
  view = state_of;
  After = Reached z;
  Room = λ st n. 8 * n ≤ length st;
  heads = λ st. st;
  at = lock_at;
}

-- ---- what an exploration came to, in numbers

-- 0 complete, 1 too little room, 2 a size out of range
abbrev pub halt_number : Result (Unit {0}) Halt → ℕ
halt_number (Ok a) = 0
halt_number (Err NoRoom) = 1
halt_number (Err SizeOutOfRange) = 2

-- the answer, the number of states found and the depth of the deepest
pub record Figures : Type 0 where
  pub answer : ℕ
  pub count : ℕ
  pub depth : ℕ

abbrev pub figures : Explored → Figures
figures e = record { answer = halt_number e.answer; count = e.count; depth = e.depth }

-- ---- the rows that the heads name

-- the last k of the rows by which record i was led to, as the records name them
unfoldable pub path_in : List ℕ → ℕ → ℕ → List Row
path_in st zero i = []
path_in st (suc k) i = path_in st k (parent_at st i) ++ row_at st i ∷ []

-- all of them: as many as its depth
unfoldable pub path_to : List ℕ → ℕ → List Row
unfolding path_in
path_to st i = path_in st (depth_at st i) i

-- ---- rows

-- order k of those that are tried: 0 to 4, then 64 and up, one for each node
abbrev pub order_of : ℕ → ℕ
order_of k = if ltb k 5 then k else k + 59

-- one row; the rows of thread t that are tried; and those of all threads
abbrev pub Only : ℕ → ℕ → Row → Type 0
Only t o r = r ≡ record { thread = t; order = o }

-- where g k is order k of m
pub record OfThread (g : ℕ → ℕ) (m t : ℕ) (r : Row) : Type 0 where
  pub kind : ℕ
  pub known : kind < m
  pub is : r ≡ record { thread = t; order = g kind }

pub record OfAny (g : ℕ → ℕ) (m threads : ℕ) (r : Row) : Type 0 where
  pub there : r.thread < threads
  pub tried : OfThread g m r.thread r

-- of one lock
abbrev pub OfOne : Sizes → Row → Type 0
OfOne z = OfAny order_of (5 + z.nodes) z.threads

-- the row is refused
pub record Refusing {S E : Type 0} (q : OutcomeOf S E) : Type 0 where
  pub number : ℕ
  pub is : q ≡ refused number

-- What is asked of a machine that is explored by the rows R: it refuses every other; no row goes by what is forgotten of
-- a state; and the store has room for no records, and for no more than it has numbers.
pub record Lawful {S E L X : Type 0} (k : Subject S E L X) (R : Row → Type 0) : Type 0 where
  pub every : (s : S) (r : Row) → R r ⊎ Refusing (k.machine.step s r)
  pub forgets : Forgets k.machine
  pub none : (x : X) → k.Room x 0
  pub bounded : (x : X) (n : ℕ) → k.Room x n → n ≤ length (k.heads x)

-- record i is next: no record is more than one deeper
pub record Next (st : List ℕ) (n i : ℕ) : Type 0 where
  pub within : i < n
  pub near : (j : ℕ) → j < n → depth_at st j ≤ depth_at st i + 1

module _ {S E L X : Type 0} (k : Subject S E L X) where
  -- ---- the records found

  abbrev pub state_at : X → ℕ → S
  state_at x i = k.view (k.at x i)

  abbrev pub depth_of : X → ℕ → ℕ
  depth_of x i = depth_at (k.heads x) i

  -- record i was led to by the row that it names, from the earlier record that it names, which is one less deep
  pub record Led (x : X) (i : ℕ) : Type 0 where
    pub earlier : parent_at (k.heads x) i < i
    pub deeper : depth_of x i ≡ depth_of x (parent_at (k.heads x) i) + 1
    pub entry : E
    pub row : k.machine.step (state_at x (parent_at (k.heads x) i)) (row_at (k.heads x) i) ≡ taken (state_at x i) entry

  -- the first n records are states that rows have led to, record 0 the start, each other one led to from an earlier,
  -- and none is less deep than one before it
  pub record Sound (x : X) (n : ℕ) : Type 0 where
    pub room : k.Room x n
    pub some : 0 < n
    pub first : state_at x 0 ≡ k.machine.start
    pub top : depth_of x 0 ≡ 0
    pub reached : (i : ℕ) → i < n → k.After (depth_of x i) (k.at x i)
    pub led : (i : ℕ) → 0 < i → i < n → Led x i
    pub ordered : (i j : ℕ) → i ≤ j → j < n → depth_of x i ≤ depth_of x j

  -- ---- rows tried

  -- what the row leads to from record i is among the first n records, at most one deeper
  abbrev pub Covers : X → ℕ → ℕ → Row → Type 0
  Covers x n i r =
      HasAfter k.machine (state_at x) (depth_of x) n (depth_of x i + 1) (k.machine.step (state_at x i) r)

  -- the first n records stayed
  pub record Kept (n : ℕ) (x x' : X) : Type 0 where
    pub before : Before n (k.heads x) (k.heads x')
    pub same : (i : ℕ) → i < n → k.at x' i ≡ k.at x i

  -- the store grew from n records to m
  pub record Grows (x : X) (n : ℕ) (x' : X) (m : ℕ) : Type 0 where
    pub more : n ≤ m
    pub kept : Kept n x x'
    pub sound : Sound x' m

  -- the rows of record i are being tried, in place, with l, and one row more may be made and recorded
  pub record Trying (x : X) (n i : ℕ) (l : L) : Type 0 where
    pub next : Next (k.heads x) n i
    pub low : i < 4294967296
    pub shallow : depth_of x i < 65535
    pub is : k.view l ≡ state_at x i
    pub after : k.After (depth_of x i) l

  -- the store grew, and where b is true the rows R of record i have been tried, and others may be, with l
  pub record Tries (R : Row → Type 0) (i : ℕ) (x : X) (n : ℕ) (x' : X) (m : ℕ) (l : L) (b : Bool) : Type 0 where
    pub grows : Grows x n x' m
    pub tried : b ≡ true → (r : Row) → R r → Covers x' m i r
    pub still : b ≡ true → Trying x' m i l

  -- the rows R of record i were tried
  pub record Expands (R : Row → Type 0) (i : ℕ) (x : X) (n : ℕ) (x' : X) (m : ℕ) (b : Bool) : Type 0 where
    pub grows : Grows x n x' m
    pub tried : b ≡ true → (r : Row) → R r → Covers x' m i r
    pub next : b ≡ true → Next (k.heads x') m i

  -- ---- the answer

  -- what the exploration says
  pub record Explores (x : X) (r : Figures) : Type 0 where
    -- 0 complete, 1 too little room, 2 a size out of range
    pub known : r.answer ≤ 2
    pub room : k.Room x r.count
    -- each record is a state that rows lead to: those that the records name, as many as its depth
    pub leads : (i : ℕ) → i < r.count → Leads k.machine (path_to (k.heads x) i) (state_at x i)
    pub depth : (i : ℕ) → i < r.count → length (path_to (k.heads x) i) ≡ depth_of x i
    pub ordered : (i j : ℕ) → i ≤ j → j < r.count → depth_of x i ≤ depth_of x j
    -- the last is the deepest
    pub deepest : r.depth ≡ (if ltb 0 r.count then depth_of x (r.count - 1) else 0)
    -- answer 0: no row leads out of them, so they are all: every state that rows of any number lead to is one of them
    -- but for failures, no deeper than there are rows
    pub closed : r.answer ≡ 0 → Closed k.machine (state_at x) (depth_of x) r.count
    pub complete : r.answer ≡ 0 → Complete k.machine (state_at x) (depth_of x) r.count

-- ---- the sizes

-- "N to 8 and T to 8": what a record has room for; no till
pub record Small (z : Sizes) : Type 0 where
  pub range : InRange z
  pub nodes : z.nodes ≤ 8
  pub threads : z.threads ≤ 8
  pub items : z.items ≡ 0

-- the sizes of a lock without a till
abbrev pub sizes_for : ℕ → ℕ → ℕ → Sizes
sizes_for n f t = record { nodes = n; fan = f; threads = t; items = 0 }
