-- Two locks over one set of threads, explored: a state is two records with the same number, one in each of two stores,
-- and the first has the head.
use Rattle.std.specs.Prelude.{ℕ, ◌+◌, ◌-◌, ◌*◌, ◌<◌, ◌≤◌, ◌≡◌, Bool, true, false, List, [], ◌∷◌, ◌⊎◌, ltb, length}
use Rattle.std.specs.Prelude.{if◌then◌else◌}
use Rattle.lock.specs.declared.Sizes.{Sizes}
use Rattle.lock.specs.Machine.{Row}
use Rattle.cells.specs.View.{state_of, Leaves}
use Rattle.pair.specs.Pair.{Side, Pair, Note}
use Rattle.turn.specs.Turn.{cells_of, pair_in, Place}
use Rattle.explore_machine.specs.Locks.{two_locks}
use Rattle.explore_store.specs.declared.Record.{Record}
use Rattle.explore_store.specs.Store.{record_at, stored, lock_of, lock_at, SameKey}
use Rattle.explore_pair.specs.declared.Records.{Records}
use Rattle.explore_pair.specs.declared.PairStates.{PairStates}
use Rattle.explore_subject.specs.Search.{Subject, order_of, OfAny}

-- ---- what is explored

-- the two locks that records stand for
abbrev pub locks_of : Record → Record → List (List ℕ)
locks_of r q = lock_of r ∷ lock_of q ∷ []

abbrev pub locks_at : List ℕ × List ℕ → ℕ → List (List ℕ)
locks_at x i = lock_at x.0 i ∷ lock_at x.1 i ∷ []

-- each store has room for n records
abbrev pub RoomBoth : List ℕ × List ℕ → ℕ → Type 0
RoomBoth x n = (8 * n ≤ length x.0) × (8 * n ≤ length x.1)

-- two locks with any rows, or, where o is true, with those in lock order
abbrev pub both : Bool → Sizes → Subject Pair Note (List (List ℕ)) (List ℕ × List ℕ)
both o z = record {
  machine = two_locks o z;
  view = pair_in;
  After = λ n ls. Place z ls n;
  Room = RoomBoth;
  heads = λ x. x.0;
  at = locks_at;
}

-- ---- the orders that are tried: those of the first lock, and those of the second, which have 128 added and no 0

abbrev pub order_in : Sizes → ℕ → ℕ
order_in z k = if ltb k (5 + z.nodes) then order_of k else 128 + order_of (k - (4 + z.nodes))

abbrev pub orders_of : Sizes → ℕ
orders_of z = 9 + 2 * z.nodes

abbrev pub OfBoth : Sizes → Row → Type 0
OfBoth z = OfAny (order_in z) (orders_of z) z.threads

-- ---- two locks in place

-- both are as they were, whatever numbers stand for them
pub record Tidied (ls ls' : List (List ℕ)) : Type 0 where
  pub long : length ls' ≡ 2
  pub each : (x : Side) → Leaves (cells_of x ls') (state_of (cells_of x ls))

-- ---- two records added: then there are m, where ok is true

pub record FoundBoth (x : List ℕ × List ℕ) (n : ℕ) (r : Records) (x' : List ℕ × List ℕ) (m : ℕ) (ok : Bool) : Type 0 where
  pub place : ℕ
  pub within : place < n
  pub key : SameKey (record_at x.0 place) r.one
  pub other : SameKey (record_at x.1 place) r.two
  pub same : x' ≡ x
  pub count : m ≡ n
  pub told : ok ≡ true

pub record FullBoth (x : List ℕ × List ℕ) (n : ℕ) (x' : List ℕ × List ℕ) (m : ℕ) (ok : Bool) : Type 0 where
  pub same : x' ≡ x
  pub count : m ≡ n
  pub told : ok ≡ false

pub record NewBoth (x : List ℕ × List ℕ) (n : ℕ) (r : Records) (x' : List ℕ × List ℕ) (m : ℕ) (ok : Bool) : Type 0 where
  pub room : RoomBoth x (n + 1)
  pub here : x' ≡ (stored x.0 n r.one, stored x.1 n r.two)
  pub count : m ≡ n + 1
  pub told : ok ≡ true

abbrev pub AddsBoth : List ℕ × List ℕ → ℕ → Records → List ℕ × List ℕ → ℕ → Bool → Type 0
AddsBoth x n r x' m ok = FoundBoth x n r x' m ok ⊎ FullBoth x n x' m ok ⊎ NewBoth x n r x' m ok

-- ---- the stores

abbrev pub seen_of : PairStates → List ℕ × List ℕ
seen_of s = (s.first.now, s.second.now)

-- the three slices that are lent
abbrev pub names_of : PairStates → ℕ × ℕ × ℕ
names_of s = (s.first.ghost_name, s.second.ghost_name, s.index.ghost_name)

-- the two records with number i
abbrev pub records_at : List ℕ × List ℕ → ℕ → Records
records_at x i = record { one = record_at x.0 i; two = record_at x.1 i }
