-- A complete set of states: from a fresh lock no row leads out of it.
use Rattle.std.specs.Prelude.{ℕ, ◌+◌, ◌<◌, ◌≤◌, ◌≡◌, List, length}
use Rattle.lock.specs.declared.Sizes.{Sizes}
use Rattle.lock.specs.State.{State, fresh, Outcome, taken, refused}
use Rattle.lock.specs.Run.{Row, step, run}
use Rattle.laws.specs.Forget.{Alike}

-- ---- n states, f 0 to f (n - 1), the depth of state i being d i

-- one of them, of depth k at most, is s but for failures
pub record Has (f : ℕ → State) (d : ℕ → ℕ) (n k : ℕ) (s : State) : Type 0 where
  pub place : ℕ
  pub within : place < n
  pub soon : d place ≤ k
  pub alike : Alike (f place) s

-- the state that a row leads to is, if the row is taken
abbrev pub HasAfter : (ℕ → State) → (ℕ → ℕ) → ℕ → ℕ → Outcome → Type 0
HasAfter f d n k (taken s e) = Has f d n k s
HasAfter f d n k (refused a) = Unit {0}

-- They have the fresh lock, at depth 0, and whatever a row of any thread and order leads to from one of them, at most
-- one deeper.
pub record Closed (z : Sizes) (f : ℕ → State) (d : ℕ → ℕ) (n : ℕ) : Type 0 where
  pub starts : Has f d n 0 fresh
  pub steps : (i : ℕ) → i < n → (r : Row) → HasAfter f d n (d i + 1) (step z (f i) r)

-- ---- what follows

-- They have every state that rows lead to from a fresh lock: any rows, however many; no deeper than there are rows.
abbrev pub Complete : Sizes → (ℕ → State) → (ℕ → ℕ) → ℕ → Type 0
Complete z f d n = (rs : List Row) → Has f d n (length rs) (run z fresh rs).state

-- the condition P does not look at failures
abbrev pub Blind : (State → Type 0) → Type 0
Blind P = (s s' : State) → Alike s s' → P s → P s'

-- A no is a theorem: a condition that none of them meets no schedule leads to, of any length.
abbrev pub Never : Sizes → (ℕ → State) → ℕ → Type 1
Never z f n =
    (P : State → Type 0) → Blind P
    → ((i : ℕ) → i < n → P (f i) → ⊥) → (rs : List Row) → P (run z fresh rs).state → ⊥

-- And a shortest schedule is shortest: a condition that none of depth k at most meets no k rows or fewer lead to.
abbrev pub NotWithin : Sizes → (ℕ → State) → (ℕ → ℕ) → ℕ → Type 1
NotWithin z f d n =
    (P : State → Type 0) → Blind P → (k : ℕ) → ((i : ℕ) → i < n → d i ≤ k → P (f i) → ⊥)
    → (rs : List Row) → length rs ≤ k → P (run z fresh rs).state → ⊥

-- ---- that none is there without cause

-- the rows, all taken, lead from a fresh lock to s
pub record Leads (z : Sizes) (rs : List Row) (s : State) : Type 0 where
  pub all : (run z fresh rs).taken ≡ length rs
  pub there : (run z fresh rs).state ≡ s
