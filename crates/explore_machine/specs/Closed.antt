-- A complete set of states: from where a machine begins no row leads out of it.
use Rattle.std.specs.Prelude.{ℕ, ◌+◌, ◌<◌, ◌≤◌, ◌≡◌, List, length}
use Rattle.lock.specs.declared.Sizes.{Sizes}
use Rattle.lock.specs.declared.Entry.{Entry}
use Rattle.lock.specs.Machine.{Row, OutcomeOf, taken, refused, ResultOf, runs}
use Rattle.lock.specs.State.{State, fresh}
use Rattle.lock.specs.Run.{step}
use Rattle.laws.specs.Forget.{forget}

-- ---- a machine: S are its states, E what it enters of a row

pub record Machine (S E : Type 0) : Type 0 where
  pub step : S → Row → OutcomeOf S E
  pub start : S
  -- a state without what no row goes by
  pub forget : S → S

-- one lock: no row goes by failures
abbrev pub one_lock : Sizes → Machine State Entry
one_lock z = record { step = step z; start = fresh; forget = forget }

module _ {S E : Type 0} where
  -- what rows lead to from the start
  abbrev pub ran : Machine S E → List Row → ResultOf S E
  ran m rs = runs m.step m.start rs

  -- two states are the same but for what no row goes by
  abbrev pub Like : Machine S E → S → S → Type 0
  Like m s s' = m.forget s ≡ m.forget s'

  abbrev pub forgetting : (S → S) → OutcomeOf S E → OutcomeOf S E
  forgetting g (taken s e) = taken (g s) e
  forgetting g (refused a) = refused a

  -- no row goes by it indeed: it is taken or refused alike, with the same entry or number, and leads to like states
  abbrev pub Forgets : Machine S E → Type 0
  Forgets m =
      (s s' : S) → Like m s s' → (r : Row)
      → forgetting m.forget (m.step s r) ≡ forgetting m.forget (m.step s' r)

-- ---- n states, f 0 to f (n - 1), the depth of state i being d i

module _ {S E : Type 0} (m : Machine S E) where
  -- one of them, of depth k at most, is like s
  pub record Has (f : ℕ → S) (d : ℕ → ℕ) (n k : ℕ) (s : S) : Type 0 where
    pub place : ℕ
    pub within : place < n
    pub soon : d place ≤ k
    pub alike : Like m (f place) s

  -- the state that a row leads to is, if the row is taken
  abbrev pub HasAfter : (ℕ → S) → (ℕ → ℕ) → ℕ → ℕ → OutcomeOf S E → Type 0
  HasAfter f d n k (taken s e) = Has f d n k s
  HasAfter f d n k (refused a) = Unit {0}

  -- They have the start, at depth 0, and whatever a row of any thread and order leads to from one of them, at most one
  -- deeper.
  pub record Closed (f : ℕ → S) (d : ℕ → ℕ) (n : ℕ) : Type 0 where
    pub starts : Has f d n 0 m.start
    pub steps : (i : ℕ) → i < n → (r : Row) → HasAfter f d n (d i + 1) (m.step (f i) r)

  -- ---- what follows

  -- They have every state that rows lead to from the start: any rows, however many; no deeper than there are rows.
  abbrev pub Complete : (ℕ → S) → (ℕ → ℕ) → ℕ → Type 0
  Complete f d n = (rs : List Row) → Has f d n (length rs) (ran m rs).state

  -- the condition P does not look at what no row goes by
  abbrev pub Blind : (S → Type 0) → Type 0
  Blind P = (s s' : S) → Like m s s' → P s → P s'

  -- A no is a theorem: a condition that none of them meets no schedule leads to, of any length.
  abbrev pub Never : (ℕ → S) → ℕ → Type 1
  Never f n =
      (P : S → Type 0) → Blind P
      → ((i : ℕ) → i < n → P (f i) → ⊥) → (rs : List Row) → P (ran m rs).state → ⊥

  -- And a shortest schedule is shortest: a condition that none of depth k at most meets no k rows or fewer lead to.
  abbrev pub NotWithin : (ℕ → S) → (ℕ → ℕ) → ℕ → Type 1
  NotWithin f d n =
      (P : S → Type 0) → Blind P → (k : ℕ) → ((i : ℕ) → i < n → d i ≤ k → P (f i) → ⊥)
      → (rs : List Row) → length rs ≤ k → P (ran m rs).state → ⊥

  -- ---- that none is there without cause

  -- the rows, all taken, lead from the start to s
  pub record Leads (rs : List Row) (s : S) : Type 0 where
    pub all : (ran m rs).taken ≡ length rs
    pub there : (ran m rs).state ≡ s
