-- Demand 3: "What demand 3 counts".
use Rattle.std.specs.Prelude.{ℕ, ◌+◌, ◌≤◌, ◌<◌, ◌≡◌, ◌≢◌, Bool, true, false, not, ◌&&◌, ◌||◌, List, [], ◌∷◌, take, eqb}
use Rattle.lock.specs.Journal.{Entry}
use Rattle.lock.specs.State.{Sizes, State, fresh, thread_at}
use Rattle.lock.specs.Run.{Row, run}
use Rattle.lock.specs.File.{InRange}

-- ---- the counts, over rows and their entries

abbrev pub one : Bool → ℕ
one true = 1
one false = 0

-- how many rows, with their entries, pass a test
abbrev pub tally : (Row → Entry → Bool) → List Row → List Entry → ℕ
tally test [] es = 0
tally test (r ∷ rs) [] = 0
tally test (r ∷ rs) (e ∷ es) = one (test r e) + tally test rs es

-- "A change of a word is an entry of kind 2 or 5 on it, a failure one of kind 3; row i's thread is the schedule's."
abbrev pub is_change : Entry → Bool
is_change e = eqb e.kind 2 || eqb e.kind 5

abbrev pub is_failure : Entry → Bool
is_failure e = eqb e.kind 3

abbrev pub is_on : ℕ → Entry → Bool
is_on w e = eqb e.word w

abbrev pub is_by : ℕ → Row → Bool
is_by t r = eqb r.thread t

-- "thread t's failed swaps on word w are the entries j below i of kind 3 on w where row j's thread is t"
abbrev pub failed_swap : ℕ → ℕ → Row → Entry → Bool
failed_swap t w r e = is_failure e && is_on w e && is_by t r

-- "the others' changes of w are the entries j below i of kind 2 or 5 on w where row j's thread is not t"
abbrev pub others_change : ℕ → ℕ → Row → Entry → Bool
others_change t w r e = is_change e && is_on w e && not (is_by t r)

-- "entries j below i of kind 3, on whatever word, where row j's thread is t"
abbrev pub failure : ℕ → Row → Entry → Bool
failure t r e = is_failure e && is_by t r

abbrev pub All : {A : Type 0} → (A → Type 0) → List A → Type 0
All P [] = Unit {0}
All P (x ∷ xs) = P x × All P xs

-- ---- the claim

-- of rows taken, their entries and the state after them
pub record Counted (z : Sizes) (rs : List Row) (es : List Entry) (s : State) : Type 0 where
  -- "the first number is at most the second, for each t below T and each w that is the root or a node"
  pub bounded : (t w : ℕ)
      → t < z.threads → w < z.nodes → tally (failed_swap t w) rs es ≤ tally (others_change t w) rs es
  -- "t's failures in the state, which the sheet prints, are the number of entries j below i of kind 3 … where row j's
  -- thread is t"
  pub printed : (t : ℕ) → t < z.threads → (thread_at s t).failures ≡ tally (failure t) rs es
  -- "if all i rows are one thread's, none of their entries is of kind 3"
  pub alone : (t : ℕ) → All (λ (r : Row). r.thread ≡ t) rs → All (λ (e : Entry). e.kind ≢ 3) es

-- "After the first i rows taken, for every i from 0 to all of them", of one list of rows, "from the fresh lock with no
-- entry made"
abbrev pub CountedOf : Sizes → List Row → Type 0
CountedOf z rs =
    (i : ℕ) → i ≤ (run z fresh rs).taken
    → Counted z (take i rs) (take i (run z fresh rs).entries) (run z fresh (take i rs)).state

-- "with any N, F and T of the sizes above", "Rows of every order that the bench takes … stand mixed in one list": every
-- list
abbrev pub Demand3 : Type 0
Demand3 = (z : Sizes) → InRange z → (rs : List Row) → CountedOf z rs
