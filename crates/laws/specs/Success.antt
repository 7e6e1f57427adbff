-- The late-arrival claim is about rows that are a `Success`. So it speaks of every read-lock by the tree: each that
-- ends reading with its node's ticket has exactly one success, and each that is woken has none.
use Rattle.std.specs.Prelude.{ℕ, ◌≤◌, ◌<◌, ◌≡◌, List}
use Rattle.lock.specs.declared.Phase.TheVariants.{Reading}
use Rattle.lock.specs.declared.Sizes.{Sizes}
use Rattle.lock.specs.State.{fresh, thread_at}
use Rattle.lock.specs.Run.{Row, run}
use Rattle.laws.specs.Late.{state_at, CallOf, Success}

module _ (z : Sizes) (rs : List Row) where
  -- row i, before state j, is the one success of the read-lock by n of thread t that row b began
  pub record OneSuccess (t n b j : ℕ) : Type 0 where
    pub row : ℕ
    pub before : row < j
    pub is : Success z rs t n b row
    pub only : (i : ℕ) → i < (run z fresh rs).taken → Success z rs t n b i → i ≡ row

  -- thread t, which reads with the ticket n, came to it by a read-lock by n, its latest call
  pub record Arrived (t n j : ℕ) : Type 0 where
    pub begun : ℕ
    pub call : CallOf z rs t n begun j
    pub success : OneSuccess t n begun j

  -- ---- the claims, of every state j: the one before row j

  -- "ends the call with ticket n": every ticket above 0 comes from exactly one success
  abbrev pub Arrives : Type 0
  Arrives = (t n j : ℕ) → j ≤ (run z fresh rs).taken → 0 < n → (thread_at (state_at z rs j) t).phase ≡ Reading n
      → Arrived t n j

  -- "readers with ticket 0": a read-lock by n that was woken has none
  abbrev pub WokenWithout : Type 0
  WokenWithout =
      (t n b j : ℕ) → j ≤ (run z fresh rs).taken
      → CallOf z rs t n b j → (thread_at (state_at z rs j) t).phase ≡ Reading 0
      → (i : ℕ) → i < (run z fresh rs).taken → Success z rs t n b i → ⊥

  -- a call that has not ended has no second success either
  abbrev pub AtMostOnce : Type 0
  AtMostOnce =
      (t n b i k : ℕ) → i < (run z fresh rs).taken
      → k < (run z fresh rs).taken → Success z rs t n b i → Success z rs t n b k → i ≡ k
