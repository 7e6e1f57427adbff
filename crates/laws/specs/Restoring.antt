-- Document 02, Eight: "When the thread upgraded with ticket 0, its upgrade's swap found the root open and no other
-- thread moved from that swap to the downgrade's end, the root word after both is the one that swap found."
use Rattle.std.specs.Prelude.{ℕ, ◌≤◌, ◌<◌, ◌≡◌, false, List, ◌∷◌, replicate}
use Rattle.std.proofs.Math.Option.{none}
use Rattle.lock.specs.declared.Word.{Word}
use Rattle.lock.specs.Word.{is_closed}
use Rattle.lock.specs.declared.Phase.TheVariants.{Reading, UpgradeSwap}
use Rattle.lock.specs.declared.Sizes.{Sizes}
use Rattle.lock.specs.State.{State, word_at, thread_at}
use Rattle.lock.specs.Run.{Row, run}

abbrev pub row : ℕ → ℕ → Row
row t o = record { thread = t; order = o }

-- in the state s thread t is about to make its upgrade's swap, which finds v, open
pub record Swaps (s : State) (t : ℕ) (v : Word) : Type 0 where
  pub phase : (thread_at s t).phase ≡ UpgradeSwap v
  pub found : word_at s 0 ≡ v
  pub is_open : is_closed v ≡ false

-- Of the states of a lock through the first n rows of a run, of which row k leads from state k to state k + 1: the swap
-- is next in state i, "no other thread moved" until state j, and there t reads with ticket 0, as it does at "the
-- downgrade's end". What rows t makes between is open: bookings, calls of another lock, an unlock and a new call.
abbrev pub Restored : (ℕ → State) → (ℕ → Row) → ℕ → Type 0
Restored state rows n =
    (t i j : ℕ) (v : Word) → i ≤ j → j ≤ n → Swaps (state i) t v
    → ((k : ℕ) → i ≤ k → k < j → (rows k).thread ≡ t)
    → (thread_at (state j) t).phase ≡ Reading 0 → word_at (state j) 0 ≡ v

-- thread t swaps, is given order 4 and goes on, n times
abbrev pub swap_and_back : ℕ → ℕ → List Row
swap_and_back t n = row t 0 ∷ row t 4 ∷ replicate n (row t 0)

-- and where nobody has the mutex it does read then, after four rows of its downgrade
abbrev pub Ends : Sizes → State → Type 0
Ends z s =
    (t : ℕ) (v : Word) → t < z.threads → Swaps s t v → s.mutex ≡ none
    → (thread_at (run z s (swap_and_back t 4)).state t).phase ≡ Reading 0
