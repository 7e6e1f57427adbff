-- Nothing departs from 0, and a reader who hands over finds a writer: of one state.
use Rattle.std.specs.Prelude.{ℕ, ◌<◌, ◌≡◌, length}
use Rattle.lock.specs.declared.Word.{Word}
use Rattle.lock.specs.declared.Then.{Then}
use Rattle.lock.specs.declared.Phase.TheVariants.{Depart, DepartSwap, Leave, LeaveSwap, LastNext}
use Rattle.lock.specs.State.{State, word_at, thread_at}

-- A departure by the tree takes from the tree's count, one of a direct arrival from the direct one.
pub record Departs (s : State) : Type 0 where
  -- "a departing read" finds a count above 0
  pub read : (t d : ℕ) (k : Then) → (thread_at s t).phase ≡ Depart d k → 0 < (word_at s d).tree
  -- a departing swap too, whether it fails, and so is the next read, or not; the count that it remembers is one
  pub swap : (t d : ℕ) (k : Then) (v : Word) → (thread_at s t).phase ≡ DepartSwap d k v → 0 < (word_at s d).tree
  pub remembered : (t d : ℕ) (k : Then) (v : Word) → (thread_at s t).phase ≡ DepartSwap d k v → 0 < v.tree
  pub read_direct : (t : ℕ) → (thread_at s t).phase ≡ Leave → 0 < (word_at s 0).direct
  pub swap_direct : (t : ℕ) (v : Word) → (thread_at s t).phase ≡ LeaveSwap v → 0 < (word_at s 0).direct
  pub remembered_direct : (t : ℕ) (v : Word) → (thread_at s t).phase ≡ LeaveSwap v → 0 < v.direct
  -- "a reader's hand-over" finds a writer
  pub hand_over : (t : ℕ) → (thread_at s t).phase ≡ LastNext → 0 < length s.queue.writers
