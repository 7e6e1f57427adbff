-- No sleeper is forgotten, of one state.
use Rattle.std.specs.Prelude.{ℕ, ◌+◌, ◌≡◌, ◌⊎◌, ◌≢◌, List, [], ◌∷◌, eqb}
use Rattle.std.proofs.Math.Option.{none}
use Rattle.std.specs.Prelude.{if◌then◌else◌}
use Rattle.lock.specs.Word.{opened}
pub use Rattle.lock.specs.Queue.{bit_at}
use Rattle.lock.specs.Queue.{Waiters, nobody_waits}
use Rattle.lock.specs.declared.Phase.TheVariants.{Idle, Asleep}
use Rattle.lock.specs.State.{State, word_at, thread_at}
use Rattle.laws.specs.Exclusion.{Resting, Reads, Writes}

-- its places among the writers
abbrev pub places_of : ℕ → List ℕ → ℕ
places_of t [] = 0
places_of t (w ∷ ws) = (if eqb t w then 1 else 0) + places_of t ws

-- how often it is in the queue
abbrev pub times_in : Waiters → ℕ → ℕ
times_in q t = bit_at q.readers t + places_of t q.writers

-- the lock as it was made
pub record Free (s : State) : Type 0 where
  pub words : (w : ℕ) → word_at s w ≡ opened 0 0
  pub mutex : s.mutex ≡ none
  pub queue : s.queue ≡ nobody_waits

pub record Remembers (s : State) : Type 0 where
  -- where every thread is idle, holding or asleep: while someone sleeps someone holds
  pub held : Resting s → (t : ℕ) → (thread_at s t).phase ≡ Asleep → Reads s ⊎ Writes s
  -- and the queue has the sleepers, each once, and nobody else
  pub once : Resting s → (t : ℕ) → (thread_at s t).phase ≡ Asleep → times_in s.queue t ≡ 1
  pub only : Resting s → (t : ℕ) → (thread_at s t).phase ≢ Asleep → times_in s.queue t ≡ 0
  -- where everybody is idle the lock is as it was made
  pub free : ((t : ℕ) → (thread_at s t).phase ≡ Idle) → Free s
