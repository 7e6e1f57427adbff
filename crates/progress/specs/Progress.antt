-- Deadlock freedom of one lock: it never gets stuck. The rows of one thread alone end its call, whatever the others are
-- in the middle of; and after any rows there are further rows, all taken, that leave every thread idle and the lock as
-- it was made.
use Rattle.std.specs.Prelude.{ℕ, ◌+◌, ◌*◌, ◌≤◌, ◌≡◌, ◌⊎◌, ◌≢◌, List, ◌++◌, length, take, replicate}
use Rattle.std.proofs.Math.Option.{none, some}
use Rattle.lock.specs.declared.Phase.TheVariants.{Idle}
use Rattle.lock.specs.declared.Standing.{Standing}
use Rattle.lock.specs.Phase.{standing}
use Rattle.lock.specs.declared.Sizes.{Sizes}
use Rattle.lock.specs.State.{State, fresh, thread_at}
use Rattle.lock.specs.Run.{Row, run}
use Rattle.lock.specs.File.{InRange}
use Rattle.lock.specs.Demand.{All}
use Rattle.laws.specs.Late.{state_at}
use Rattle.laws.specs.Restoring.{row}
use Rattle.laws.specs.Sleeping.{Free}
use Rattle.pair.specs.Pair.{Side, fresh_pair}
use Rattle.pair.specs.Pair as pair
use Rattle.pair.specs.Apart.{own_rows}

-- ---- one thread alone

-- thread t goes on n times, and nobody else moves
abbrev pub alone : ℕ → ℕ → List Row
alone t n = replicate n (row t 0)

-- any call is over in so many rows of its thread alone, failed swaps counted in
abbrev pub longest_call : Sizes → ℕ
longest_call z = z.nodes * z.nodes + 3 * z.nodes + 4

-- From the state s the call of thread t ends by its rows alone.
pub record EndsAlone (z : Sizes) (s : State) (t : ℕ) : Type 0 where
  pub rows : ℕ
  pub few : rows ≤ longest_call z
  pub taken : (run z s (alone t rows)).taken ≡ rows
  -- t is idle, holds or sleeps
  pub over : standing (thread_at (run z s (alone t rows)).state t).phase ≢ Standing.Calling
  pub mutex : (run z s (alone t rows)).state.mutex ≡ none

-- ---- the lock comes free

-- The rows rs, from the state s, are all taken and leave the lock free.
pub record Frees (z : Sizes) (s : State) (rs : List Row) : Type 0 where
  pub answer : (run z s rs).answer ≡ 0
  pub taken : (run z s rs).taken ≡ length rs
  pub idle : (t : ℕ) → (thread_at (run z s rs).state t).phase ≡ Idle
  -- root and nodes (0, 0, open), the mutex with nobody, nobody in the queue
  pub free : Free (run z s rs).state

-- a row that goes on with a call or begins an unlock: nobody needs to lock, to upgrade or to downgrade
abbrev pub GoesOnOrUnlocks : Row → Type 0
GoesOnOrUnlocks r = (r.order ≡ 0) ⊎ (r.order ≡ 2)

-- So many further rows are enough: for each thread a call, 1 for the beginning of its unlock, and the unlock's 2 N + 5.
-- This is (N² + 5 N + 10) T.
abbrev pub enough_rows : Sizes → ℕ
enough_rows z = (longest_call z + 2 * z.nodes + 6) * z.threads

-- after the rows taken of rs the lock can be freed
pub record DeadlockFree (z : Sizes) (rs : List Row) : Type 0 where
  pub more : List Row
  pub orders : All GoesOnOrUnlocks more
  pub few : length more ≤ enough_rows z
  pub frees : Frees z fresh (take (run z fresh rs).taken rs ++ more)

-- ---- the claims

pub record Progress (z : Sizes) (rs : List Row) : Type 0 where
  -- after the first i rows: who is in a call ends it alone, if it has the mutex or nobody has it
  pub ends : (i t : ℕ) → standing (thread_at (state_at z rs i) t).phase ≡ Standing.Calling
      → ((state_at z rs i).mutex ≡ none) ⊎ ((state_at z rs i).mutex ≡ some t) → EndsAlone z (state_at z rs i) t
  -- and who has the mutex is in a call
  pub owner : (i t : ℕ) → (state_at z rs i).mutex ≡ some t
      → standing (thread_at (state_at z rs i) t).phase ≡ Standing.Calling
  pub deadlock_free : DeadlockFree z rs

-- of every list of rows of one lock
abbrev pub ProgressOf : Type 0
ProgressOf = (z : Sizes) → InRange z → (rs : List Row) → Progress z rs

-- of the lock x taken alone, where rs are rows of two: of its own rows, which lead it through the same states (`pair`
-- specs/Apart)
abbrev pub ProgressAt : Sizes → Side → List Row → Type 0
ProgressAt z x rs = Progress z (own_rows x rs (pair.run z fresh_pair rs).entries)

-- of each lock of every list of rows of two
abbrev pub ProgressOfEach : Type 0
ProgressOfEach = (z : Sizes) → InRange z → (x : Side) (rs : List Row) → ProgressAt z x rs
