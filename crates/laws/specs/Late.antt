-- The late arrival: "A read-lock that succeeds by the tree either succeeds while the root is open, or the latest
-- closing step came after that call's last look, and the root's count was above 0 in every state since."
use Rattle.std.specs.Prelude.{ℕ, suc, ◌+◌, ◌≤◌, ◌<◌, ◌≡◌, ◌⊎◌, ◌≢◌, true, false, List, get_or, take}
use Rattle.lock.specs.declared.Word.{Word}
use Rattle.lock.specs.Word.{is_closed, total}
use Rattle.lock.specs.declared.Entry.{Entry}
use Rattle.lock.specs.Journal.{call_begun, word_read, swap_failed}
use Rattle.lock.specs.declared.Phase.{Phase}
use Rattle.lock.specs.declared.Phase.TheVariants.{Look, Enter}
use Rattle.lock.specs.declared.Sizes.{Sizes}
use Rattle.lock.specs.State.{State, fresh, word_at, thread_at}
use Rattle.lock.specs.Run.{Row, run}

-- A look, by the phase of the row's thread and the row's entry: "Look: read the root". "A failed swap … is also the
-- next read", and the read before the swap of `Enter` is a look.
pub data Looks : Phase → Entry → Type 0 where
  looks : (n : ℕ) → Looks (Look n) (word_read 0)
  again : (v : Word) → Looks (Enter v) (swap_failed 0)

module _ (z : Sizes) (rs : List Row) where
  -- ---- a run from the fresh lock, by rows: row i, with its entry, leads from state i to state i + 1

  abbrev pub state_at : ℕ → State
  state_at i = (run z fresh (take i rs)).state

  abbrev pub row_at : ℕ → Row
  row_at i = get_or rs i (record { thread = 0; order = 0 })

  abbrev pub entry_at : ℕ → Entry
  entry_at i = get_or (run z fresh rs).entries i call_begun

  abbrev pub root_at : ℕ → Word
  root_at i = word_at (state_at i) 0

  -- ---- the parts of the claim

  -- Row i is "a closing step": the root is closed after it and was open before it, or the row is a store. "A store that
  -- opens with arrivals straight into closed counts as a closing step."
  pub record Closes (i : ℕ) : Type 0 where
    pub shut : is_closed (root_at (suc i)) ≡ true
    pub how : (is_closed (root_at i) ≡ false) ⊎ ((entry_at i).kind ≡ 5)

  -- row i is a look of thread t
  pub record LookOf (t i : ℕ) : Type 0 where
    pub by : (row_at i).thread ≡ t
    pub looks : Looks (thread_at (state_at i) (row_at i).thread).phase (entry_at i)

  -- thread t began a read-lock by n in row b, and between rows b and i it begins no other call
  pub record CallOf (t n b i : ℕ) : Type 0 where
    pub by : (row_at b).thread ≡ t
    pub order : (row_at b).order ≡ 64 + n
    pub begins : entry_at b ≡ call_begun
    pub before : b < i
    pub same : (k : ℕ) → b < k → k < i → (row_at k).thread ≡ t → entry_at k ≢ call_begun

  -- "Success is the step that raises the count of the ticket's own node." By the tree: n is not the root
  pub record Success (t n b i : ℕ) : Type 0 where
    pub tree : 0 < n
    pub call : CallOf t n b i
    pub by : (row_at i).thread ≡ t
    pub raises : (word_at (state_at i) n).tree < (word_at (state_at (suc i)) n).tree

  -- row k is the last look before row i of the call of thread t that row b began
  pub record LastLook (t b i k : ℕ) : Type 0 where
    pub begun : b < k
    pub before : k < i
    pub is : LookOf t k
    pub last : (j : ℕ) → k < j → j < i → LookOf t j → ⊥

  -- row j is "the latest closing step" before state i, and "the root's count was above 0 in every state since"
  pub record ClosedSince (j i : ℕ) : Type 0 where
    pub before : j < i
    pub closes : Closes j
    pub latest : (k : ℕ) → j < k → k < i → Closes k → ⊥
    pub above : (k : ℕ) → j < k → k ≤ i → 0 < total (root_at k)

  -- Row i succeeds late: "the latest closing step came after that call's last look". The last of the states since is
  -- the one after row i.
  pub record Late (t b i : ℕ) : Type 0 where
    pub look : ℕ
    pub closing : ℕ
    pub last : LastLook t b i look
    pub after : look < closing
    pub since : ClosedSince closing (suc i)

  -- ---- the claim, of every row taken

  abbrev pub InTime : Type 0
  InTime = (t n b i : ℕ) → i < (run z fresh rs).taken → Success t n b i → (is_closed (root_at i) ≡ false) ⊎ Late t b i
