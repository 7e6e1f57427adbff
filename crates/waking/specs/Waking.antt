-- Waking, cell for cell. Document 02, Three: "look only at threads of the group, lowest bit first, and stop as soon as
-- no bit is left". Who is looked at is a list, and a look is two stores. Then the claim: what any wake leaves.
use Rattle.std.specs.Prelude.{ℕ, zero, suc, ◌+◌, ◌/◌, ◌%◌, ◌^◌, ◌<◌, ◌≡◌, ◌≢◌, List, [], ◌∷◌, eqb, get_or, set}
use Rattle.std.specs.Prelude.{if◌then◌else◌}
use Rattle.lock.specs.Journal.{sleepers_woken}
use Rattle.lock.specs.Queue.{is_writer, bit_at, size}
use Rattle.lock.specs.declared.Group.{Group}
use Rattle.lock.specs.declared.Phase.{Phase}
use Rattle.lock.specs.declared.Sizes.{Sizes}
use Rattle.lock.specs.Machine.{taken}
use Rattle.lock.specs.Call.{wake}
use Rattle.lock.specs.State.{goes, perform}
use Rattle.cells.specs.Layout.{PC, ROUTE, WRITING, READING}
use Rattle.cells.specs.View.{state_of, Shaped}

-- the threads of the set b in ascending order: the lowest bit is thread t's, and k bits are gone through
unfoldable pub threads_from : ℕ → ℕ → ℕ → List ℕ
threads_from t zero b = []
threads_from t (suc k) b =
    let above = threads_from (suc t) k (b / 2) in
    if eqb (b % 2) 1 then t ∷ above else above

-- "a set of thread numbers, one bit each in a 64-bit word"
abbrev pub ascending : ℕ → List ℕ
ascending b = threads_from 0 64 b

-- one look: thread t goes on to the program counter with the route 0, which is its ticket where it reads
abbrev pub look : ℕ → List ℕ → ℕ → List ℕ
look pc l t = set (set l (PC + t) pc) (ROUTE + t) 0

-- a look at each of the threads ts, one after the other
abbrev pub look_at_all : ℕ → List ℕ → List ℕ → List ℕ
look_at_all pc l [] = l
look_at_all pc l (t ∷ ts) = look_at_all pc (look pc l t) ts

-- the array l became l': the threads of the set b went on to the program counter, in so many looks
pub record Woken (l : List ℕ) (b pc : ℕ) (l' : List ℕ) (looks : ℕ) : Type 0 where
  pub cells : l' ≡ look_at_all pc l (ascending b)
  -- "returns their number, shown to be exactly the group's size for every group"
  pub counted : looks ≡ size b

-- ---- the claim

-- the program counter at which a group holds, of a writer or of readers
abbrev pub holds_at : Group → ℕ
holds_at g = if is_writer g then WRITING else READING

-- the group g was woken in the lock l, which is l' now, in so many looks
pub record Wakes (g : Group) (l l' : List ℕ) (looks : ℕ) : Type 0 where
  pub counted : looks ≡ size g.members
  -- "all threads of the group hold, readers with ticket 0"
  pub hold : (t : ℕ) → bit_at g.members t ≡ 1 → (get_or l' (PC + t) 0 ≡ holds_at g) × (get_or l' (ROUTE + t) 0 ≡ 0)
  -- "let it look only at threads of the group": every other number is as it was
  pub others : (i : ℕ) → ((t : ℕ) → bit_at g.members t ≡ 1 → (i ≢ PC + t) × (i ≢ ROUTE + t))
      → get_or l' i 0 ≡ get_or l i 0
  -- the row of thread t that wakes the group, by the definitions: this is its state, once t has gone on
  pub state : (z : Sizes) (t : ℕ) (p : Phase)
      → perform z (state_of l) t (wake g p) ≡ taken (goes (state_of l') t p) sleepers_woken

-- of every group, and of whatever lock a wake leaves
abbrev pub WakesOf : Type 0
WakesOf = (g : Group) → g.members < 2 ^ 64 → (l l' : List ℕ) (looks : ℕ) → Shaped l
    → Woken l g.members (holds_at g) l' looks → Wakes g l l' looks
