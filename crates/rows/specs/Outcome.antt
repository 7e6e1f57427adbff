-- What a row makes of the lock in place, said by the definitions' outcome of it.
use Rattle.std.specs.Prelude.{ℕ, ◌+◌, ◌≤◌, ◌<◌, ◌≡◌, List, eqb, get_or, Result, Ok, Err}
use Rattle.lock.specs.Bound.{most_steps}
use Rattle.std.specs.Prelude.{if◌then◌else◌}
use Rattle.lock.specs.declared.Then.{Then}
use Rattle.lock.specs.declared.Then.TheVariants.{Leaving, Upgrading, Inside}
use Rattle.lock.specs.declared.Phase.{Phase}
use Rattle.lock.specs.declared.Phase.TheVariants.{DepartSwap}
use Rattle.lock.specs.declared.Group.{Group}
use Rattle.lock.specs.declared.Sizes.{Sizes}
use Rattle.lock.specs.declared.Entry.{Entry}
use Rattle.lock.specs.declared.Refusal.{Refusal}
use Rattle.lock.specs.Refusal.{number_of}
use Rattle.lock.specs.Machine.{OutcomeOf, state_after, RefusedAsRow}
use Rattle.lock.specs.Queue.{readers, writer}
use Rattle.lock.specs.Journal.{word_read, swap_done, swap_failed}
use Rattle.lock.specs.Call.{op}
use Rattle.lock.specs.State.{Outcome, taken, refused, thread_at, with_word, goes, fails, holding, perform}
use Rattle.cells.specs.Layout.{WRITING, OWED, TRADED, ASLEEP}
use Rattle.cells.specs.View.{word_of, phase_of, node, route, below, failures, state_of, Shaped, Leaves}

-- ---- an outcome

-- the entry of any machine's row as it is written, or the number of the refusal
abbrev pub given : {S E : Type 0} → (E → Entry) → OutcomeOf S E → Result Entry ℕ
given write (taken s e) = Ok (write e)
given write (refused n) = Err n

-- what the code gives, its refusal by the number
abbrev pub numbered : Result Entry Refusal → Result Entry ℕ
numbered (Ok e) = Ok e
numbered (Err r) = Err (number_of r)

-- the outcome x came about: the lock l became l', and m tells of it
pub record Comes (l l' : List ℕ) (m : Result Entry Refusal) (x : Outcome) : Type 0 where
  pub left : Leaves l' (state_after (state_of l) x)
  pub is : numbered m ≡ given (λ (e : Entry). e) x
  pub fair : RefusedAsRow x

-- the row of the phase p came about, by thread t
abbrev pub Tried : Sizes → ℕ → Phase → List ℕ → List ℕ → Result Entry Refusal → Type 0
Tried z t p l l' m = Comes l l' m (perform z (state_of l) t (op z.fan p))

-- thread t made it, and e is its entry
abbrev pub Makes : Sizes → ℕ → Phase → List ℕ → List ℕ → Entry → Type 0
Makes z t p l l' e = Tried z t p l l' (Ok e)

-- ---- what a row of thread t needs to know

-- the root's two counts have room for one more
pub record Roomy (v : ℕ) : Type 0 where
  pub direct : (word_of v).direct < 65535
  pub tree : (word_of v).tree < 65535

-- these have, and the thread's failures too
pub record At (l : List ℕ) (t : ℕ) : Type 0 where
  pub shaped : Shaped l
  pub there : t < 64
  pub room : Roomy (get_or l 0 0)
  pub few : failures l t ≤ most_steps

-- at a row that touches a node: that is a word, whose count has room
pub record AtNode (l : List ℕ) (t : ℕ) : Type 0 where
  pub shaped : Shaped l
  pub there : t < 64
  pub inside : node l t < 32
  pub room : (word_of (get_or l (node l t) 0)).tree < 65535
  pub few : failures l t ≤ most_steps

-- at a swap of word w
pub record MaySwap (l : List ℕ) (t w : ℕ) : Type 0 where
  pub inside : w < 32
  pub there : t < 64
  pub few : failures l t ≤ most_steps

-- ---- a word found

-- thread t at a program counter, with the word w as it was found
abbrev pub finds : ℕ → ℕ → ℕ → List ℕ → Phase
finds w t pc l = phase_of pc (node l t) (route l t) (below l t) (get_or l w 0)

-- it read the word, and went on
pub record ReadBy (w t pc : ℕ) (l l' : List ℕ) (e : Entry) : Type 0 where
  pub left : Leaves l' (goes (state_of l) t (finds w t pc l))
  pub is : e ≡ word_read w

-- its swap of the word failed: it went on, and counted that
pub record Missed (w t pc : ℕ) (l l' : List ℕ) (e : Entry) : Type 0 where
  pub left : Leaves l' (fails (state_of l) t (finds w t pc l))
  pub is : e ≡ swap_failed w

-- ---- the two ends of a swap

-- word w was swapped to the number v
pub record Swapped (w v : ℕ) (l l' : List ℕ) (e : Entry) : Type 0 where
  pub left : Leaves l' (with_word (state_of l) w (word_of v))
  pub is : e ≡ swap_done w

-- thread t can count one failure more
pub record Countable (t : ℕ) (l : List ℕ) : Type 0 where
  pub shaped : Shaped l
  pub there : t < 64
  pub few : (thread_at (state_of l) t).failures ≤ most_steps

-- it failed to swap word w, and counted that
pub record Failed (w t : ℕ) (l l' : List ℕ) (e : Entry) : Type 0 where
  pub left : Leaves l' (fails (state_of l) t (thread_at (state_of l) t).phase)
  pub is : e ≡ swap_failed w

-- ---- rows that come in pairs

-- what follows a departure, by the program counter of its read: the one behind it is the swap's
abbrev pub then_of : ℕ → ℕ → ℕ → Then
then_of pc n b = if eqb pc OWED then Inside n b else if eqb pc TRADED then Upgrading else Leaving

pub record Departs (pc : ℕ) : Type 0 where
  pub small : pc < ASLEEP
  pub reads : (c n b v : ℕ) → phase_of pc c n b v ≡ Phase.Depart c (then_of pc n b)
  pub swaps : (c n b v : ℕ) → phase_of (pc + 1) c n b v ≡ DepartSwap c (then_of pc n b) (word_of v)

-- the group whose members v wake at a program counter
abbrev pub group_of : ℕ → ℕ → Group
group_of pc v = if eqb pc WRITING then writer v else readers v

-- there they hold, as their group does
abbrev pub Wakes : ℕ → Type 0
Wakes pc = (c b v u : ℕ) → phase_of pc c 0 b v ≡ holding (group_of pc u)
