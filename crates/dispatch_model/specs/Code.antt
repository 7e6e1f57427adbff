-- What the dispatcher's code keeps of the wants and of who is able to move: places in the file and sets of threads.
use Rattle.std.specs.Prelude.{ℕ, suc, ◌+◌, ◌-◌, ◌/◌, ◌^◌, ◌≤◌, ◌<◌, ◌≡◌, Bool, true, false, List, [], ◌∷◌, eqb, ltb, length, get_or, drop}
use Rattle.std.specs.Int.Bits.{bit_and, bit_or}
use Rattle.std.specs.Int.Count.{count_trailing_zeros}
use Rattle.std.specs.Prelude.{if◌then◌else◌}
use Rattle.lock.specs.Queue.{only}
use Rattle.lock.specs.declared.Standing.{Standing}
use Rattle.laws.specs.Sleeping.{bit_at}

-- the place of the first t in a list; its length where there is none
abbrev pub first_of : ℕ → List ℕ → ℕ
first_of t [] = 0
first_of t (x ∷ xs) = if eqb x t then 0 else suc (first_of t xs)

-- the place of thread t's next row from place p on, among the file's thread numbers
abbrev pub next_row : ℕ → List ℕ → ℕ → ℕ
next_row t ts p = p + first_of t (drop p ts)

-- The rows of each thread as lists in two arrays, from place p of the thread numbers ts on: the first row of each
-- thread, and behind each row the next of its thread; the number of rows where there is none.
pub record Linked (ts heads later : List ℕ) (p : ℕ) : Type 0 where
  pub heads_long : length heads ≡ 64
  pub later_long : length later ≡ 4096
  pub head : (t : ℕ) → t < 64 → get_or heads t 0 ≡ next_row t ts p
  pub link : (i : ℕ) → p ≤ i → i < length ts → get_or later i 0 ≡ next_row (get_or ts i 0) ts (suc i)

-- the set has the threads below T whose first row is one of n
pub record Marked (T set : ℕ) (heads : List ℕ) (n : ℕ) : Type 0 where
  pub within : set < 2 ^ T
  pub has : (u : ℕ) → u < T → bit_at set u ≡ (if ltb (get_or heads u 0) n then 1 else 0)

-- the first thread of a set, from thread t on; the lowest where none is
unfoldable pub pick : ℕ → ℕ → ℕ
unfolding count_trailing_zeros
pick able t = if eqb (able / 2 ^ t) 0 then count_trailing_zeros 64 able else t + count_trailing_zeros 64 (able / 2 ^ t)

-- the set a, with its part in b replaced by that of c
abbrev pub replaced : ℕ → ℕ → ℕ → ℕ
replaced a b c = bit_or (a - bit_and a b) (bit_and c b)

-- whether a thread of some standing is able to move, by whether it wants a call
abbrev pub able_in : Standing → Bool → Bool
able_in Standing.Idle wants = wants
able_in (Standing.Reading k) wants = wants
able_in Standing.Writing wants = wants
able_in Standing.Calling wants = true
able_in Standing.Asleep wants = false

-- thread t alone, or nobody
abbrev pub only_if : ℕ → Bool → ℕ
only_if t b = if b then only t else 0
