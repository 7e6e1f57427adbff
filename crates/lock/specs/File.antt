-- The schedule file: its sizes, checks 1 to 4, and its rows. (What the bench gives for it is in the crate `pair`,
-- specs/File.)
use Rattle.std.specs.Prelude.{ℕ, zero, suc, ◌+◌, ◌*◌, ◌/◌, ◌%◌, ◌≤◌, Bool, not, ◌&&◌, ◌||◌, List, [], ◌∷◌, ◌++◌, map, length, get_or, take, drop, leb, ltb, eqb, Result}
use Rattle.std.specs.Prelude.{if◌then◌else◌}
use Rattle.lock.specs.State.{Sizes}
use Rattle.lock.specs.declared.Ran.{Ran}
use Rattle.lock.specs.declared.Refusal.{Refusal}
use Rattle.lock.specs.Machine.{Row}

-- "nodes N … fan-out F … threads T … rows S, … two bytes, low byte first". A schedule alone has no till: "a booking …
-- without a till … is 6"
abbrev pub sizes_of : List ℕ → Sizes
sizes_of b = record { nodes = get_or b 0 0; fan = get_or b 1 0; threads = get_or b 2 0; items = 0 }

-- the same run with a till of E items
abbrev pub with_items : ℕ → Sizes → Sizes
with_items E z = record { nodes = z.nodes; fan = z.fan; threads = z.threads; items = E }

abbrev pub row_count : List ℕ → ℕ
row_count b = get_or b 3 0 + 256 * get_or b 4 0

-- "S thread numbers, then S orders"
abbrev pub threads_of : List ℕ → List ℕ
threads_of b = take (row_count b) (drop 5 b)

abbrev pub orders_of : List ℕ → List ℕ
orders_of b = drop (5 + row_count b) b

-- "two parallel arrays" as rows
abbrev pub paired : List ℕ → List ℕ → List Row
paired [] os = []
paired (t ∷ ts) [] = []
paired (t ∷ ts) (o ∷ os) = record { thread = t; order = o } ∷ paired ts os

abbrev pub rows_of : List ℕ → List Row
rows_of b = paired (threads_of b) (orders_of b)

-- the file that has these sizes and rows
abbrev pub filed : Sizes → List Row → List ℕ
filed z rs =
    z.nodes ∷ z.fan ∷ z.threads
    ∷ length rs % 256 ∷ length rs / 256 ∷ map (λ (r : Row). r.thread) rs ++ map (λ (r : Row). r.order) rs

-- ---- refusals 1 to 4

abbrev pub within : ℕ → ℕ → ℕ → Bool
within least most n = leb least n && leb n most

-- "N, 1 to 32", "F, 1 to 16", "T, 1 to 64"
abbrev pub sizes_fit : Sizes → Bool
sizes_fit z = within 1 32 z.nodes && within 1 16 z.fan && within 1 64 z.threads

-- "S, 0 to 4,096"
abbrev pub sizes_in_range : List ℕ → Bool
sizes_in_range b = sizes_fit (sizes_of b) && leb (row_count b) 4096

-- the first of refusals 1 to 3 that applies to a file of n bytes with S rows, whose sizes are in range or not, 0 where
-- none does: 1 "fewer than 5 bytes", 2 "a size outside its range", 3 "length is not 5 + 2 × S". The ticket file has
-- these too, of sizes of its own
abbrev pub shape_refusal : ℕ → Bool → ℕ → ℕ
shape_refusal n fits S = if ltb n 5 then 1 else if not fits then 2 else if not (eqb n (5 + 2 * S)) then 3 else 0

-- the first of two refusals, where 0 is none
abbrev pub or_else : ℕ → ℕ → ℕ
or_else zero m = m
or_else (suc n) m = suc n

-- refusals 1 to 3, of a file alone
abbrev pub file_refusal : List ℕ → ℕ
file_refusal b = shape_refusal (length b) (sizes_in_range b) (row_count b)

-- 4 "journal below 2 × S bytes", of a journal of j bytes
abbrev pub journal_refusal : List ℕ → ℕ → ℕ
journal_refusal b j = if ltb j (2 * row_count b) then 4 else 0

abbrev pub refusal : List ℕ → ℕ → ℕ
refusal b j = or_else (file_refusal b) (journal_refusal b j)

-- ---- whether a run has a state

-- where all rows were taken, 0, or a row was refused, 5 to 7. "Refusals 1 to 4 leave no state", nor do 9 and 10: they
-- are before the first row
abbrev pub has_state : ℕ → Bool
has_state n = eqb n 0 || within 5 7 n

abbrev pub stateless : ℕ → Bool
stateless n = not (has_state n)

-- "refusal number and rows taken", with the sizes of the run
abbrev pub ran_after : Result (Unit {0}) Refusal → ℕ → Sizes → Ran
ran_after answer taken z = record { answer = answer; taken = taken; sizes = z }

-- The sizes that a file may have, as facts.
pub record InRange (z : Sizes) : Type 0 where
  pub nodes_least : 1 ≤ z.nodes
  pub nodes : z.nodes ≤ 32
  pub fan_least : 1 ≤ z.fan
  pub fan : z.fan ≤ 16
  pub threads_least : 1 ≤ z.threads
  pub threads : z.threads ≤ 64
  pub items : z.items ≤ 32
