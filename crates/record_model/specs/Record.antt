-- The record file, and what it means that the bench holds it (docs/SPECIFICATION.md, "The record file").
use Rattle.std.specs.Prelude.{ℕ, zero, suc, ◌+◌, ◌-◌, ◌*◌, ◌/◌, ◌%◌, not, ◌&&◌, ◌||◌, List, [], ◌∷◌, length, get_or, drop, eqb, leb, ltb}
use Rattle.std.proofs.Math.Option.{Option, none, some}
use Rattle.lock.specs.Bound.{most_steps}
use Rattle.std.specs.Prelude.{if◌then◌else◌}
use Rattle.lock.specs.declared.Entry.{Entry}
use Rattle.lock.specs.declared.Sizes.{Sizes}
use Rattle.lock.specs.File.{sizes_of, sizes_fit, or_else}
use Rattle.lock.specs.Machine.{Row, OutcomeOf, taken, refused}
use Rattle.lock.specs.State.{word_at}
use Rattle.lock.specs.declared.Word.{Word}
use Rattle.pair.specs.Pair.{Pair, fresh_pair, Note, written, turn}

-- ---- values

-- "4,294,967,295 where none is recorded", and where there is none
abbrev pub NONE : ℕ
NONE = 4294967295

-- word w as a number: "of a node its count, of the root closed + 2 × direct + 131,072 × tree"
abbrev pub number_of : ℕ → Word → ℕ
number_of zero v = v.closed + 2 * v.direct + 131072 * v.tree
number_of (suc w) v = v.tree

-- "the value of that word after the row", by its number in the journal: 0 to 31 are the first lock's words, 64 to 95
-- the second's. The others, the mutex with the queue and none, are those of "kinds 0, 4, 6 to 9, 11 to 13", which "have
-- no value"
abbrev pub value_in : Pair → ℕ → ℕ
value_in s w =
    if ltb w 32 then number_of w (word_at s.one w)
    else if ltb w 64 then NONE
    else if ltb w 96 then number_of (w - 64) (word_at s.two (w - 64)) else NONE

-- ---- a row of the record

pub record Recorded : Type 0 where
  pub row : Row
  pub kind : ℕ
  pub word : ℕ
  pub value : ℕ

-- Of the kind k, word w and value v of the record, and those that the bench gives: 0 where they are the same, "or no
-- value is recorded"; 11 "where its kind or word is another than the record's", 12 "where these are right and the value
-- is not", also where one is recorded for a row that has none
abbrev pub difference : ℕ → ℕ → ℕ → ℕ → ℕ → ℕ → ℕ
difference k w v k' w' v' =
    if not (eqb k k' && eqb w w') then 11
    else if eqb v NONE || eqb v v' then 0 else 12

-- ---- rows

-- What is told: 0, or the number of the answer that ended the record; the rows held before that; and what the bench
-- gives at the row that is another than the record's (11, 12): its kind, its word, and that word's value after it.
pub record Told : Type 0 where
  pub answer : ℕ
  pub held : ℕ
  pub kind : ℕ
  pub word : ℕ
  pub value : ℕ

-- what holding rows gives, and "the state before that row", or after all
pub record Holding : Type 0 where
  pub told : Told
  pub state : Pair

-- no row differs: all are held, 0, or the first is refused, with its number
abbrev pub told_only : ℕ → Told
told_only n = record { answer = n; held = 0; kind = 0; word = 0; value = NONE }

abbrev pub ended : ℕ → Pair → Holding
ended n s = record { told = told_only n; state = s }

-- the first row is taken, with the entry e, and differs
abbrev pub differs : ℕ → Pair → Entry → ℕ → Holding
differs n s e v =
    record { told = record { answer = n; held = 0; kind = e.kind; word = e.word; value = v }; state = s }

-- the same with n rows held before
abbrev pub told_after : ℕ → Told → Told
told_after n r = record { answer = r.answer; held = n + r.held; kind = r.kind; word = r.word; value = r.value }

abbrev pub after : ℕ → Holding → Holding
after n h = record { told = told_after n h.told; state = h.state }

-- by the difference: a row without one is held, and the rest comes after it
abbrev pub judged : ℕ → Pair → Entry → ℕ → Holding → Holding
judged zero s e v rest = after 1 rest
judged (suc n) s e v rest = differs (suc n) s e v

abbrev pub found : Pair → Recorded → Entry → ℕ → Holding → Holding
found s r e v rest = judged (difference r.kind r.word r.value e.kind e.word v) s e v rest

-- a row is held where "it is taken, its entry is the one that the bench gives, and its value, if recorded, is the
-- word's"; 5, 6 and 7 come before 11 and 12
abbrev pub held_by : Pair → Recorded → (Pair → Holding) → OutcomeOf Pair Note → Holding
held_by s r rest (refused n) = ended n s
held_by s r rest (taken s' m) = found s r (written m) (value_in s' (written m).word) (rest s')

-- the rows "up to the first that is not so"
unfoldable pub hold : Sizes → Pair → List Recorded → Holding
hold z s [] = ended 0 s
hold z s (r ∷ rs) = held_by s r (λ s'. hold z s' rs) (turn z s r.row)

-- ---- the file: "N, F, T in a byte each, as in a schedule; then eight bytes a row"

-- "four bytes, low byte first", from byte i on
abbrev pub four_at : List ℕ → ℕ → ℕ
four_at b i = get_or b i 0 + 256 * get_or b (i + 1) 0 + 65536 * get_or b (i + 2) 0 + 16777216 * get_or b (i + 3) 0

-- row i of the bytes b: "thread, order, kind, word, and … the value"
abbrev pub recorded_at : List ℕ → ℕ → Recorded
recorded_at b i =
    record {
      row = record { thread = get_or b (8 * i) 0; order = get_or b (8 * i + 1) 0 };
      kind = get_or b (8 * i + 2) 0;
      word = get_or b (8 * i + 3) 0;
      value = four_at b (8 * i + 4);
    }

-- n rows of the bytes b from row i on
unfoldable pub rows_from : List ℕ → ℕ → ℕ → List Recorded
rows_from b i zero = []
rows_from b i (suc n) = recorded_at b i ∷ rows_from b (suc i) n

-- K, of "3 + 8 × K bytes"
abbrev pub count_of : List ℕ → ℕ
count_of b = (length b - 3) / 8

abbrev pub recorded_in : List ℕ → List Recorded
recorded_in b = rows_from (drop 3 b) 0 (count_of b)

-- ---- refusals 1 to 3

-- 1 "fewer than 3 bytes", 2 "a size out of its range", of the first three bytes
abbrev pub head_refusal : List ℕ → ℕ
head_refusal b = if ltb (length b) 3 then 1 else if not (sizes_fit (sizes_of b)) then 2 else 0

-- 3 "a length that is not 3 + 8 × K, or too many rows", of the n bytes behind these
abbrev pub length_refusal : ℕ → ℕ
length_refusal n = if not (eqb (n % 8) 0 && leb (n / 8) most_steps) then 3 else 0

-- the first of refusals 1 to 3 that applies, 0 where none does
abbrev pub record_refusal : List ℕ → ℕ
record_refusal b = or_else (head_refusal b) (length_refusal (length b - 3))

-- ---- what the bench says of a record

pub record Verdict : Type 0 where
  pub told : Told
  pub state : Option Pair

-- by the first of refusals 1 to 3 that applies, after which there is no state
abbrev pub verdict_by : ℕ → Holding → Verdict
verdict_by zero h = record { told = h.told; state = some h.state }
verdict_by (suc n) h = record { told = told_only (suc n); state = none }

-- what holding all rows of the record on two fresh locks gives
abbrev pub holding_of : List ℕ → Holding
holding_of b = hold (sizes_of b) fresh_pair (recorded_in b)

unfoldable pub verdict : List ℕ → Verdict
unfolding hold rows_from
verdict b = verdict_by (record_refusal b) (holding_of b)
