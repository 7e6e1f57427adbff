-- What the code gives for a record, and for a piece of one.
use Rattle.std.specs.Prelude.{◌≡◌, ◌≢◌, ℕ, suc, ◌+◌, ◌/◌, ◌≤◌, ◌<◌, List, ◌++◌, length, take, Result, Ok, Err}
use Rattle.std.proofs.Math.Option.{none, some}
use Rattle.std.specs.Prelude.{if◌then◌else◌}
use Rattle.lock.specs.declared.Sizes.{Sizes}
use Rattle.lock.specs.File.{sizes_of, within}
use Rattle.turn.specs.Turn.{pair_in, Place}
use Rattle.pair.specs.Pair.{Pair, turn}
use Rattle.record_model.specs.Record.{Told, difference, judged, after, held_by, recorded_at}
use Rattle.record_model.specs.Record.{Holding, hold, rows_from, recorded_in, count_of, head_refusal, record_refusal}
use Rattle.record_model.specs.Record.{told_only, holding_of, Verdict, verdict}
use Rattle.record_model.specs.Runs.{Claimed}
use Rattle.record_model.specs.Told.{value_number, told_by, compared}
use Rattle.record_model.specs.declared.{Effect.Effect, Reason.Reason}

-- ---- a row

-- What came of a row r that was compared, before the rest h: it is held, or it ends the record in the state s.
abbrev pub going : Result (Unit {0}) Reason → Pair → Holding → Holding
going (Ok u) s h = after 1 h
going (Err x) s h = record { told = told_by (record { held = 0; reason = x }); state = s }

-- the record's effect d was compared with the effect e of the row that was made
abbrev pub Compares : Effect → Effect → Result (Unit {0}) Reason → Type 0
Compares d e r =
    (s : Pair) (h : Holding)
    → going r s h ≡ judged (difference d.entry.kind d.entry.word (value_number d.value) e.entry.kind e.entry.word
    (value_number e.value)) s e.entry (value_number e.value) h

-- The row in the eight bytes b was made on the locks ls, which are ls' now, and compared.
pub record HoldsRow (z : Sizes) (b : List ℕ) (ls ls' : List (List ℕ)) (r : Result (Unit {0}) Reason) : Type 0 where
  -- as the definition says, whatever rows are to come
  pub row : (rest : Pair → Holding)
      → held_by (pair_in ls) (recorded_at b 0) rest (turn z (pair_in ls) (recorded_at b 0).row)
      ≡ going r (pair_in ls) (rest (pair_in ls'))
  -- a row is refused with 5 to 7 and changes nothing, or differs, 11 and 12
  pub late : (compared r).answer ≢ 0 → 5 ≤ (compared r).answer
  pub state : (compared r).answer ≢ 0 → (compared r).answer < 11 → pair_in ls' ≡ pair_in ls
  -- one row more has led there
  pub place : (n : ℕ) → Place z ls n → Place z ls' (suc n)

-- ---- the rows of a piece

-- what holding n rows of the bytes b from the locks ls gives
abbrev pub held_from : Sizes → List ℕ → ℕ → List (List ℕ) → Holding
held_from z b n ls = hold z (pair_in ls) (rows_from b 0 n)

-- The n rows of a piece b were held on the locks ls₀, to which m rows had led, and which are ls now. At a difference
-- the locks are those after the row; else they are as the definition says, and where all rows were held the next piece
-- can go on there.
pub record Holds (z : Sizes) (b : List ℕ) (n m : ℕ) (ls₀ ls : List (List ℕ)) (r : Told) : Type 0 where
  pub told : r ≡ (held_from z b n ls₀).told
  pub state : r.answer < 11 → pair_in ls ≡ (held_from z b n ls₀).state
  -- a row is refused with 5 to 7, or differs, 11 and 12
  pub late : r.answer ≢ 0 → 5 ≤ r.answer
  pub whole : r.answer ≡ 0 → r.held ≡ n
  pub place : r.answer ≡ 0 → Place z ls (m + n)

-- The same with the locks as they were before the row that ended it, whatever that was.
pub record HoldsPiece (z : Sizes) (b : List ℕ) (n m : ℕ) (ls₀ ls : List (List ℕ)) (r : Told) : Type 0 where
  pub told : r ≡ (held_from z b n ls₀).told
  pub state : pair_in ls ≡ (held_from z b n ls₀).state
  pub late : r.answer ≢ 0 → 5 ≤ r.answer
  pub whole : r.answer ≡ 0 → r.held ≡ n
  pub place : r.answer ≡ 0 → Place z ls (m + n)

-- ---- a record

-- what was told, with the state that is in the locks ls; after 1 to 3 there is none
abbrev pub verdict_in : Told → List (List ℕ) → Verdict
verdict_in r ls = record { told = r; state = if within 1 3 r.answer then none else some (pair_in ls) }

-- The record b was held on the locks ls₀, which are ls now: the answer, the rows held, what the bench gives at a
-- difference, and both locks before the row that ended it are those of the definition.
pub record HoldsRecord (b : List ℕ) (ls₀ ls : List (List ℕ)) (r : Told) : Type 0 where
  pub verdict : verdict_in r ls ≡ verdict b
  -- 0 means that all rows are held
  pub whole : r.answer ≡ 0 → r.held ≡ count_of b
  -- what is proved of the bench's runs is true of the record's own bytes up to the rows held, and of the locks left
  pub claims : record_refusal b ≡ 0 → Claimed (sizes_of b) (take r.held (recorded_in b)) (pair_in ls)
  -- a record that is refused leaves the locks as they were
  pub untouched : record_refusal b ≢ 0 → ls ≡ ls₀

-- ---- a record in pieces

-- Of a record whose bytes so far are b all n rows are held, and the locks ls are where they led.
pub record Stands (b : List ℕ) (z : Sizes) (n : ℕ) (ls : List (List ℕ)) : Type 0 where
  pub fine : record_refusal b ≡ 0
  pub sizes : z ≡ sizes_of b
  pub count : n ≡ count_of b
  pub held : (holding_of b).told.held ≡ count_of b
  pub state : pair_in ls ≡ (holding_of b).state
  pub place : Place z ls n

-- of some bytes
pub record StandsSomewhere (z : Sizes) (n : ℕ) (ls : List (List ℕ)) : Type 0 where
  pub bytes : List ℕ
  pub stands : Stands bytes z n ls

-- The first three bytes of b were read: the record is refused by them, or its rows are to come.
pub record Begins (b : List ℕ) (ls₀ ls : List (List ℕ)) (r : Told) : Type 0 where
  pub told : r ≡ told_only (head_refusal b)
  pub refused : r.answer ≢ 0 → HoldsRecord b ls₀ ls r
  pub stands : r.answer ≡ 0 → Stands (take 3 b) (sizes_of b) 0 ls

-- The piece p came behind the bytes b, which have n rows: what is told is told of all bytes so far, and where all their
-- rows are held the next piece can come.
pub record More (b p : List ℕ) (z : Sizes) (n : ℕ) (ls₀ ls : List (List ℕ)) (r : Told) : Type 0 where
  pub sizes : z ≡ sizes_of (b ++ p)
  pub holds : HoldsRecord (b ++ p) ls₀ ls r
  pub count : r.answer ≡ 0 → r.held ≡ n + length p / 8
  pub next : r.answer ≡ 0 → Stands (b ++ p) z r.held ls

-- whatever bytes led to the locks ls₀ by n rows
abbrev pub HoldsMore : Sizes → ℕ → List ℕ → List (List ℕ) → List (List ℕ) → Told → Type 0
HoldsMore z n p ls₀ ls r = (b : List ℕ) → Stands b z n ls₀ → More b p z n ls₀ ls r
