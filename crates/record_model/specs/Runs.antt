-- What holding a record says of it: its rows are a run of the bench, with the record's own entries, so what is proved
-- of the bench's runs is true of them.
use Rattle.std.specs.Prelude.{ℕ, ◌≤◌, ◌≡◌, List, map, length, take}
use Rattle.lock.specs.declared.{Entry.Entry, Sizes.Sizes}
use Rattle.lock.specs.File.{sizes_of}
use Rattle.lock.specs.Journal.{entry}
use Rattle.lock.specs.Machine.{Row, ResultOf}
use Rattle.pair.specs.Pair.{Side, Pair, fresh_pair, Note, journal, run}
use Rattle.pair.specs.Demand.{CountedAt}
use Rattle.progress.specs.Claimed.{RowsClaimed, StateClaimed}
use Rattle.record_model.specs.Record.{Recorded, holding_of, recorded_in, record_refusal}

abbrev pub rows_of : List Recorded → List Row
rows_of rs = map (λ (r : Recorded). r.row) rs

abbrev pub entries_of : List Recorded → List Entry
entries_of rs = map (λ (r : Recorded). entry r.kind r.word) rs

-- the run f took all of the rows rs, with the record's entries, and led to s
pub record Ran (f : ResultOf Pair Note) (s : Pair) (rs : List Recorded) : Type 0 where
  pub answer : f.answer ≡ 0
  pub taken : f.taken ≡ length rs
  pub state : f.state ≡ s
  pub entries : journal f.entries ≡ entries_of rs

-- What is proved of the bench's runs, of the record's rows rs that are held and of the state s to which they led, as
-- `bench` specs/Bench has it of a schedule's.
pub record Claimed (z : Sizes) (rs : List Recorded) (s : Pair) : Type 0 where
  -- the rows are a run of the bench
  pub ran : Ran (run z fresh_pair (rows_of rs)) s rs
  -- demand 3 at each lock, after the first i rows; the entries are the record's own
  pub counted : (x : Side) (i : ℕ) → i ≤ length rs
      → CountedAt z x (take i (rows_of rs)) (take i (entries_of rs)) (run z fresh_pair (take i (rows_of rs))).state
  -- document 02, Five to Eight and Ten, progress and lock order, after each row; and all of it in the state s
  pub rows : RowsClaimed z (rows_of rs)
  pub left : StateClaimed z (rows_of rs) (entries_of rs) s

-- of the record's own bytes b, up to the rows held, and the state that its sheet prints
abbrev pub ClaimedOf : List ℕ → Type 0
ClaimedOf b =
    record_refusal b ≡ 0 → Claimed (sizes_of b) (take (holding_of b).told.held (recorded_in b)) (holding_of b).state
