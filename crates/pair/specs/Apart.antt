-- "In an accepted run, take away every row that belongs to one lock: the other lock's words, queue, standings and
-- failures are what the rest alone gives."
use Rattle.std.specs.Prelude.{◌≡◌, Bool, true, false, List, [], ◌∷◌, length}
use Rattle.lock.specs.declared.Entry.{Entry}
use Rattle.lock.specs.declared.Sizes.{Sizes}
use Rattle.lock.specs.State.{fresh}
use Rattle.lock.specs.Run as lock
use Rattle.lock.specs.Machine.{Row, ResultOf}
use Rattle.pair.specs.Pair.{Side, first, second, Pair, lock_of, with_lock, fresh_pair, own_row, Note, run}

abbrev pub is : Side → Side → Bool
is first first = true
is first second = false
is second first = false
is second second = true

-- x before xs, if it is kept
abbrev pub keep : {A : Type 0} → Bool → A → List A → List A
keep true x xs = x ∷ xs
keep false x xs = xs

-- the rows taken that belong to the lock x, by what each did, as they stand in the schedule
abbrev pub rows_at : Side → List Row → List Note → List Row
rows_at x [] ms = []
rows_at x (r ∷ rs) [] = []
rows_at x (r ∷ rs) (m ∷ ms) = keep (is x m.side) r (rows_at x rs ms)

-- the same with that lock's own orders, without the 128
abbrev pub own_rows : Side → List Row → List Note → List Row
own_rows x [] ms = []
own_rows x (r ∷ rs) [] = []
own_rows x (r ∷ rs) (m ∷ ms) = keep (is x m.side) (own_row r) (own_rows x rs ms)

-- what they did
abbrev pub notes_at : Side → List Note → List Note
notes_at x [] = []
notes_at x (m ∷ ms) = keep (is x m.side) m (notes_at x ms)

abbrev pub own_entries : Side → List Note → List Entry
own_entries x [] = []
own_entries x (m ∷ ms) = keep (is x m.side) m.entry (own_entries x ms)

-- The rows rs ran on two fresh locks, with the result r. What is left without the other lock's rows runs on two fresh
-- locks as it did, and so do the lock's own rows on a single lock.
pub record Apart (z : Sizes) (x : Side) (rs : List Row) (r : ResultOf Pair Note) : Type 0 where
  pub rest : run z fresh_pair (rows_at x rs r.entries)
      ≡ record {
        answer = 0;
        taken = length (rows_at x rs r.entries);
        state = with_lock x (lock_of x r.state) fresh_pair;
        entries = notes_at x r.entries;
      }
  pub alone : lock.run z fresh (own_rows x rs r.entries)
      ≡ record {
        answer = 0;
        taken = length (own_rows x rs r.entries);
        state = lock_of x r.state;
        entries = own_entries x r.entries;
      }

-- of any list of rows: of the rows taken, which in an accepted run are all
abbrev pub Separate : Type 0
Separate = (z : Sizes) (x : Side) (rs : List Row) → Apart z x rs (run z fresh_pair rs)
