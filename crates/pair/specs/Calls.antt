-- Of every run of two locks: a thread is in one call at a time, and what the answer tells.
use Rattle.std.specs.Prelude.{ℕ, ◌≡◌, false, ◌&&◌, List}
use Rattle.lock.specs.declared.Sizes.{Sizes}
use Rattle.lock.specs.Machine.{Row, Finished}
use Rattle.lock.specs.File.{InRange}
use Rattle.pair.specs.Pair.{Pair, fresh_pair, busy, run}

-- "A thread is in one call at a time, may hold both locks": in no state that rows lead to is a thread busy, in a call
-- or asleep, at both
abbrev pub OneCall : Pair → Type 0
OneCall s = (t : ℕ) → (busy s.one t && busy s.two t) ≡ false

-- of every list of rows, and so after each row of one
abbrev pub OneCallOf : Type 0
OneCallOf = (z : Sizes) (rs : List Row) → OneCall (run z fresh_pair rs).state

-- "0 means all rows were taken": of every list of rows
abbrev pub FinishedOf : Type 0
FinishedOf = (z : Sizes) → InRange z → (rs : List Row) → Finished rs (run z fresh_pair rs)
