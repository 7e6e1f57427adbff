-- How many rows may be made, one after the other, on one lock or a pair of them.
use Rattle.std.specs.Prelude.{ℕ, ◌-◌}

-- At most 4,294,967,294. Counts are bounded by threads and nodes whatever the rows; a thread's failures alone grow with
-- them, to this number at most, which is printed whole: a number's last ten digits are. A schedule
-- file has 4,096 rows at most, a record file this many.
abbrev pub most_steps : ℕ
most_steps = 4294967294

-- at most so many were made, where one more may be
abbrev pub steps_before : ℕ
steps_before = most_steps - 1
