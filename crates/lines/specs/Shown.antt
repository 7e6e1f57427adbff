-- What the line of the queue shows, from the numbers of the lock in place.
use Rattle.std.specs.Prelude.{ℕ, ◌+◌, min, ltb}
use Rattle.std.specs.Prelude.{if◌then◌else◌}

-- the number of groups goes by the set of readers and the number of writers (proofs/Cells `groups-are`)
abbrev pub group_count : ℕ → ℕ → ℕ
group_count readers writers = min writers 64 + (if ltb 0 readers then 1 else 0)
