-- The plain engine's root: "a single surplus and a flag".
use Rattle.std.specs.Prelude.{ℕ, ◌+◌, ◌-◌, Bool, not, ◌&&◌, eqb}
use Rattle.std.specs.Prelude.{if◌then◌else◌}
pub use Rattle.plain_model.specs.declared.Root.{Root}

-- (count, open) and (count, closed)
abbrev pub open_at : ℕ → Root
open_at n = record { count = n; closed = 0 }

abbrev pub shut_at : ℕ → Root
shut_at n = record { count = n; closed = 1 }

abbrev pub is_shut : Root → Bool
is_shut v = eqb v.closed 1

-- is it (0, open)? (0, closed)?
abbrev pub is_free : Root → Bool
is_free v = not (is_shut v) && eqb v.count 0

abbrev pub is_spent : Root → Bool
is_spent v = eqb v.count 0 && is_shut v

-- "swap count + 1", "swap − 1", "swap to closed with the count kept"
abbrev pub more : Root → Root
more v = record { count = v.count + 1; closed = v.closed }

abbrev pub less : Root → Root
less v = record { count = v.count - 1; closed = v.closed }

abbrev pub shutting : Root → Root
shutting v = shut_at v.count

-- "store (size of group, closed if a writer is still queued, else open)"
abbrev pub storing : ℕ → Bool → Root
storing n queued = if queued then shut_at n else open_at n
