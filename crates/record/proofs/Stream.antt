-- A stream, by its bytes so far: it goes on, and ends.
use Rattle.lock.proofs.Library.{◌≡◌, List, ◌++◌, ℕ}
use Rattle.lock.specs.declared.Sizes.{Sizes}
use Rattle.record_model.specs.Record.{Told}
use Rattle.record_hold.specs.Holds.{StandsSomewhere, More}
use Rattle.record.specs.Streamed.{Streamed}

module _ (r : Told) {b p : List ℕ} {z : Sizes} {n : ℕ} {ls₀ ls : List (List ℕ)} (k : More b p z n ls₀ ls r) where
  pub goes_on : r.answer ≡ 0 → StandsSomewhere z r.held ls
  goes_on e = record { bytes = b ++ p; stands = k.next e }

  pub ends : Streamed z ls r
  ends = record { bytes = b ++ p; before = ls₀; sizes = k.sizes; holds = k.holds }
