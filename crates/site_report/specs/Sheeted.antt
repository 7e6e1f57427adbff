-- What asking for the sheet of a site's run gives.
use Rattle.std.specs.Prelude.{ℕ, ◌≡◌, List, length}
use Rattle.text.specs.Asked.{Asked}
use Rattle.site_model.specs.File.{site_of, refusal}
use Rattle.site_model.specs.Claims.{Replays}
use Rattle.site_model.specs.Sheet.{sheet}

-- The site b was run at the turns ts, and its sheet was asked for with a buffer that was t₀ and is t now.
pub record SheetsSite (b ts t₀ t : List ℕ) (len : ℕ) : Type 0 where
  pub asked : Asked (sheet b ts) t₀ t len
  -- the run is the bench's run of the rows that its turns make, and demand 3 bounds the failed swaps that are printed
  pub replays : refusal b (length ts) ≡ 0 → Replays (site_of b) ts
