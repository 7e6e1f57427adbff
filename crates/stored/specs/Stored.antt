-- What asking for the text of a file's runs gives.
use Rattle.std.specs.Prelude.{ℕ, ◌≤◌, ◌≡◌, Bool, true, List, ◌++◌, length, drop, ltb, Option, None, Some, unwrap_or}
use Rattle.std.specs.Prelude.{if◌then◌else◌}
use Rattle.stored.specs.Runs.{runs_text}

-- nothing is written for a name of more than 1,024 bytes, or into a buffer of fewer than 98,304
abbrev pub no_room : ℕ → ℕ → Bool
no_room name room = if ltb 1024 name then true else ltb room 98304

-- The text of the runs of the file b, with the till file c if it is there, was asked for with a buffer that was t₀ and
-- is t now; where there is no room, no length is given. `within` follows from the others; with it a caller takes the text out of the buffer at once.
pub record Stored (name : List ℕ) (there : Bool) (b c t₀ t : List ℕ) (len : Option ℕ) : Type 0 where
  pub buffer : t ≡ (if no_room (length name) (length t₀) then t₀
      else runs_text name there b c ++ drop (length (runs_text name there b c)) t₀)
  pub long : len ≡ (if no_room (length name) (length t₀) then None else Some (length (runs_text name there b c)))
  pub within : unwrap_or len 0 ≤ length t
