-- What the code of a site's run gives.
use Rattle.std.specs.Prelude.{ℕ, ◌≤◌, ◌≡◌, Bool, List, Result, Ok, Err, OnOk, OnErr, length, replicate}
use Rattle.std.proofs.Math.Option.{none, some}
use Rattle.lock.specs.Bound.{most_steps}
use Rattle.std.specs.Prelude.{if◌then◌else◌}
use Rattle.lock.specs.declared.Refusal.{Refusal}
use Rattle.lock.specs.Refusal.{number_of, answer_number}
use Rattle.lock.specs.File.{sizes_of}
use Rattle.step.specs.Reached.{Reached}
use Rattle.site_model.specs.Tally.{nothing}
use Rattle.site_model.specs.Site.{Site, begun, site}
use Rattle.site_model.specs.Code.{Few}
use Rattle.site_model.specs.File.{hold_of, think_of, warm_of, site_of, refusal, site_run, Ran}
use Rattle.site_model.specs.Claims.{Replays}
use Rattle.site_turn.specs.declared.{plan.Pace.Pace, plan.Plan.Plan, SiteState.SiteState}
use Rattle.site_turn.specs.Turns.{ROOM, site_in, going_of, Waiting, went_to}

-- the warm-up is over, or not
abbrev pub measured_if : Bool → SiteState → SiteState
measured_if over s =
    if over then record s { done = replicate 64 0; failed = replicate 64 0; tally = nothing } else s

-- ---- the turns

-- before the first turn of a plan: what is known is what a site's run begins with
pub record Running (k : Plan) (turns : List ℕ) (s : SiteState) : Type 0 where
  pub turns_few : length turns ≤ most_steps
  pub reached : Reached k.sizes 0 s.lock
  pub known : going_of s ≡ begun (site_in k)
  pub waiting : Waiting s

-- what holds of the state at the end of a run
pub record Ended (s : SiteState) : Type 0 where
  pub waiting : Waiting s
  pub few : Few ROOM s.tally
  pub long : length s.done ≡ 64

-- the run of these turns led there
pub record RanTo (x : Site) (turns : List ℕ) (s : SiteState) (r : Result (Unit {0}) Refusal) : Type 0 where
  pub went : site x turns ≡ went_to r (going_of s)
  pub ended : Ended s

-- ---- the file

abbrev pub pace_of : List ℕ → Pace
pace_of b = record { hold = hold_of b; think = think_of b; warm = warm_of b }

-- a run's answer and what is known at its end; a file that is refused is not run
abbrev pub ran_of : Result (Result (Unit {0}) Refusal) Refusal → SiteState → Ran
ran_of (Ok a) s = record { answer = answer_number a; going = some (going_of s) }
ran_of (Err r) s = record { answer = number_of r; going = none }

-- The site file b was run at the turns ts, with a state that was s₀ and is s now.
pub record RanSite (b ts : List ℕ) (s₀ s : SiteState) (r : Result (Result (Unit {0}) Refusal) Refusal) : Type 0 where
  pub ran : ran_of r s ≡ site_run b ts
  -- a file that is run has its sizes in range
  pub ended : OnOk r (((sizes_of b).threads ≤ 64) × Ended s)
  pub untouched : OnErr r (s ≡ s₀)
  -- the run is the bench's run of the rows that its turns make; demand 3 bounds the failed swaps
  pub replays : refusal b (length ts) ≡ 0 → Replays (site_of b) ts
