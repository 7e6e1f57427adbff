-- Whose turn it is, as the code asks for it: by the set of those that are able to move.
use Rattle.std.specs.Prelude.{ℕ, ◌≡◌, Option as Answer, Some, None}
use Rattle.std.proofs.Math.Option.{Option, none}
use Rattle.dispatch_model.specs.{Dispatch.{Offer, Chooser, dispatch_by}, File.{Way}}
use Rattle.dispatch_model.proofs.Round.{Able, Chosen}

-- The chooser kept c: nobody's turn comes, or thread t's does, and it keeps c' after its step.
abbrev pub Gives : {C : Type 0} → Chooser C → ℕ → (ℕ → Option Offer) → C → C → Answer ℕ → Type 0
Gives ch T f c c' None = ch.choose f c ≡ none
Gives ch T f c c' (Some t) = (x : Chosen ch T f c t) × (c' ≡ ch.after f c (record { thread = t; gets = x.gets }))

-- of T threads, of which those in a set are offered a step
abbrev pub Chooses : {C : Type 0} → Chooser C → ℕ → ℕ → C → C → Answer ℕ → Type 0
Chooses ch T able c c' r = (f : ℕ → Option Offer) → Able T able f → Gives ch T f c c' r

-- the way to give steps, where it keeps c
abbrev pub way_by : {C : Type 0} → (ℕ → Chooser C) → C → Way
way_by chooser c z rs = dispatch_by (chooser z.threads) c z rs
