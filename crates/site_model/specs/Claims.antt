-- What is claimed of every site's run: it is the bench's run of the rows that its turns make.
use Rattle.std.specs.Prelude.{ℕ, suc, ◌≤◌, ◌<◌, ◌≡◌, length, get_or}
use mathlib.Core.List.{List, [], ◌∷◌, ◌++◌}
use Rattle.std.proofs.Math.Dec.{eqb}
use Rattle.std.specs.Prelude.{if◌then◌else◌}
use Rattle.lock.specs.Demand.{Counted}
use Rattle.lock.specs.State.{fresh, thread_at}
use Rattle.lock.specs.Run as bench
use Rattle.lock.specs.Run.{Row}
use Rattle.site_model.specs.Site.{Site, Going, Due, passing, pausing, getting, Went, on, stopped, begun, due}
use Rattle.site_model.specs.Site.{at_turn, measures, run, site}

-- the row that a turn of thread t makes, if it is for one
abbrev pub given : ℕ → Due → List Row
given t passing = []
given t pausing = []
given t (getting o) = record { thread = t; order = o } ∷ []

-- what is known at the end
abbrev pub left : Went → Going
left (on g) = g
left (stopped n g) = g

abbrev pub rows_on : (Going → List Row) → Went → List Row
rows_on f (on g) = f g
rows_on f (stopped n g) = []

module _ (x : Site) where
  -- the rows that these turns make, behind n others, before one is refused
  unfoldable pub rows_made : ℕ → List ℕ → Going → List Row
  unfolding due at_turn
  rows_made n [] g = []
  rows_made n (t ∷ ts) g =
      let h = if eqb n x.warm then measures g else g in
      rows_on (λ g'. given t (due x t h) ++ rows_made (suc n) ts g') (at_turn x t h)

  -- the rows rs led to g
  pub record Runs (g : Going) (rs : List Row) : Type 0 where
    -- the bench takes them all, and comes to the same state
    pub taken : (bench.run x.sizes fresh rs).taken ≡ length rs
    pub state : (bench.run x.sizes fresh rs).state ≡ g.state
    pub rows : g.row ≡ length rs
    -- the failed swaps that are printed of a thread are among its failures in the state
    pub failed : (t : ℕ) → t < x.sizes.threads → get_or g.failed t 0 ≤ (thread_at g.state t).failures
    -- and these, word by word, are at most the changes that others made (demand 3)
    pub counted : Counted x.sizes rs (bench.run x.sizes fresh rs).entries g.state

  -- of all turns
  abbrev pub Replays : List ℕ → Type 0
  unfolding run rows_made
  Replays ts = Runs (left (site x ts)) (rows_made 0 ts (begun x))
