-- What the code of a site's run may rely on between two turns.
use Rattle.std.specs.Prelude.{ℕ, ◌≤◌, ◌<◌, ◌≡◌, false, List, length, get_or}
use Rattle.site_model.specs.Tally.{Waits, Tally}
use Rattle.site_model.specs.Site.{Site, Going, is_over}

-- ---- counters at most m

abbrev pub Below : ℕ → List ℕ → Type 0
Below m ns = (u : ℕ) → get_or ns u 0 ≤ m

pub record FewWaits (m : ℕ) (w : Waits) : Type 0 where
  pub got : w.got ≤ m
  pub waited : w.waited ≤ m
  pub longest : w.longest ≤ m

pub record Few (m : ℕ) (y : Tally) : Type 0 where
  pub passed : y.passed ≤ m
  pub holding : y.holding ≤ m
  pub thinking : y.thinking ≤ m
  pub rows : y.rows ≤ m
  pub failed : y.failed ≤ m
  pub root : y.root ≤ m
  pub held : y.held ≤ m
  pub finished : y.finished ≤ m
  pub writers : FewWaits m y.writers
  pub readers : FewWaits m y.readers

-- no counter is above m, and no call began later than now
pub record Small (m : ℕ) (g : Going) : Type 0 where
  pub tally : Few m g.tally
  pub row : g.row ≤ m
  pub since : Below g.row g.since
  pub done : Below m g.done
  pub failed : Below m g.failed
  pub long : length g.order ≡ 64
  pub done_long : length g.done ≡ 64

-- ---- between two turns

-- the place of each thread's next call is a row of its own
abbrev pub Placed : List ℕ → List ℕ → Type 0
Placed ts next = (u : ℕ) → u < 64 → get_or next u 0 < length ts → get_or ts (get_or next u 0) 0 ≡ u

-- every call that is over was finished
abbrev pub Settled : ℕ → Going → Type 0
Settled T g = (u : ℕ) → u < T → is_over g u ≡ false

pub record Fit (x : Site) (m : ℕ) (g : Going) : Type 0 where
  pub small : Small m g
  pub long : length g.next ≡ 64
  pub placed : Placed x.threads g.next
  pub settled : Settled x.sizes.threads g
