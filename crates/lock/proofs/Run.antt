-- The laws of runs, of the lock.
use Rattle.lock.proofs.Library.{ℕ, suc, ◌<◌, ◌≡◌, List, length, get_or, take}
use Rattle.lock.specs.{Journal.Entry, State.{Sizes, State, taken}, Run.{Row, step, run}}
use Rattle.lock.proofs.Machine as machine

module _ (z : Sizes) where
  pub entries-taken : (s : State) (rs : List Row) → length (run z s rs).entries ≡ (run z s rs).taken
  unfolding run
  entries-taken = machine.entries-taken (step z)

  pub state-taken : (s : State) (rs : List Row) → (run z s (take (run z s rs).taken rs)).state ≡ (run z s rs).state
  unfolding run
  state-taken = machine.state-taken (step z)

  pub row-leads : (s : State) (rs : List Row) (i : ℕ) (d : Row) (y : Entry) → i < (run z s rs).taken
      → step z (run z s (take i rs)).state (get_or rs i d)
      ≡ taken (run z s (take (suc i) rs)).state (get_or (run z s rs).entries i y)
  unfolding run
  row-leads = machine.row-leads (step z)
