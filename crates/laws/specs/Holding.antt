-- Who holds the lock holds it until it unlocks, whatever its calls and the others' rows. So no upgrade is a gap in the
-- exclusion, "A thread inside this call still counts as a reader", and no downgrade, "it is a writer until its store
-- and a reader from then on".
use Rattle.std.specs.Prelude.{ℕ, suc, ◌<◌, ◌≡◌, ◌≢◌, List}
use Rattle.lock.specs.declared.Phase.{Phase}
use Rattle.lock.specs.declared.Sizes.{Sizes}
use Rattle.lock.specs.State.{fresh, thread_at}
use Rattle.lock.specs.Run.{Row, run}
use Rattle.laws.specs.Exclusion.{as_nobody, counts_as}
use Rattle.laws.specs.Late.{state_at, row_at}

-- counts as a reader or as a writer
abbrev pub Holder : Phase → Type 0
Holder p = counts_as p ≢ as_nobody

-- of every row taken that is no unlock of thread t
abbrev pub HoldsOn : Sizes → List Row → Type 0
HoldsOn z rs =
    (t i : ℕ) → i < (run z fresh rs).taken → ((row_at z rs i).thread ≡ t → (row_at z rs i).order ≢ 2)
    → Holder (thread_at (state_at z rs i) t).phase → Holder (thread_at (state_at z rs (suc i)) t).phase
