-- The items are looked at one by one (proofs/Checks `Looked`).
use Rattle.till.proofs.Checks.{Looked}
use Rattle.till.proofs.rooms_fit.Given as goal

abbrev pub invariant-loop-e : goal.invariant-loop-e
invariant-loop-e l =
    Looked l.till l.rooms l.items l.e
