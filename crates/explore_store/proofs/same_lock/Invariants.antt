-- Of every number passed it is known that they are equal, unless `differ` has a bit.
use Rattle.lock.proofs.Library.{ℕ, ◌<◌, ◌≡◌, get_or}
use Rattle.explore_store.proofs.same_lock.Given as goal

abbrev pub invariant-loop-j : goal.invariant-loop-j
invariant-loop-j l = l.differ ≡ 0 → (k : ℕ) → k < l.j → get_or l.a k 0 ≡ get_or l.b k 0
