-- The records stay, the index keeps its length, and the place tried is inside.
use Rattle.lock.proofs.Library.{◌<◌, ◌≡◌, length}
use Rattle.explore_pair.proofs.PairStates.find.Given as goal

abbrev pub invariant-loop : goal.invariant-loop
invariant-loop l =
    (l.self.first ≡ l.initial.self.first) × (l.self.second ≡ l.initial.self.second)
    × (l.self.count ≡ l.initial.self.count) × (l.self.index.ghost_name ≡ l.initial.self.index.ghost_name)
    × (length l.self.index.now ≡ length l.initial.self.index.now) × (l.slot < length l.initial.self.index.now)
