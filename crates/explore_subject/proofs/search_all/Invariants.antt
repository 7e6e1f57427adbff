-- The records expanded so far (proofs/Growing `Swept`); the measure is what is left of the store.
use Rattle.lock.proofs.Library.{◌-◌, ◌≡◌, length}
use Rattle.explore_subject.specs.Search.{OfAny}
use Rattle.explore_subject.proofs.Growing.{Swept}
use Rattle.explore_subject.proofs.search_all.Given as goal

abbrev pub invariant-loop-i : goal.invariant-loop-i
invariant-loop-i g l =
    let s = g.S.Subject in
    let k = s.subject l.setting in
    Swept k (OfAny (s.order_at l.setting) (s.orders l.setting) (s.sizes l.setting).threads) (s.seen l.states)
    (s.count l.states) l.i
    × (length (k.heads (s.seen l.states)) ≡ length (k.heads (s.seen l.initial.states)))
    × (s.names l.states ≡ s.names l.initial.states)

abbrev pub decreases-loop-i : goal.decreases-loop-i
decreases-loop-i g l =
    let s = g.S.Subject in length ((s.subject l.setting).heads (s.seen l.initial.states)) - l.i
