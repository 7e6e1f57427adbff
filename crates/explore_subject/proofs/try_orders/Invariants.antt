-- The orders tried so far (proofs/Growing `Upto`).
use Rattle.lock.proofs.Library.{◌≡◌, true}
use Rattle.explore_subject.specs.Search.{Tries}
use Rattle.explore_subject.proofs.Growing.{Upto, row_of}
use Rattle.explore_subject.proofs.try_orders.Given as goal

abbrev pub invariant-loop-k : goal.invariant-loop-k
invariant-loop-k g l =
    let s = g.S.Subject in
    Tries (s.subject l.setting) (Upto (row_of (s.order_at l.setting) l.t) l.k) l.i (s.seen l.initial.states)
    (s.count l.initial.states) (s.seen l.states) (s.count l.states) l.place true
    × (s.names l.states ≡ s.names l.initial.states)
