-- The threads tried so far (proofs/Growing `Threads`).
use Rattle.lock.proofs.Library.{◌≡◌, true}
use Rattle.explore_subject.specs.Search.{Tries}
use Rattle.explore_subject.proofs.Growing.{Threads}
use Rattle.explore_subject.proofs.try_threads.Given as goal

abbrev pub invariant-loop-t : goal.invariant-loop-t
invariant-loop-t g l =
    let s = g.S.Subject in
    Tries (s.subject l.setting) (Threads (s.order_at l.setting) (s.orders l.setting) l.t) l.i (s.seen l.initial.states)
    (s.count l.initial.states) (s.seen l.states) (s.count l.states) l.place true
    × (s.names l.states ≡ s.names l.initial.states)
