-- Two fresh locks, if they fit.
use Rattle.lock.proofs.Library.{ℕ, List, ap, subst, sym, arith}
use Rattle.pair.specs.Pair.{second}
use Rattle.explore_store.specs.declared.Record.{Record}
use Rattle.explore_subject.specs.Search.{Sound}
use Rattle.explore_pair.specs.Both.{both}
use Rattle.explore_pair.proofs.Pairs.{sound-both, added-both}
use Rattle.explore_pair.proofs.PairStatesSubject.start.Goals as goal

pub record_of-requires-2 : goal.record_of-requires-2
record_of-requires-2 c =
    (omega arith, omega arith, omega arith, ((c.fresh_locks-ls.ensures.each second).reached _ c.requires).shaped.long)

pub fit_both-requires : goal.fit_both-requires
fit_both-requires c =
    (c.fresh_locks-ls.ensures.long, λ x. ((c.fresh_locks-ls.ensures.each x).reached _ c.requires).shaped.long)

pub returns-then-fit_both-clause-sound : goal.returns-then-fit_both-clause-sound
returns-then-fit_both-clause-sound c =
    let a = added-both c.in_ok-add.ensures.adds in
    let z = c.args.z in
    let s = c.args.self.now in (
      a.0,
      subst (λ (u : List ℕ × List ℕ). Sound (both z.ordered z.sizes) u 1) (sym a.1)
          (sound-both z.ordered s.first.now s.second.now c.record_of.result c.record_of-2.result
          c.requires c.fresh_locks-ls.ensures (omega (arith, c.if-self-lt8.false)) (omega (arith, c.if-self-lt8-2.false))
          (ap (λ (u : Record). u.head) c.record_of.ensures) (c.fit_both.ensures c.if-fit_both.true)),
    )
