-- The fresh lock, if it fits.
use Rattle.lock.proofs.Library.{List, ℕ, ap, subst, sym, arith}
use Rattle.explore_store.specs.declared.Record.{Record}
use Rattle.explore_subject.specs.Search.{one, Sound}
use Rattle.explore_subject.proofs.Search.{sound-start, added-first}
use Rattle.explore_subject.proofs.StatesSubject.start.Goals as goal

pub returns-then-fits-clause-sound : goal.returns-then-fits-clause-sound
returns-then-fits-clause-sound c =
    let a = added-first c.in_ok-add.ensures.adds in
    let x = c.record_of-r in (
      a.0,
      subst (λ (st : List ℕ). Sound (one c.args.z) st 1) (sym a.1)
          (sound-start c.args.self.now.records.now x.result c.requires c.fresh.ensures (omega (arith, c.if-self-lt8.false))
          (ap (λ (y : Record). y.head) x.ensures) (c.fits.ensures c.if-fits.true)),
    )
