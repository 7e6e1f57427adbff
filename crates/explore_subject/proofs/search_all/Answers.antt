-- What is said of the records found, where not all could be expanded and where all were (proofs/Growing).
use Rattle.lock.proofs.Library.{ap, arith}
use Rattle.explore_subject.specs.Search.{figures}
use Rattle.explore_subject.proofs.Growing.{explores-part, explores-all}
use Rattle.explore_subject.proofs.search_all.Goals as goal

pub returns-then-is_err-2-clause-explores : goal.returns-then-is_err-2-clause-explores
returns-then-is_err-2-clause-explores g c =
    explores-part _ _ c.expand.ensures.expands.grows.sound (ap figures c.told.ensures)

pub returns-clause-explores : goal.returns-clause-explores
returns-clause-explores g c =
    let law = c.requires.1 in
    explores-all _ law.every _ law.forgets c.loop-i.invariant.0 (omega (arith, c.count.ensures, c.loop-i-test.false))
    (ap figures c.told-2.ensures)
