-- The examples hold of the definitions: each by computing.
use Rattle.lock.{proofs.Library.refl, specs.{Machine.runs, Sheet.lines}}
use Rattle.ticket_model.specs.{Sheet.sheet, Examples.{examples, AllSheeted}}

pub all-sheeted : AllSheeted examples
unfolding AllSheeted examples sheet runs lines
all-sheeted = refl
