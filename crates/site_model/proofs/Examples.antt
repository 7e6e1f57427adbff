-- The runs of specs/Examples hold of the definitions: each by computing.
use Rattle.lock.proofs.Library.{refl}
use Rattle.lock.specs.Text.{digits}
use Rattle.laws.proofs.Lock.{lines}
use Rattle.site_model.specs.Site.{run}
use Rattle.site_model.specs.Sheet.{sheet}
use Rattle.site_model.specs.Examples.{examples, AllGive, inputs, AllRefused}

pub all_give : AllGive examples
unfolding AllGive examples sheet run lines digits
all_give = refl

pub all-refused : AllRefused inputs
unfolding AllRefused inputs
all-refused = refl
