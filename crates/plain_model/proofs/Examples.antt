-- The small runs give what they say.
use Rattle.lock.proofs.Library.{◌≡◌, refl}
use Rattle.laws.proofs.Lock.{standing, size, runs, lines}
use Rattle.plain_model.specs.Examples.{examples, AllEnd, file, file_sheet}
use Rattle.plain_model.specs.{Plain.plain_step, Plain.plain_run, Sheet.plain_sheet}

pub small : AllEnd examples
unfolding AllEnd examples plain_run runs plain_step standing size lib.Count.ones
small = refl

pub small-sheet : plain_sheet file ≡ file_sheet
unfolding plain_sheet plain_run runs plain_step standing file file_sheet lines size lib.Count.ones
small-sheet = refl
