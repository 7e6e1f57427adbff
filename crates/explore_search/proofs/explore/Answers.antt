-- The same of the lock's own definitions.
use Rattle.explore_search.proofs.Search.{explores}
use Rattle.explore_search.proofs.explore.Goals as goal

pub returns : goal.returns
returns c = explores _ c.explore.ensures
