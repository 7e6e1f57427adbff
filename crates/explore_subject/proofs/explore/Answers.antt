-- The sizes are small, and one lock is such as a search asks (proofs/Search `lawful-one`).
use Rattle.explore_subject.proofs.Search.{lawful-one}
use Rattle.explore_subject.proofs.explore.Goals as goal

pub search_all-requires : goal.search_all-requires
search_all-requires c =
    let small = c.are_small.ensures c.if-not-are_small.false in (small, lawful-one _ small)
