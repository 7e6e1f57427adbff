-- What was found, and what was counted of it (proofs/Blocking `explores-locks`).
use Rattle.explore_pair.proofs.Pairs.{lawful-both}
use Rattle.explore_stuck.proofs.Blocking.{ready_of, explores-locks}
use Rattle.explore_stuck.proofs.search_stuck.Goals as goal

pub search_all-explored-requires : goal.search_all-explored-requires
search_all-explored-requires c = let z = c.args.z in (c.requires, lawful-both z.ordered z.sizes c.requires)

pub count_stuck-blocks-requires : goal.count_stuck-blocks-requires
count_stuck-blocks-requires c =
    let e = c.search_all-explored.ensures in (ready_of c.args.z.ordered e.explores.room e.sound, c.requires)

pub returns-clause-explores : goal.returns-clause-explores
returns-clause-explores c =
    explores-locks c.args.z.ordered c.args.z.sizes c.search_all-explored.ensures.explores
    c.count_stuck-blocks.ensures.decides
