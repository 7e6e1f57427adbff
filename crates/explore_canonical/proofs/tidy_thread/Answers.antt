-- The thread's phase stays (proofs/Cells `tidied`).
use Rattle.explore_canonical.proofs.Cells.{tidied}
use Rattle.explore_canonical.proofs.tidy_thread.Goals as goal

pub returns : goal.returns
returns c =
    tidied c.requires.0 c.args.t c.requires.1 c.uses-u.ensures c.keep-node.ensures c.keep-route.ensures
    c.keep-below.ensures c.keep-seen.ensures
