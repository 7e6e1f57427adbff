-- Out of range, or all records.
use Rattle.explore_subject.specs.{Search.sizes_for}
use Rattle.explore_stuck.proofs.Blocking.{explores-no-locks}
use Rattle.explore_stuck.proofs.explore_both.Goals as goal

pub returns-then-not-are_small : goal.returns-then-not-are_small
returns-then-not-are_small c =
    let a = c.args in rw c.none.ensures (explores-no-locks a.ordered (sizes_for a.nodes a.fan a.threads))
