-- As many items as the second byte says.
use Rattle.lock.proofs.Library.{sym, ◌∙◌}
use Rattle.till.proofs.Good.{items-are}
use Rattle.till.proofs.items_of.Goals as goal

pub returns : goal.returns
returns c =
    (c.byte_at.ensures.0 ∙ sym (items-are c.args.till.now), c.byte_at.ensures.1)
