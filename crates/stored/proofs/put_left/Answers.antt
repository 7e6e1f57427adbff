-- The line of the rows that `not_run` gave.
use Rattle.lock.specs.Text.{text}
use Rattle.stored.proofs.put_left.Goals as goal

pub put_line-requires : goal.put_line-requires
put_line-requires c =
    unfold text in rw c.not_run-left.ensures c.requires

pub returns : goal.returns
returns c =
    unfold text in rw c.not_run-left.ensures at c.put_line.ensures
