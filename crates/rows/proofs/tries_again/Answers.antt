-- The thread goes on, and then counts the failure.
use Rattle.rows.proofs.Rows.{may-count, counted}
use Rattle.rows.proofs.tries_again.Goals as goal

pub failed-requires : goal.failed-requires
failed-requires c =
    may-count c.requires.1 _ c.goes_with.ensures

pub returns : goal.returns
returns c =
    record {
      left = counted _ _ _ c.requires.1.there (rw c.goes_with.ensures.state at c.failed.ensures.left);
      is = c.failed.ensures.is;
    }
