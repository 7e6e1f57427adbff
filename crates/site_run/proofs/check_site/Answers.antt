-- A file of the right shape has as many orders as threads.
use Rattle.lock.proofs.Library.{sym}
use Rattle.site_run.proofs.Start.{calls-same}
use Rattle.site_run.proofs.check_site.Goals as goal

pub check_rows-requires : goal.check_rows-requires
check_rows-requires c =
    rw (c.calls_of.ensures.0, c.calls_of.ensures.1)
    (calls-same c.args.site.now c.args.turns (sym c.in_ok-check_shape.ensures))
