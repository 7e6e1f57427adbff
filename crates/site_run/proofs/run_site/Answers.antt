-- Refused, or run: each is one law of proofs/Start.
use Rattle.std.proofs.lemmas.Result.{err_from_is_err_and}
use Rattle.lock.proofs.Library.{sym}
use Rattle.site_run.proofs.Start.{refused-site, ran-site}
use Rattle.site_run.proofs.run_site.Goals as goal

pub returns-in_err-check_site : goal.returns-in_err-check_site
returns-in_err-check_site c =
    let p = err_from_is_err_and c.from_residual.result c.from_residual.ensures.1 in
    rw (p.1, p.2) (refused-site c.args.site.now c.args.turns.now c.in_err-check_site.ensures)

pub returns : goal.returns
returns c = ran-site c.args.site.now c.args.turns.now (sym c.in_ok-check_site.ensures) c.run_checked.ensures
