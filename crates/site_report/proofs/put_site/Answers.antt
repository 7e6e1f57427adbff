-- Costs, waits, threads.
use Rattle.lock.proofs.Library.{refl}
use Rattle.text.proofs.Pages.{adds-three, fits-one, fits-two, fits-three}
use Rattle.site_model.specs.Sheet.{site_lines}
use Rattle.site_report.proofs.put_site.Goals as goal

pub put_costs-requires : goal.put_costs-requires
unfolding site_lines
put_costs-requires c = (c.requires.1, fits-one _ _ refl c.requires.2)

pub put_waits-requires : goal.put_waits-requires
unfolding site_lines
put_waits-requires c = (c.requires.1, fits-two c.put_costs.ensures _ refl c.requires.2)

pub put_threads-requires : goal.put_threads-requires
unfolding site_lines
put_threads-requires c =
    (c.requires.0, c.requires.1, fits-three c.put_costs.ensures c.put_waits.ensures refl c.requires.2)

pub returns : goal.returns
unfolding site_lines
returns c =
    adds-three c.put_costs.ensures c.put_waits.ensures refl c.put_threads.ensures
