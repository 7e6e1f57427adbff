-- Every sheet fits, by the bound of the crate `report`.
use Rattle.lock.proofs.Library.{◌≤◌, arith, length}
use Rattle.report.proofs.Bound.{sheet-fits}
use Rattle.bench.specs.Sheeted.{sheet_left}
use Rattle.bench.proofs.sheet_of_run.Goals as goal

pub put_sheet-requires : goal.put_sheet-requires
put_sheet-requires g c =
    let fits : length (sheet_left (g.O.Outcome.numbers c.args.ran) c.args.locks.now) ≤ 6476 = sheet-fits _ _ _ in
    record { fits = omega (arith, c.requires, fits) }

pub returns : goal.returns
returns g c =
    let fits : length (sheet_left (g.O.Outcome.numbers c.args.ran) c.args.locks.now) ≤ 6476 = sheet-fits _ _ _ in (
      c.put_sheet.ensures,
      omega (arith, c.put_sheet.ensures.wrote.place, fits),
    )
