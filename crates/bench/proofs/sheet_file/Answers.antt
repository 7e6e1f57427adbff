-- What `run_fresh` and `write_both` ensure, put together (proofs/Sheeted).
use Rattle.bench.proofs.Sheeted.{sheeted-is}
use Rattle.bench.proofs.sheet_file.Goals as goal

pub returns-clause-sheeted : goal.returns-clause-sheeted
returns-clause-sheeted c =
    sheeted-is c.run_fresh-ran.ensures c.write_both.ensures.asked
