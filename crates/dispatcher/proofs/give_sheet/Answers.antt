-- What `give_file` and `write_both` ensure, put together.
use Rattle.dispatcher.proofs.Answering.{sheeted}
use Rattle.dispatcher.specs.Choosing.{way_by}
use Rattle.dispatcher.proofs.give_sheet.Goals as goal

pub returns-clause-sheeted : goal.returns-clause-sheeted
returns-clause-sheeted g c =
    sheeted (way_by _ _) _ _ _ _ _ _ _ _ _
    c.give_file-ran.ensures
    c.write_both.ensures.asked
