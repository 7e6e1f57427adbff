-- What `give_sheet` ensures, with what is promised of going round.
use Rattle.dispatch_model.proofs.Promises.{promises}
use Rattle.dispatcher.proofs.Answering.{sheet-promised}
use Rattle.dispatcher.proofs.sheet_file.Goals as goal

pub give_sheet-requires : goal.give_sheet-requires
give_sheet-requires c =
    λ T l. l

pub returns-clause-sheeted : goal.returns-clause-sheeted
returns-clause-sheeted c =
    sheet-promised c.give_sheet.ensures.sheeted (promises _ _ _)
