-- What `give_sheet` ensures, with what is promised at these turns.
use Prim.{tt}
use Rattle.dispatch_model.proofs.Promises.{draw-promises}
use Rattle.dispatcher.proofs.Answering.{sheet-promised}
use Rattle.drawer.proofs.sheet_file.Goals as goal

pub give_sheet-requires : goal.give_sheet-requires
give_sheet-requires c =
    λ T l. tt

pub returns-clause-sheeted : goal.returns-clause-sheeted
returns-clause-sheeted c =
    sheet-promised c.give_sheet.ensures.sheeted (draw-promises _ _ _ _)
