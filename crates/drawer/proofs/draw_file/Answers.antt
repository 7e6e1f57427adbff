-- What `give_file` ensures, with what is promised at these turns.
use Prim.{tt}
use Rattle.dispatch_model.proofs.Promises.{draw-promises}
use Rattle.dispatcher.proofs.Answering.{promised}
use Rattle.drawer.proofs.draw_file.Goals as goal

pub give_file-requires : goal.give_file-requires
give_file-requires c =
    λ T l. tt

pub returns : goal.returns
returns c =
    promised c.give_file.ensures (draw-promises _ _ _ _)
