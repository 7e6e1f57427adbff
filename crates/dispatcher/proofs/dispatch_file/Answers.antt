-- What `give_file` ensures, with what is promised of going round.
use Rattle.dispatch_model.proofs.Promises.{promises}
use Rattle.dispatcher.proofs.Answering.{promised}
use Rattle.dispatcher.proofs.dispatch_file.Goals as goal

pub give_file-requires : goal.give_file-requires
give_file-requires c =
    λ T l. l

pub returns : goal.returns
returns c =
    promised c.give_file.ensures (promises _ _ _)
