-- The part of the array that is lent is a journal that is ee all over (proofs/Parts `blank_part`).
use Rattle.stored.proofs.Parts.{fits-blank, adds-blank}
use Rattle.stored.proofs.put_blank_run.Goals as goal

pub put_run-requires : goal.put_run-requires
put_run-requires c =
    let e = c.requires in
    fits-blank _ _ _ _ _ 8192 _ e.2 e.0 e.1

pub returns : goal.returns
returns c =
    let e = c.requires in
    adds-blank _ _ _ _ _ 8192 _ e.2 c.put_run.ensures
