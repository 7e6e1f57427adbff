-- A read of the root, which grants or denies.
use Rattle.lock.proofs.Library.{sym, ◌∙◌}
use Rattle.lock.specs.Call.{op}
use Rattle.rows.proofs.Rows.{comes, asks}
use Rattle.convert.proofs.upgrade_look.Goals as goal

pub returns-then-is_sole : goal.returns-then-is_sole
returns-then-is_sole c =
    unfold op in comes (asks _ _ _ _ _) c.after_upgrade_look.ensures
    (rw (sym c.is_sole.ensures ∙ c.if-is_sole.true) c.did.ensures)

pub returns-else-is_sole : goal.returns-else-is_sole
returns-else-is_sole c =
    unfold op in comes (asks _ _ _ _ _) c.after_upgrade_look.ensures
    (rw (sym c.is_sole.ensures ∙ c.if-is_sole.false) c.did-else-is_sole.ensures)
