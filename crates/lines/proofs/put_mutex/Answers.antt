-- By whether someone has it: `free`, or the number.
use Rattle.lock.proofs.Library.{refl}
use Rattle.lock.specs.Text.{text, decimal}
use Rattle.lock.specs.Sheet.{mutex_field}
use Rattle.text.proofs.Pages.{fits-case, adds-case}
use Rattle.lines.proofs.Shape.{free-is, held-is, holder-is}
use Rattle.lines.proofs.put_mutex.Goals as goal

pub put_text-requires : goal.put_text-requires
put_text-requires c =
    unfold text decimal in fits-case mutex_field (free-is _ c.if-mutex-eq-FREE.true) refl c.requires

pub put_number-requires : goal.put_number-requires
put_number-requires c =
    fits-case mutex_field (held-is _ c.if-mutex-eq-FREE.false) (holder-is _) c.requires

pub returns-then-mutex-eq-FREE : goal.returns-then-mutex-eq-FREE
returns-then-mutex-eq-FREE c =
    unfold text decimal in adds-case mutex_field (free-is _ c.if-mutex-eq-FREE.true) refl c.put_text.ensures

pub returns-else-mutex-eq-FREE : goal.returns-else-mutex-eq-FREE
returns-else-mutex-eq-FREE c =
    adds-case mutex_field (held-is _ c.if-mutex-eq-FREE.false) (holder-is _) c.put_number.ensures
