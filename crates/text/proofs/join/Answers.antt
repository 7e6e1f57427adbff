-- No room, or one text after the other (proofs/Joining).
use Rattle.lock.proofs.Library.{arith, rules}
use Rattle.text.proofs.{Pages.{on-front, let-go}, Joining.placed}
use Rattle.text.proofs.join.Goals as goal

pub returns : goal.returns
returns c =
    placed _ _ _ (omega arith) (on-front c.new-page.ensures.bytes c.new-page.ensures.front c.put_text.ensures)
    c.put.ensures.wrote (let-go c.put_text-2.ensures (search rules))
