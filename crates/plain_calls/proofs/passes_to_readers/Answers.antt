-- The root's word, the queue without its readers, and these awake, one after the other.
use Rattle.lock.proofs.Library.{some}
use Rattle.laws.proofs.Lock.{without_readers, readers, State, with_queue}
use Rattle.rows.proofs.Rows.{onward}
use Rattle.plain_calls.specs.View.{passed}
use Rattle.plain_calls.proofs.passes_to_readers.Goals as goal

pub returns : goal.returns
returns c =
    onward (λ (s : State). passed s c.args.t (some (readers c.args.b)))
    (onward (λ (s : State). with_queue s (without_readers s.queue))
    (rw (c.held_word-v.ensures, c.group_size.ensures.0) at c.write_word.ensures) c.write_readers.ensures)
    c.hands_over.ensures
