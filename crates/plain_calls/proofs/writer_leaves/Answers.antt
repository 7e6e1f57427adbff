-- By the three ways of `writer_leaves`.
use Rattle.lock.proofs.Library.{refl}
use Rattle.laws.proofs.Lock.{Idle, State, goes}
use Rattle.rows.proofs.Rows.{onward}
use Rattle.plain_calls.proofs.Calls.{stands, leaves-readers, leaves-open, leaves-writer}
use Rattle.plain_calls.proofs.writer_leaves.Goals as goal

pub returns-then-b-ne0 : goal.returns-then-b-ne0
returns-then-b-ne0 c =
    stands c.passes_to_readers.ensures
    (leaves-readers c.args.l.now _ c.requires.stands.lock c.args.t _ refl c.if-b-ne0.true)

pub returns-then-l-eq0 : goal.returns-then-l-eq0
returns-then-l-eq0 c =
    let a = c.args in
    stands (onward (λ (s : State). goes s a.t Idle) c.write_word.ensures c.goes_to.ensures)
    (leaves-open a.l.now _ c.requires.stands.lock a.t c.if-b-ne0.false c.if-l-eq0.true)

pub returns : goal.returns
returns c =
    stands c.passes_to_writer.ensures
    (leaves-writer c.args.l.now _ c.requires.stands.lock c.args.t c.if-b-ne0.false c.requires.stands.shaped
    c.if-l-eq0.false)
