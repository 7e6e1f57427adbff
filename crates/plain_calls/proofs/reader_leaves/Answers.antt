-- By the two ways of `reader_leaves`.
use Rattle.laws.proofs.Lock.{Idle, State, goes}
use Rattle.rows.proofs.Rows.{onward}
use Rattle.plain_calls.proofs.Calls.{stands, leaves_last, leaves-others}
use Rattle.plain_calls.specs.View.{passed_to_writer}
use Rattle.plain_calls.proofs.reader_leaves.Goals as goal

pub returns-then-v-eq-CLOSED : goal.returns-then-v-eq-CLOSED
returns-then-v-eq-CLOSED c =
    let a = c.args in
    stands (onward (λ (s : State). passed_to_writer s a.t) c.write_word.ensures c.passes_to_writer.ensures)
    (leaves_last a.l.now _ c.requires.stands.lock a.t _ c.lowered_direct-v.ensures
    c.if-v-eq-CLOSED.true)

pub returns : goal.returns
returns c =
    let a = c.args in
    stands (onward (λ (s : State). goes s a.t Idle) c.write_word.ensures c.goes_to.ensures)
    (leaves-others a.l.now _ c.requires.stands.lock a.t _ c.lowered_direct-v.ensures
    c.if-v-eq-CLOSED.false)
