-- By the two ways of `write_locks`.
use Rattle.laws.proofs.Lock.{Asleep, Writing, join_writer, State, goes, with_queue}
use Rattle.rows.proofs.Rows.{onward}
use Rattle.plain_calls.proofs.Calls.{stands, writes-free, writes-waits, same-writers}
use Rattle.plain_calls.proofs.write_locks.Goals as goal

pub returns-then-v-eq-OPEN : goal.returns-then-v-eq-OPEN
returns-then-v-eq-OPEN c =
    let a = c.args in
    let pre = c.requires.0 in
    stands (onward (λ (s : State). goes s a.t Writing) c.write_word.ensures
    c.goes_to.ensures)
    (writes-free a.l.now _ pre.stands.lock a.t c.if-v-eq-OPEN.true)

pub writer_joins-requires : goal.writer_joins-requires
writer_joins-requires c =
    let w = c.write_word-2.ensures in
    (w.shaped, c.requires.0.there, same-writers _ _ _ w.state c.requires.0.stands.shaped w.shaped c.requires.1)

pub returns : goal.returns
returns c =
    let a = c.args in
    stands
    (onward (λ (s : State). goes s a.t Asleep)
    (onward (λ (s : State). with_queue s (join_writer a.t s.queue)) c.write_word-2.ensures
    c.writer_joins.ensures) c.goes_to-2.ensures)
    (writes-waits a.l.now _ c.requires.0.stands.lock a.t _
    c.if-v-eq-OPEN.false c.shut_word.ensures)
