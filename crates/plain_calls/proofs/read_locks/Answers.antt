-- By the two ways of `read_locks`.
use Rattle.lock.proofs.Library.{ℕ, sym, ◌∙◌}
use Rattle.laws.proofs.Lock.{Reading, Asleep, State, goes}
use Rattle.rows.proofs.Rows.{onward}
use Rattle.plain_calls.proofs.Calls.{stands, reads-shut, reads-open}
use Rattle.plain_calls.proofs.read_locks.Goals as goal

pub returns-then-is_closed : goal.returns-then-is_closed
returns-then-is_closed c =
    let t : ℕ = c.args.t in
    stands (onward (λ (s : State). goes s t Asleep) c.reader_joins.ensures c.goes_to.ensures)
    (reads-shut c.args.l.now _ c.requires.stands.lock t (sym c.is_closed.ensures ∙ c.if-is_closed.true))

pub returns : goal.returns
returns c =
    let t : ℕ = c.args.t in
    stands (onward (λ (s : State). goes s t (Reading 0)) c.write_word.ensures c.goes_by.ensures)
    (reads-open c.args.l.now _ c.requires.stands.lock t c.requires.room.direct
    (sym c.is_closed.ensures ∙ c.if-is_closed.false))
