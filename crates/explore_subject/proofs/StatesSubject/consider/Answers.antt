-- By what became of the row: refused, without room, or found or added (proofs/Search `one-taken`).
use Rattle.lock.proofs.Library.{◌+◌, ◌/◌, ◌%◌, ◌∙◌, ap, sym, arith}
use Rattle.explore_store.specs.Store.{head_of, lock_of}
use Rattle.explore_store.specs.declared.Record.{Record}
use Rattle.explore_subject.proofs.Search.{ready-here, one-taken}
use Rattle.explore_subject.proofs.StatesSubject.consider.Goals as goal

pub make_row-requires : goal.make_row-requires
make_row-requires c = ready-here c.requires.1 c.requires.2

pub returns-clause-tries : goal.returns-clause-tries
returns-clause-tries c =
    one-taken c.requires.0 c.requires.1 c.args.t c.args.order c.make_row.ensures c.record_of-r.result
    (sym c.is_err.ensures.value ∙ c.if-is_err.false) c.normal.ensures (c.fits-fit.ensures c.if-not-fit.false)
    (ap (λ (y : Record). y.head) c.record_of-r.ensures
    ∙ ap (λ (y : Record). head_of c.args.i (y.head / 65536 % 65536 + 1) c.args.t c.args.order) c.record_at-old.ensures)
    (omega (arith, c.requires.2, c.requires.3.threads), omega arith) c.add.ensures.adds
    (c.unpack.ensures ∙ ap lock_of c.record_at-old.ensures)
