-- By what became of the row: out of order, refused, without room, or found or added (proofs/Pairs `both-taken`).
use Rattle.lock.proofs.Library.{◌+◌, ◌/◌, ◌%◌, ◌∙◌, refl, sym, ap, arith}
use Rattle.pair.specs.Pair.{first, second}
use Rattle.explore_store.specs.{Store.head_of, declared.Record.Record}
use Rattle.explore_subject.proofs.Growing.{tries-failed}
use Rattle.explore_pair.specs.{Both.{locks_of, both}, declared.Records.Records}
use Rattle.explore_pair.proofs.Pairs.{place_here, both-refused, both-taken}
use Rattle.explore_pair.proofs.PairStatesSubject.consider.Goals as goal

pub row-requires : goal.row-requires
row-requires c = place_here c.args.z.ordered c.requires.1

pub returns-then-is_err-clause-tries : goal.returns-then-is_err-clause-tries
returns-then-is_err-clause-tries c =
    let a = c.args in
    both-refused a.z.ordered c.requires.0 c.requires.1 a.t a.order (sym c.is_barred.ensures ∙ c.if-is_barred.false)
    c.row.ensures (sym c.is_err.ensures.value ∙ c.if-is_err.true)

pub tidy-requires : goal.tidy-requires
tidy-requires c =
    let p = c.row.ensures.keeps _ c.requires.1.after in
    (p.long, λ x. (p.reached x).shaped, omega (arith, c.requires.3.threads))

pub record_of-requires : goal.record_of-requires
record_of-requires c = (
  c.requires.1.low,
  rw c.records_at-old.ensures (omega (arith, c.requires.1.shallow)),
  omega (arith, c.requires.2, c.requires.3.threads),
  (c.tidy.ensures.each first).shaped.long,
)

pub record_of-requires-2 : goal.record_of-requires-2
record_of-requires-2 c = (omega arith, omega arith, omega arith, (c.tidy.ensures.each second).shaped.long)

pub fit_both-fit-requires : goal.fit_both-fit-requires
fit_both-fit-requires c = (c.tidy.ensures.long, λ x. (c.tidy.ensures.each x).shaped.long)

pub returns-then-not-fit-clause-tries : goal.returns-then-not-fit-clause-tries
returns-then-not-fit-clause-tries c =
    tries-failed (both c.args.z.ordered c.args.z.sizes) c.requires.0 c.requires.1 refl

pub returns-clause-tries : goal.returns-clause-tries
returns-clause-tries c =
    let a = c.args in
    both-taken a.z.ordered c.requires.0 c.requires.1 a.t a.order (sym c.is_barred.ensures ∙ c.if-is_barred.false)
    c.row.ensures c.record_of.result c.record_of-2.result (sym c.is_err.ensures.value ∙ c.if-is_err.false) c.tidy.ensures
    (c.fit_both-fit.ensures c.if-not-fit.false)
    (ap (λ (y : Record). y.head) c.record_of.ensures
    ∙ ap (λ (y : Records). head_of a.i (y.one.head / 65536 % 65536 + 1) a.t a.order) c.records_at-old.ensures)
    (omega (arith, c.requires.2, c.requires.3.threads), omega arith) c.add.ensures.adds
    (c.unpack_both.ensures ∙ ap (λ (y : Records). locks_of y.one y.two) c.records_at-old.ensures)
