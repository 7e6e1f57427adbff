-- The part's two ends are inside the file, so it is the definitions' tail (proofs/Tail).
use Rattle.lock.proofs.Library.{ℕ, ◌+◌, min, length, sym, ap, ◌∙◌}
use Rattle.lock.specs.File.{row_count}
use Rattle.bench.proofs.Tail.{part-is}
use Rattle.bench.proofs.rows_left.Goals as goal

pub returns : goal.returns
returns g c =
    let a = c.args in
    let file = a.file.now in
    let end = c.min-end in
    let start = c.min-start in
    rw (sym c.is_stateless.ensures ∙ c.if-is_stateless.false)
    (part-is file (row_count file) a.taken end.result start.result
    (end.ensures ∙ ap (λ (n : ℕ). min (5 + n) (length file))
    c.rows_of.ensures.0)
    (start.ensures ∙ ap (λ (n : ℕ). min (5 + n) end.result) c.min.ensures))
