-- The tail of the file by what `run_file` ensures of answer and rows taken (proofs/Outcome `with_tail`).
use Rattle.credit.proofs.Outcome.{with_tail}
use Rattle.credit.proofs.run.Goals as goal

pub returns : goal.returns
returns c =
    let a = c.args in
    rw c.answer_number.ensures
    (with_tail a.file.now a.till.now
    a.journal.now _ _ _ _ _ _ _ c.run_file-ran.ensures c.rows_left.ensures)
