-- No such record, too many rows, no room, or the file (proofs/File).
use Rattle.lock.proofs.Library.{◌/◌, ◌%◌, ◌∙◌, ap, sym, ℕ}
use Rattle.explore_path.proofs.File.{written}
use Rattle.explore_path.proofs.schedule_of.Goals as goal

pub returns-clause-schedules : goal.returns-clause-schedules
returns-clause-schedules c =
    let a = c.args in
    written a.nodes a.fan a.threads a.st.now a.i _ _ (sym c.is_there.ensures ∙ c.if-not-is_there.false) _
    (ap (λ (x : ℕ). x / 65536 % 65536) c.head_at.ensures.0) c.if-s-gt4096.false c.if-out-s.false c.put_rows.ensures
