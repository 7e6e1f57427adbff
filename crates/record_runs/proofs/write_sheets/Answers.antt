-- Both buffers have room for every sheet, so what is taken of them is the sheets.
use Rattle.lock.proofs.Library.{◌∙◌, ℕ, arith, length-replicate}
use Rattle.lock.specs.Text.{text}
use Rattle.record_runs.proofs.Fronts.{given_length, taken, after-ok, writes-sheets}
use Rattle.record_runs.proofs.write_sheets.Goals as goal

pub returns : goal.returns
unfolding text
returns g c =
    let zero : ℕ = 0 in
    let one = c.unwrap_or-len.ensures ∙ given_length c.sheet_record.result in
    let two = c.unwrap_or-two.ensures ∙ given_length c.sheet_in_two.result in
    after-ok c.write_all-2.result c.write_all-2.ensures.bytes (λ last.
    writes-sheets c.args.name.now c.args.file.now c.sheet_in_two.ensures.front _ _ _ _ _ _
    c.in_ok-write_run.ensures c.in_ok-write_all.ensures.bytes last
    (taken _ _ _ _ _ c.sheet_record.ensures.sheets.asked (length-replicate 8192 zero) (omega (arith, one)))
    (taken _ _ _ _ _ c.sheet_in_two.ensures.sheets.asked (length-replicate 8192 zero) (omega (arith, two)))
    c.sheet_in_two.ensures.whole)
