-- At most 4,096 steps are given, so that the line of the schedule's bytes fits its buffer.
use Rattle.lock.proofs.Library.{ℕ, ◌+◌, ◌*◌, ◌-◌, refl, arith, length-replicate}
use Rattle.text.proofs.Pages.{fits-front}
use Rattle.hex_text.proofs.Lines.{short-line, short-part}
use Rattle.dispatch_runs.proofs.main.Goals as goal

pub put_line-requires : goal.put_line-requires
put_line-requires c =
    let zero : ℕ = 0 in
    fits-front c.new-page.ensures.bytes c.new-page.ensures.front (short-line _ _ _ (length-replicate 32768 zero) refl
    (short-part (5 + 2 * c.dispatch_file-ran.result.taken - 0) _ (omega (arith, c.dispatch_file-ran.ensures.few))))
