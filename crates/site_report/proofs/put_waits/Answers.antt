-- Two lines; the counters of who waits are the definition's counts.
use Rattle.lock.specs.Text.{text}
use Rattle.text.proofs.Pages.{fits-head, fits-tail, adds-both}
use Rattle.site_report.proofs.Sheet.{waits-are}
use Rattle.site_report.proofs.put_waits.Goals as goal

pub put_line-requires : goal.put_line-requires
unfolding text
put_line-requires c =
    let p = c.requires in
    fits-head _ (waits-are _ _ p.0.waiting.writing p.0.waiting.reading) p.1

pub put_line-requires-2 : goal.put_line-requires-2
unfolding text
put_line-requires-2 c =
    let p = c.requires in
    fits-tail (waits-are _ _ p.0.waiting.writing p.0.waiting.reading) c.put_line.ensures p.1

pub returns : goal.returns
unfolding text
returns c =
    let p = c.requires in
    adds-both (waits-are _ _ p.0.waiting.writing p.0.waiting.reading) c.put_line.ensures c.put_line-2.ensures
