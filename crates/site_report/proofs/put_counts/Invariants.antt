-- The numbers before this one are written (`text` proofs/Lines).
use Rattle.lock.proofs.Library.{length}
use Rattle.text.proofs.Lines.{Sofar}
use Rattle.site_model.specs.Sheet.{field}
use Rattle.site_report.proofs.put_counts.Given as goal

abbrev pub invariant-loop-n : goal.invariant-loop-n
invariant-loop-n l =
    Sofar field l.initial.page (length l.ns) l.ns l.page l.n-index
