-- The numbers before this one are written (`text` proofs/Lines).
use Rattle.text.proofs.Lines.{room-line, more}
use Rattle.site_model.specs.Sheet.{field}
use Rattle.site_report.proofs.Sheet.{counts-none}
use Rattle.site_report.proofs.put_counts.Goals as goal

pub loop-n-init : goal.loop-n-init
loop-n-init c = counts-none _ _ c.requires

pub put_count-requires : goal.put_count-requires
put_count-requires c = room-line field c.loop-n.invariant 0 c.loop-n-test.true

pub loop-n-preserved : goal.loop-n-preserved
loop-n-preserved c = more field c.loop-n.invariant 0 c.loop-n-test.true c.put_count.ensures
