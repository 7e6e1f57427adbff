-- `-`, or the number.
use Rattle.lock.specs.Text.{text}
use Rattle.record_report.proofs.Sheet.{value_none, value-some}
use Rattle.text.proofs.Pages.{fits-as, adds-as}
use Rattle.record_report.proofs.put_value.Goals as goal

pub put_text-requires : goal.put_text-requires
unfolding text
put_text-requires c = fits-as (value_none _ c.if-v-eq4294967295.true) c.requires

pub put_last-requires : goal.put_last-requires
unfolding text
put_last-requires c = fits-as (value-some _ c.if-v-eq4294967295.false) c.requires

pub returns-else-v-eq4294967295 : goal.returns-else-v-eq4294967295
unfolding text
returns-else-v-eq4294967295 c = adds-as (value-some _ c.if-v-eq4294967295.false) c.put_last.ensures

pub returns-then-v-eq4294967295 : goal.returns-then-v-eq4294967295
unfolding text
returns-then-v-eq4294967295 c = adds-as (value_none _ c.if-v-eq4294967295.true) c.put_text.ensures
