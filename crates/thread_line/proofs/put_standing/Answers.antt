-- By the program counter: one of the five standings. An arm has its counter for its name: idle 0, writing 1, reading 2,
-- asleep 49.
use Rattle.lock.proofs.Library.{refl, arith}
use Rattle.lock.specs.Text.{text}
use Rattle.lock.specs.Sheet.{standing_fields}
use Rattle.text.proofs.Pages.{fits-case, adds-case}
use Rattle.thread_line.proofs.Cells.{shown-idle, shown-writing, shown-reading, shown-calling, shown-asleep}
use Rattle.thread_line.proofs.put_standing.Goals as goal

pub put_text-requires : goal.put_text-requires
unfolding text standing_fields
put_text-requires c = fits-case standing_fields (shown-idle _ _ c.in-0.is) refl c.requires

pub returns-in-0 : goal.returns-in-0
unfolding text standing_fields
returns-in-0 c = adds-case standing_fields (shown-idle _ _ c.in-0.is) refl c.put_text.ensures

pub put_text-requires-in-1 : goal.put_text-requires-in-1
unfolding text standing_fields
put_text-requires-in-1 c = fits-case standing_fields (shown-writing _ _ c.in-1.is) refl c.requires

pub returns-in-1 : goal.returns-in-1
unfolding text standing_fields
returns-in-1 c = adds-case standing_fields (shown-writing _ _ c.in-1.is) refl c.put_text-in-1.ensures

pub put_field-requires : goal.put_field-requires
unfolding text standing_fields
put_field-requires c = fits-case standing_fields (shown-reading _ _ c.in-2.is) refl c.requires

pub returns-in-2 : goal.returns-in-2
unfolding text standing_fields
returns-in-2 c = adds-case standing_fields (shown-reading _ _ c.in-2.is) refl c.put_field.ensures

pub put_text-requires-in-49 : goal.put_text-requires-in-49
unfolding text standing_fields
put_text-requires-in-49 c = fits-case standing_fields (shown-asleep _ _ c.in-49.is) refl c.requires

pub returns-in-49 : goal.returns-in-49
unfolding text standing_fields
returns-in-49 c = adds-case standing_fields (shown-asleep _ _ c.in-49.is) refl c.put_text-in-49.ensures

pub put_text-requires-in_default : goal.put_text-requires-in_default
unfolding text standing_fields
put_text-requires-in_default c = fits-case standing_fields (shown-calling c.args.pc c.args.route (λ e. omega arith) (λ e. omega arith) (λ e. omega arith) (λ e. omega arith)) refl c.requires

pub returns-in_default : goal.returns-in_default
unfolding text standing_fields
returns-in_default c = adds-case standing_fields (shown-calling c.args.pc c.args.route (λ e. omega arith) (λ e. omega arith) (λ e. omega arith) (λ e. omega arith)) refl c.put_text-in_default.ensures
