-- The sheet of a record: "the bench's of the state before that row; after 11 and 12 its second line is `entry k w v`,
-- what the bench gives (`-` for no value)".
use Rattle.std.specs.Prelude.{ℕ, List, [], ◌++◌, eqb, ltb}
use Rattle.std.proofs.Math.Option.{Option, none, some}
use Rattle.std.specs.Prelude.{if◌then◌else◌}
use Rattle.lock.specs.declared.Sizes.{Sizes}
use Rattle.lock.specs.File.{sizes_of}
use Rattle.lock.specs.Text.{text, decimal}
use Rattle.lock.specs.Sheet.{answer_line}
use Rattle.pair.specs.Pair.{Pair}
use Rattle.pair.specs.Sheet.{pair_lines}
use Rattle.record_model.specs.Record.{Told, NONE, Verdict, verdict}

abbrev pub value_field : ℕ → List ℕ
value_field v = if eqb v NONE then text " -\n" else text " " ++ decimal v ++ text "\n"

unfoldable pub entry_line : ℕ → ℕ → ℕ → List ℕ
entry_line k w v = (text "entry " ++ decimal k) ++ (text " " ++ decimal w) ++ value_field v

abbrev pub entry_line_if : Told → List ℕ
entry_line_if t = if ltb 10 t.answer then entry_line t.kind t.word t.value else []

-- "for 1 to 3 only the first line"
abbrev pub lines_below : Sizes → Told → Option Pair → List ℕ
lines_below z t none = []
lines_below z t (some s) = entry_line_if t ++ pair_lines z s

unfoldable pub verdict_sheet : Sizes → Verdict → List ℕ
verdict_sheet z v = answer_line v.told.answer v.told.held ++ lines_below z v.told v.state

unfoldable pub record_sheet : List ℕ → List ℕ
unfolding verdict_sheet verdict
record_sheet b = verdict_sheet (sizes_of b) (verdict b)
