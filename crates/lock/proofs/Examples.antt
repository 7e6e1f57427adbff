-- The examples of documents 01 and 02 hold of the definitions: each by computing.
use Rattle.lock.proofs.Library.{◌≡◌, refl, [], ◌∷◌, ◌++◌, replicate}
use Rattle.lock.specs.{Machine.runs, Journal.journal_bytes, State.fresh, Run.run, Sheet.{answer_line, state_lines}}
use Rattle.lock.specs.{Sheet.lines, Examples.{sizes, p5, examples, hand_overs, exclusions, upgrade_runs}}
use Rattle.lock.specs.Examples.{downgrade_runs, denied_kinds, AllEnd, worked_lines, worked_journal, every_kind}
use Rattle.lock.specs.Examples.{every_entries, every_lines}

pub all_end : AllEnd examples
unfolding AllEnd examples run runs
all_end = refl

pub hand-overs-end : AllEnd hand_overs
unfolding AllEnd hand_overs run runs
hand-overs-end = refl

pub exclusions-end : AllEnd exclusions
unfolding AllEnd exclusions run runs
exclusions-end = refl

pub upgrades-end : AllEnd upgrade_runs
unfolding AllEnd upgrade_runs run runs
upgrades-end = refl

pub downgrades-end : AllEnd downgrade_runs
unfolding AllEnd downgrade_runs run runs
downgrades-end = refl

pub denied-kinds : denied_kinds ≡ (0 ∷ 1 ∷ 2 ∷ 0 ∷ 1 ∷ 2 ∷ 0 ∷ 10 ∷ []) ∷ (0 ∷ 1 ∷ 2 ∷ 0 ∷ 1 ∷ 0 ∷ 1 ∷ 2 ∷ 3 ∷ []) ∷ []
unfolding denied_kinds run runs
denied-kinds = refl

-- P5's lines and journal, byte for byte; the journal's buffer is full of another byte before
pub worked-lines : answer_line 0 6 ++ state_lines (sizes 2 1 2) (run (sizes 2 1 2) fresh p5).state ≡ worked_lines
unfolding answer_line state_lines worked_lines lines run runs
worked-lines = refl

pub worked-journal : journal_bytes 6 (run (sizes 2 1 2) fresh p5).entries (replicate 12 0xEE) ≡ worked_journal
unfolding worked_journal run runs
worked-journal = refl

-- every kind of entry but a booking's, and every field of the sheet
pub every-entry : (run (sizes 2 1 4) fresh every_kind).entries ≡ every_entries
unfolding every_entries run runs
every-entry = refl

pub every-lines : state_lines (sizes 2 1 4) (run (sizes 2 1 4) fresh every_kind).state ≡ every_lines
unfolding state_lines every_lines lines run runs
every-lines = refl
