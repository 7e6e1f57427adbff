-- Texts of stored schedules (crates/runs/data), byte for byte, hold of the definitions: by computing.
use Rattle.lock.proofs.Library.{ℕ, ◌≡◌, refl, true, false, List, [], ◌∷◌, ◌++◌}
use Rattle.lock.specs.{Phase.standing, Run.step, Sheet.lines, Text.{text, decimal}}
use Rattle.pair.specs.{File.{journal_after, not_run}, Sheet.sheet}
use Rattle.credit_model.specs.File as bookings
use Rattle.hex_text.specs.Hex.{hex_digit, bytes_line}
use Rattle.stored.specs.Runs.{title_line, sheet_lines, journal_lines, left_line, run_text, shorter_run, longer_run}
use Rattle.stored.specs.Runs.{runs_text}

pub p02-text : runs_text (text "p02") false (1 ∷ 1 ∷ 1 ∷ 3 ∷ 0 ∷ 0 ∷ 0 ∷ 0 ∷ 64 ∷ 0 ∷ 0 ∷ []) []
    ≡ text "run p02 journal 6\nanswer 0 at 3\nroot 1 0 open\nqueue free 0 0\nthread 0 reading 0 0\n"
    ++ text "root 0 0 open\nqueue free 0 0\nthread 0 idle - 0\n"
    ++ text "behind ee ee ee ee\nkinds 00 01 02\nwords 21 00 00\nleft\n"
    ++ text "run p02 journal 5\nanswer 4 at 0\nbehind ee ee ee ee\nkinds ee ee ee\nwords ee ee\nleft\n"
    ++ text "run p02 journal 8\nanswer 0 at 3\nroot 1 0 open\nqueue free 0 0\nthread 0 reading 0 0\n"
    ++ text "root 0 0 open\nqueue free 0 0\nthread 0 idle - 0\n"
    ++ text "behind ee ee ee ee\nkinds 00 01 02\nwords 21 00 00 ee ee\nleft\n"
unfolding text decimal lines sheet journal_after not_run hex_digit bytes_line
    title_line sheet_lines journal_lines run_text shorter_run longer_run step standing
p02-text = refl

-- An idle thread cannot unlock: three rows are left. With a till file of no bytes, refusal 10, none are.
abbrev unsuited : List ℕ
unsuited = 2 ∷ 1 ∷ 2 ∷ 3 ∷ 0 ∷ 0 ∷ 1 ∷ 1 ∷ 2 ∷ 64 ∷ 0 ∷ []

pub left-text : (left_line false unsuited [] 6 ≡ text "left 00 01 01\n") × (left_line true unsuited [] 6 ≡ text "left\n")
unfolding text lines hex_digit bytes_line not_run bookings.not_run step standing
left-text = (refl, refl)
