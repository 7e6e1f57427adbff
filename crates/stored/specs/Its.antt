-- The text of the runs of a stored schedule, as the code has it.
use Rattle.std.specs.Prelude.{ℕ, List, is_some}
use Rattle.credit.specs.Sheeted.{journal_if, bytes_of}
use Rattle.stored.specs.declared.Schedule.{Schedule}
use Rattle.stored.specs.Runs.{sheet_lines, not_run_if, left_line, run_text, shorter_run, longer_run, runs_of}

abbrev pub its_sheet : Schedule → ℕ → List ℕ
its_sheet s j = sheet_lines (is_some s.till) s.file.now (bytes_of s.till) j

abbrev pub its_journal : Schedule → List ℕ → List ℕ
its_journal s j₀ = journal_if (is_some s.till) s.file.now (bytes_of s.till) j₀

abbrev pub its_tail : Schedule → ℕ → List ℕ
its_tail s j = not_run_if (is_some s.till) s.file.now (bytes_of s.till) j

abbrev pub its_left : Schedule → ℕ → List ℕ
its_left s j = left_line (is_some s.till) s.file.now (bytes_of s.till) j

abbrev pub its_run : Schedule → List ℕ → List ℕ
its_run s j₀ = run_text s.name.now (is_some s.till) s.file.now (bytes_of s.till) s.rows j₀

abbrev pub its_shorter_run : Schedule → List ℕ
its_shorter_run s = shorter_run s.name.now (is_some s.till) s.file.now (bytes_of s.till) s.rows

abbrev pub its_longer_run : Schedule → List ℕ
its_longer_run s = longer_run s.name.now (is_some s.till) s.file.now (bytes_of s.till) s.rows

abbrev pub its_text : Schedule → List ℕ
its_text s = runs_of s.name.now (is_some s.till) s.file.now (bytes_of s.till) s.rows
