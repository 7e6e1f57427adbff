-- The text of a stored schedule's runs.
use Rattle.std.specs.Prelude.{ℕ, ◌+◌, ◌*◌, ◌-◌, Bool, true, false, List, [], ◌++◌, length, take, drop, replicate, ltb}
use Rattle.std.specs.Prelude.{if◌then◌else◌}
use Rattle.lock.specs.File.{row_count}
use Rattle.lock.specs.Sheet.{buffer_after}
use Rattle.lock.specs.Text.{text, decimal}
use Rattle.pair.specs.File as pair
use Rattle.credit_model.specs.File as bookings
use Rattle.credit.specs.Sheeted.{sheet_if, journal_if}
use Rattle.hex_text.specs.Hex.{bytes_line}

-- the rows that the journal of the file b has room for: those that b names, but at most 4,096, and none where b has
-- fewer than 5 bytes
abbrev pub journal_rows : List ℕ → ℕ
journal_rows b = if ltb (length b) 5 then 0 else (if ltb (row_count b) 4096 then row_count b else 4096)

-- n bytes, each of which is ee: a journal, or a sheet's buffer, before the run
abbrev pub blank : ℕ → List ℕ
blank n = replicate n 238

-- ---- the pieces of a run

-- the run's name, and its journal's length
unfoldable pub title_line : List ℕ → ℕ → List ℕ
title_line name n = text "run " ++ name ++ text " journal " ++ decimal n ++ text "\n"

-- the four bytes behind the sheet s, in a buffer of 8,200 bytes that it was asked for with
abbrev pub behind : List ℕ → List ℕ
behind s = take 4 (drop (length s) (buffer_after s (blank 8200)))

-- the sheet of the file b, with the till file c if it is there, run with a journal of j bytes
unfoldable pub sheet_lines : Bool → List ℕ → List ℕ → ℕ → List ℕ
sheet_lines there b c j = sheet_if there b c j ++ bytes_line (text "behind") (behind (sheet_if there b c j))

-- a journal whose second array starts at byte S
unfoldable pub journal_lines : ℕ → List ℕ → List ℕ
journal_lines S j = bytes_line (text "kinds") (take S j) ++ bytes_line (text "words") (drop S j)

-- the rows not run
abbrev pub not_run_if : Bool → List ℕ → List ℕ → ℕ → List ℕ
not_run_if true b c j = bookings.not_run b c j
not_run_if false b c j = pair.not_run b j

abbrev pub left_line : Bool → List ℕ → List ℕ → ℕ → List ℕ
left_line there b c j = bytes_line (text "left") (not_run_if there b c j)

-- ---- the runs

module _ (name : List ℕ) (there : Bool) (b c : List ℕ) (S : ℕ) where
  -- one run of the file b, with the till file c if it is there, and a journal that is j₀ before it and whose second
  -- array starts at byte S
  unfoldable pub run_text : List ℕ → List ℕ
  run_text j₀ =
      title_line name (length j₀)
      ++ sheet_lines there b c (length j₀)
      ++ journal_lines S (journal_if there b c j₀)
      ++ left_line there b c (length j₀)

  -- with a byte less than the journal needs, where it needs one
  unfoldable pub shorter_run : List ℕ
  shorter_run = if ltb 0 S then run_text (blank (2 * S - 1)) else []

  -- with two bytes more than it needs, where it has room for at most 1,024 rows
  unfoldable pub longer_run : List ℕ
  longer_run = if ltb 1024 S then [] else run_text (blank (2 * S + 2))

  -- every run of a file whose journal has room for S rows
  abbrev pub runs_of : List ℕ
  runs_of = run_text (blank (2 * S)) ++ shorter_run ++ longer_run

abbrev pub runs_text : List ℕ → Bool → List ℕ → List ℕ → List ℕ
runs_text name there b c = runs_of name there b c (journal_rows b)
