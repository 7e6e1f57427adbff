-- The definitions of a run's text, opened by one step: an equation leaves the parts shut.
use Rattle.lock.{proofs.Library.{ℕ, ◌≡◌, refl, Bool, List, ◌++◌, length, take, drop}, specs.Text.{text, decimal}}
use Rattle.text.proofs.Shape.{last-field}
use Rattle.hex_text.specs.Hex.{bytes_line}
use Rattle.credit.specs.Sheeted.{sheet_if, journal_if}
use Rattle.stored.specs.Runs.{title_line, behind, sheet_lines, journal_lines, left_line, run_text}

pub title-is : (name : List ℕ) (n : ℕ)
    → title_line name n ≡ (text "run " ++ name) ++ (text " journal " ++ decimal n ++ text "\n")
unfolding title_line
title-is name n = last-field (text "run " ++ name) (text " journal ") (decimal n) (text "\n")

pub sheet-is : (there : Bool) (b c : List ℕ) (n : ℕ)
    → sheet_lines there b c n ≡ sheet_if there b c n ++ bytes_line (text "behind") (behind (sheet_if there b c n))
unfolding sheet_lines
sheet-is there b c n = refl

pub journal-is : (S : ℕ) (j : List ℕ)
    → journal_lines S j ≡ bytes_line (text "kinds") (take S j) ++ bytes_line (text "words") (drop S j)
unfolding journal_lines
journal-is S j = refl

pub run_is : (name : List ℕ) (there : Bool) (b c : List ℕ) (S : ℕ) (j₀ : List ℕ)
    → run_text name there b c S j₀
    ≡ ((title_line name (length j₀) ++ sheet_lines there b c (length j₀)) ++ journal_lines S (journal_if there b c j₀))
    ++ left_line there b c (length j₀)
unfolding run_text
run_is name there b c S j₀ = refl
