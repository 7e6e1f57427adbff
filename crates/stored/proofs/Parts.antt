-- The journal's parts that the code lends, as the definitions have them: its two arrays, and one that is ee all over.
use Rattle.lock.proofs.Library.{ℕ, ◌-◌, ◌≤◌, ◌≡◌, sym, ap, ◌∙◌, Bool, List, ◌++◌, le_refl, length, take, drop}
use Rattle.lock.proofs.Library.{length-drop, length-replicate, take_all}
use Rattle.lock.specs.Text.{text}
use Rattle.till.proofs.View.{take_same}
use Rattle.text.{specs.{declared.Page.Page, Page.{Fits, Adds}}, proofs.Pages.{fits-next, adds-next, fits-head, fits-tail, adds-both}}
use Rattle.hex_text.specs.Hex.{bytes_line}
use Rattle.credit.specs.Sheeted.{journal_if}
use Rattle.stored.specs.Runs.{blank, title_line, sheet_lines, journal_lines, left_line, run_text}
use Rattle.stored.proofs.{Shape.{journal-is, run_is}, Bound.journal-long}

-- the journal's lines as those of the two parts that are lent
pub arrays-are : (S : ℕ) (j : List ℕ)
    → journal_lines S j
    ≡ bytes_line (text "kinds") (take S j) ++ bytes_line (text "words") (take (length j - S) (drop S j))
arrays-are S j = rw (take_all (length j - S) (drop S j) (simp length-drop (le_refl _))) (journal-is S j)

-- The journal j that is listed is the one that the run left, and as long as it was.
module _ (name : List ℕ) (there : Bool) (b c : List ℕ) (S : ℕ) (j₀ : List ℕ) {j : List ℕ} {p p₁ p₂ : Page}
    (left : j ≡ journal_if there b c j₀) (title : Adds p (title_line name (length j₀)) p₁)
    (page : Adds p₁ (sheet_lines there b c (length j₀)) p₂) where
  long : length j ≡ length j₀
  long = ap length left ∙ journal-long there b c j₀

  pub fits-journal : Fits p (run_text name there b c S j₀) → S ≤ length j₀
      → Fits p₂ (journal_lines S j) × (S ≤ length j)
  fits-journal room within =
      let head = fits-head _ (run_is name there b c S j₀) room in
      rw left (fits-next (adds-next title page) head, rw (journal-long there b c j₀) within)

  module _ {p₃ : Page} (listed : Adds p₂ (journal_lines S j) p₃) where
    before : Adds p
        ((title_line name (length j₀) ++ sheet_lines there b c (length j₀)) ++ journal_lines S (journal_if there b c j₀))
        p₃
    before = adds-next (adds-next title page) (rw left at listed)

    pub fits-left : Fits p (run_text name there b c S j₀) → Fits p₃ (left_line there b c (length j))
    fits-left room = rw long (fits-tail (run_is name there b c S j₀) before room)

    pub adds-run : {p₄ : Page} → Adds p₃ (left_line there b c (length j)) p₄ → Adds p (run_text name there b c S j₀) p₄
    adds-run w = adds-both (run_is name there b c S j₀) before (rw long at w)

-- the first bytes of a longer journal that is ee all over
blank_part : (n len : ℕ) → len ≤ n → take len (blank n) ≡ blank len
blank_part n len = take_same 238 len n

pub part-long : (n len : ℕ) → len ≤ n → len ≡ length (take len (blank n))
part-long n len short = rw (blank_part n len short) (sym (length-replicate len 238))

module _ (name : List ℕ) (there : Bool) (b c : List ℕ) (S n len : ℕ) (short : len ≤ n) {p : Page} where
  pub fits-blank : Fits p (run_text name there b c S (blank len)) → S ≤ len
      → Fits p (run_text name there b c S (take len (blank n))) × (S ≤ length (take len (blank n)))
  fits-blank room within = (rw (blank_part n len short) room, rw (← part-long n len short) within)

  pub adds-blank : {p' : Page} → Adds p (run_text name there b c S (take len (blank n))) p'
      → Adds p (run_text name there b c S (blank len)) p'
  adds-blank w = rw (blank_part n len short) at w
