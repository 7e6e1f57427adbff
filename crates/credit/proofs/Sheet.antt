-- The sheet of a run with a till: the bench's sheet and the rooms behind it, or the answer's line alone.
use Rattle.lock.proofs.Library.{◌≡◌, refl, ◌∙◌, true, false, List, ◌++◌, append-nil, Option, none, some, ℕ, length}
use Rattle.lock.specs.{declared.Sizes.Sizes, declared.Ran.Ran, File.{sizes_of, stateless}, Sheet.answer_line}
use Rattle.lock.specs.Refusal.{answer_number}
use Rattle.pair.specs.Sheet.{sheet_of}
use Rattle.till.specs.{Till.{Till, till_of}, Rooms.room_lines, View.ledger_of}
use Rattle.credit_model.specs.{Credit.Credit, File.credit, Sheet.{locks_if, room_lines_if, credit_sheet_of, sheet}}
use Rattle.text.{specs.Asked.Asked, proofs.Asking.asked-as}
use Rattle.bench.specs.Sheeted as bench
use Rattle.credit.specs.{Runner.{credit_of, sheet_of_run, Credits}, Sheeted.{SheetedIf, Sheeted}}

-- ---- by the answer

pub sheet-is : (z : Sizes) (n k : ℕ) (s : Option Credit)
    → credit_sheet_of z n k s ≡ sheet_of z n k (locks_if s) ++ room_lines_if s
unfolding credit_sheet_of
sheet-is z n k s = refl

none_is : (z : Sizes) (n k : ℕ) → sheet_of z n k none ≡ answer_line n k
unfolding sheet_of
none_is z n k = append-nil (answer_line n k)

module _ (r : Ran) (i : Till) (ls : List (List ℕ)) (g : List ℕ) where
  pub short : stateless (answer_number r.answer) ≡ true → sheet_of_run r i ls g ≡ answer_line (answer_number r.answer) r.taken
  short e =
      rw e (sheet-is r.sizes (answer_number r.answer) r.taken none ∙ append-nil _ ∙ none_is r.sizes (answer_number r.answer) r.taken)

  pub full : stateless (answer_number r.answer) ≡ false → sheet_of_run r i ls g ≡ bench.run_sheet r ls ++ room_lines (ledger_of i g)
  full e = rw e (sheet-is r.sizes (answer_number r.answer) r.taken (some (credit_of i ls g)))

-- ---- from the run of the files to their sheet

pub sheet-of : (b c : List ℕ) (j : ℕ)
    → sheet b c j ≡ credit_sheet_of (sizes_of b) (credit b c j).answer (credit b c j).taken (credit b c j).state
unfolding sheet
sheet-of b c j = refl

module _ {b c j₀ j g₀ g : List ℕ} {ls₀ ls : List (List ℕ)} {r : Ran} (h : Credits b c j₀ j ls₀ g₀ ls g r) where
  run-sheet : sheet_of_run r (till_of c) ls g ≡ sheet b c (length j₀)
  run-sheet = cc (h.sizes, h.answer, h.taken, h.state, sheet-of b c (length j₀))

  pub sheeted-is : {t₀ t : List ℕ} {len : ℕ} → Asked (sheet_of_run r (till_of c) ls g) t₀ t len → Sheeted b c j₀ j t₀ t len
  sheeted-is a = record { journal = h.journal; asked = asked-as run-sheet a; promised = h.promised }

-- the bench's, where there is no till
pub without-till : {b c j₀ j t₀ t : List ℕ} {len : ℕ}
    → bench.Sheeted b j₀ j t₀ t len → SheetedIf false b c j₀ j t₀ t len
without-till s = record { journal = s.journal; asked = s.asked; promised = s.promises }
