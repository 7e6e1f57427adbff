-- From the run of a file to its sheet: the sheet of what the run left is the sheet of the file.
use Rattle.lock.proofs.Library.{◌≡◌, refl, ℕ, List, length}
use Rattle.lock.specs.{declared.Ran.Ran, File.sizes_of}
use Rattle.pair.specs.{File.{bench, journal_after}, Sheet.{sheet_of, sheet}}
use Rattle.text.{specs.Asked.Asked, proofs.Asking.asked-as}
use Rattle.bench.specs.{Bench.Benches, Sheeted.{run_sheet, Sheeted}}

pub sheet-of : (b : List ℕ) (j : ℕ)
    → sheet b j ≡ sheet_of (sizes_of b) (bench b j).answer (bench b j).taken (bench b j).state
unfolding sheet
sheet-of b j = refl

sheet-is : {b j₀ j : List ℕ} {ls₀ ls : List (List ℕ)} {r : Ran} → Benches b j₀ j ls₀ ls r
    → run_sheet r ls ≡ sheet b (length j₀)
unfolding bench
sheet-is {b} {j₀} h = cc (h.sizes, h.answer, h.taken, h.state, sheet-of b (length j₀))

pub sheeted-is : {b j₀ j t₀ t : List ℕ} {ls₀ ls : List (List ℕ)} {r : Ran} {len : ℕ} → Benches b j₀ j ls₀ ls r
    → Asked (run_sheet r ls) t₀ t len → Sheeted b j₀ j t₀ t len
unfolding journal_after
sheeted-is h a = record { journal = h.journal; asked = asked-as (sheet-is h) a; promises = h.promises }
