-- From the run of a file of calls to its sheet.
use Rattle.lock.proofs.Library.{ℕ, ◌≤◌, ◌≡◌, refl, sym, ap, ◌∙◌, List, length}
use Rattle.lock.{specs.declared.Sizes.Sizes, specs.declared.Ran.Ran, specs.File.sizes_of}
use Rattle.lock.specs.Refusal.{answer_number}
use Rattle.plain_model.specs.Sheet.{plain_bench, plain_sheet_of, plain_sheet}
use Rattle.plain_engine.specs.Runner.{plain_left, PlainBenches}
use Rattle.plain_report.specs.Report.{sheet_of_run}
use Rattle.plain_report.proofs.Shape.{sheet-fits}

sheet-of : (b : List ℕ) → plain_sheet b
    ≡ plain_sheet_of (sizes_of b) (plain_bench b).answer (plain_bench b).taken (plain_bench b).state
unfolding plain_sheet
sheet-of b = refl

pub sheet-is : {b l₀ l : List ℕ} {r : Ran} → PlainBenches b l₀ l r → sheet_of_run r l ≡ plain_sheet b
sheet-is {b} {l₀} {l} {r} h =
    ap (λ (z : Sizes). plain_sheet_of z (answer_number r.answer) r.taken (plain_left (answer_number r.answer) l)) h.sizes
    ∙ ap (λ (x : ℕ). plain_sheet_of (sizes_of b) x r.taken (plain_left (answer_number r.answer) l)) h.answer
    ∙ ap (λ (x : ℕ). plain_sheet_of (sizes_of b) (plain_bench b).answer x (plain_left (answer_number r.answer) l)) h.taken
    ∙ ap (plain_sheet_of (sizes_of b) (plain_bench b).answer (plain_bench b).taken) h.state
    ∙ sym (sheet-of b)

-- it has room in every buffer that is large enough
pub run_fits : {b l₀ l : List ℕ} {r : Ran} → PlainBenches b l₀ l r → length (sheet_of_run r l) ≤ 2018
run_fits {b} {l₀} {l} {r} h = sheet-fits r l
