-- The sheet of a record, opened by one step; and that it fits.
use Rattle.lock.proofs.Library.{◌≡◌, refl, sym, ap, ◌∙◌, ◌≢◌, List, [], ◌++◌, append-nil, append_assoc, ℕ}
use Rattle.lock.proofs.Library.{◌+◌, ◌<◌, ◌≤◌, some, true, false, arith, length, length-append, eqb, ltb, eq-eqb}
use Rattle.lock.proofs.Library.{ne_eqb, lt-ltb, le-ltb}
use Rattle.lock.proofs.Choice.{if-both, by-test}
use Rattle.lock.specs.{declared.Sizes.Sizes, File.{sizes_of, within}, Text.{text, decimal}}
use Rattle.lock.specs.Sheet.{answer_line, state_lines, no_room, sheet_refusal}
use Rattle.lock.specs.{declared.Refusal.Refusal, Refusal.answer_number}
use Rattle.pair.specs.{Pair.Pair, Sheet.{pair_lines, sheet_of}}
use Rattle.cells.{specs.View.state_of, proofs.Parts.{words_long, threads-long}}
use Rattle.text.{specs.Asked.Asked, proofs.{Decimal.decimal-length, Shape.answer-length}}
use Rattle.std.specs.Prelude.{Result, Ok}
use Prim.{Unit, tt}
use Rattle.text.proofs.Asking.{asked-as, large}
use Rattle.report.{specs.Report.Bounded, proofs.{Shape.sheet-is, Bound.sheet-length}}
use Rattle.turn.specs.Turn.{pair_in}
use Rattle.record_model.specs.Record.{Told, NONE}
use Rattle.record_model.specs.Sheet.{value_field, entry_line, entry_line_if, lines_below, verdict_sheet, record_sheet}
use Rattle.record_model.proofs.Runs.{claimed-of}
use Rattle.record_hold.specs.Holds.{verdict_in, HoldsRecord}
use Rattle.record_report.specs.Sheeted.{SheetsRecord}

-- ---- the second line

pub value_none : (v : ℕ) → v ≡ NONE → value_field v ≡ text " -\n"
value_none v e = rw (eq-eqb v NONE e)

pub value-some : (v : ℕ) → v ≢ NONE → value_field v ≡ text " " ++ decimal v ++ text "\n"
value-some v e = rw (ne_eqb v NONE e)

pub entry-is : (k w v : ℕ) → entry_line k w v ≡ (text "entry " ++ decimal k) ++ (text " " ++ decimal w) ++ value_field v
unfolding entry_line
entry-is k w v = refl

pub entry-there : (t : Told) → 10 < t.answer → entry_line_if t ≡ entry_line t.kind t.word t.value
entry-there t h = rw (lt-ltb 10 t.answer h)

pub entry-none : (t : Told) → t.answer ≤ 10 → entry_line_if t ≡ []
entry-none t h = rw (le-ltb 10 t.answer h)

pub pair_is : (z : Sizes) (s : Pair) → pair_lines z s ≡ state_lines z s.one ++ state_lines z s.two
unfolding pair_lines
pair_is z s = refl

-- ---- lengths

value-length : (v : ℕ) → length (value_field v) ≤ 12
unfolding text
value-length v =
    if-both (λ x. length x ≤ 12) (eqb v NONE) {x = text " -\n"} {y = text " " ++ decimal v ++ text "\n"}
    (λ _. omega arith) (λ _. simp length-append (omega (arith, decimal-length v)))

entry_length : (k w v : ℕ) → length (entry_line k w v) ≤ 40
unfolding text
entry_length k w v =
    rw (entry-is k w v) (simp length-append (omega (arith, decimal-length k, decimal-length w, value-length v)))

entry-if-length : (t : Told) → length (entry_line_if t) ≤ 40
entry-if-length t =
    if-both (λ x. length x ≤ 40) (ltb 10 t.answer) (λ _. entry_length t.kind t.word t.value)
    (λ _. omega arith)

bounded : (l : List ℕ) → Bounded (state_of l)
bounded l = (omega (arith, words_long l), omega (arith, threads-long l))

pair-length : (z : Sizes) (ls : List (List ℕ)) → length (pair_lines z (pair_in ls)) ≤ 6476
unfolding pair_lines
pair-length z ls =
    let h = sheet-length z 0 0 (some (pair_in ls)) (bounded _, bounded _) in
    let e : length (sheet_of z 0 0 (some (pair_in ls))) ≡ length (answer_line 0 0) + length (pair_lines z (pair_in ls)) =
    ap length (sheet-is z 0 0 (some (pair_in ls))) ∙ length-append (answer_line 0 0) (pair_lines z (pair_in ls)) in
    omega (arith, h, e)

-- ---- the sheet, by whether there is a state

module _ (z : Sizes) (r : Told) (ls : List (List ℕ)) where
  pub head-is : verdict_sheet z (verdict_in r ls)
      ≡ answer_line r.answer r.held ++ lines_below z r (verdict_in r ls).state
  unfolding verdict_sheet
  head-is = refl

  pub short-is : within 1 3 r.answer ≡ true
      → verdict_sheet z (verdict_in r ls) ≡ answer_line r.answer r.held
  unfolding verdict_sheet
  short-is e = rw e (append-nil (answer_line r.answer r.held))

  pub full_is : within 1 3 r.answer ≡ false
      → verdict_sheet z (verdict_in r ls)
      ≡ answer_line r.answer r.held ++ entry_line_if r ++ pair_lines z (pair_in ls)
  unfolding verdict_sheet
  full_is e = rw e (sym (append_assoc (answer_line r.answer r.held) (entry_line_if r) (pair_lines z (pair_in ls))))

  pub sheet-fits : length (verdict_sheet z (verdict_in r ls)) ≤ 8192
  sheet-fits = by-test (within 1 3 r.answer)
      (λ e. rw (short-is e) (omega (arith, answer-length r.answer r.held)))
      (λ e. rw (full_is e) (simp length-append
      (omega (arith, answer-length r.answer r.held, entry-if-length r, pair-length z ls))))

-- ---- the buffer

-- one that the test lets pass has room
pub roomy : (b : List ℕ) {m : Result (Unit {0}) Refusal} → answer_number m ≡ sheet_refusal (length b) → m ≡ Ok tt
    → 8192 ≤ length b
roomy b is e =
    large b {x = no_room (length b)} refl
    (by-test (no_room (length b)) (λ k. let nine : 0 ≡ 9 = rw (e, k) at is in absurd (omega arith)) (λ k. k))

-- ---- the sheet of a record that was held

pub told-sheet : {b : List ℕ} {ls₀ ls : List (List ℕ)} {r : Told} {z : Sizes} → z ≡ sizes_of b → HoldsRecord b ls₀ ls r
    → verdict_sheet z (verdict_in r ls) ≡ record_sheet b
unfolding record_sheet
told-sheet {b} {ls = ls} {r = r} own h =
    ap (λ y. verdict_sheet y (verdict_in r ls)) own ∙ ap (verdict_sheet (sizes_of b)) h.verdict

pub sheets : {b t₀ t : List ℕ} {len : ℕ} {ls₀ ls : List (List ℕ)} {r : Told} {z : Sizes} → z ≡ sizes_of b
    → HoldsRecord b ls₀ ls r → Asked (verdict_sheet z (verdict_in r ls)) t₀ t len → SheetsRecord b t₀ t len
sheets {b} own h a = record { asked = asked-as (told-sheet own h) a; claims = claimed-of b }
