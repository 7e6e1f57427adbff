-- A record in two pieces, cut at a byte: of which of its first bytes it is told; and what is written of a record.
use Rattle.lock.proofs.Library.{◌≡◌, sym, ap, subst, ◌∙◌, ◌≢◌, List, ◌++◌, ℕ, ◌+◌, ◌-◌, ◌≤◌, le_refl, arith, length}
use Rattle.lock.proofs.Library.{take, drop, take-add, take_all, take-append-drop, take-append-le, length-drop, refl}
use Rattle.std.specs.Prelude.{Option, Result, Ok, Err, OnOk}
use Rattle.std.specs.Io.KnownBytes.{Appends}
use Rattle.std.proofs.KnownBytes.{Appends-trans}
use Rattle.std.proofs.lemmas.Result.{on_ok_weaker}
use Rattle.std.specs.Result.{result_unwrap_or}
use Rattle.lock.specs.declared.Refusal.{Refusal}
use Rattle.lock.specs.Text.{text}
use Rattle.lock.specs.Sheet.{sheet_refusal, buffer_by, length_by}
use Rattle.lock.specs.declared.Sizes.{Sizes}
use Rattle.lock.specs.File.{sizes_of}
use Rattle.text.specs.Asked.{Asked, length_of}
use Rattle.arguments.specs.Runs.{run_text}
use Rattle.record_model.specs.Sheet.{verdict_sheet, record_sheet}
use Rattle.record_model.specs.Record.{Told, verdict}
use Rattle.record_hold.specs.Holds.{Begins, HoldsRecord, More, verdict_in}
use Rattle.record_report.proofs.Sheet.{sheets}
use Rattle.record_runs.specs.Fronts.{HoldsFront, SheetsFront, WritesSheets}

-- the first three bytes and the first piece
first-half : (b : List ℕ) (cut : ℕ) → 3 ≤ cut → take 3 b ++ take (cut - 3) (drop 3 b) ≡ take cut b
first-half b cut low =
    let e : 3 + (cut - 3) ≡ cut = omega arith in sym (take-add 3 (cut - 3) b) ∙ ap (λ k. take k b) e

module _ (b : List ℕ) {ls₀ ls : List (List ℕ)} {r : Told} where
  -- of all bytes
  front-all : HoldsRecord b ls₀ ls r → HoldsFront b ls r
  front-all h =
      let all = sym (take_all (length b) b (le_refl _)) in
      record {
        front = length b;
        before = ls₀;
        sizes = ap sizes_of all;
        holds = subst (λ x. HoldsRecord x ls₀ ls r) all h;
        whole = λ _. le_refl _;
      }

  pub front-refused : Begins b ls₀ ls r → r.answer ≢ 0 → HoldsFront b ls r
  front-refused k ne = front-all (k.refused ne)

  module _ (cut : ℕ) (low : 3 ≤ cut) {z : Sizes} {n : ℕ} where
    pub front-half : z ≡ sizes_of b → More (take 3 b) (take (cut - 3) (drop 3 b)) z n ls₀ ls r → r.answer ≢ 0
        → HoldsFront b ls r
    front-half own k ne = record {
      front = cut;
      before = ls₀;
      sizes = sym own ∙ k.sizes ∙ ap sizes_of (first-half b cut low);
      holds = subst (λ x. HoldsRecord x ls₀ ls r) (first-half b cut low) k.holds;
      whole = λ e. absurd (ne e);
    }

    pub front-whole : More (take 3 b ++ take (cut - 3) (drop 3 b)) (take (length b - cut) (drop cut b)) z n ls₀ ls r
        → HoldsFront b ls r
    front-whole k =
        let rest = take_all (length b - cut) (drop cut b) (omega (arith, length-drop cut b)) in
        let all = ap (λ x. x ++ take (length b - cut) (drop cut b)) (first-half b cut low)
        ∙ ap (λ x. take cut b ++ x) rest ∙ take-append-drop cut b in
        front-all (subst (λ x. HoldsRecord x ls₀ ls r) all k.holds)

-- what was told and the locks left are those of the first bytes, and so is the sheet
pub sheets-front : {b t₀ t : List ℕ} {len : ℕ} {ls : List (List ℕ)} {r : Told} {z : Sizes} → z ≡ sizes_of b
    → HoldsFront b ls r → Asked (verdict_sheet z (verdict_in r ls)) t₀ t len → SheetsFront b t₀ t len
sheets-front own h a = record {
  front = h.front;
  sheets = sheets (own ∙ h.sizes) h.holds a;
  whole = λ e. h.whole (ap (λ v. v.told.answer) h.holds.verdict ∙ e);
}

-- no length is 0
pub given_length : (r : Result ℕ Refusal) → result_unwrap_or r 0 ≡ length_of r
given_length (Ok n) = refl
given_length (Err e) = refl

-- the sheet that was asked for with a buffer of 8,192 bytes is what stands at its front
pub taken : (s t₀ t : List ℕ) (n k : ℕ) → Asked s t₀ t n → length t₀ ≡ 8192 → k ≡ n → take k t ≡ s
taken s t₀ t n k a e same =
    let long : n ≡ length s = a.long ∙ ap (λ m. length_by (sheet_refusal m) s) e in
    let buffer : t ≡ s ++ drop (length s) t₀ = a.buffer ∙ ap (λ m. buffer_by (sheet_refusal m) s t₀) e in
    ap (λ m. take m t) (same ∙ long) ∙ ap (take (length s)) buffer
    ∙ take-append-le (length s) s (drop (length s) t₀) (le_refl _) ∙ take_all (length s) s (le_refl _)

pub after-ok : {T E P Q : Type 0} (r : Result T E) → OnOk r P → (P → Q) → OnOk r Q
after-ok r p f = on_ok_weaker r f p

-- three writes, one behind the other
pub writes-sheets : (name b : List ℕ) (front : ℕ) (w₀ w₁ w₂ w : Option (List ℕ)) (x y : List ℕ)
    → Appends w₀ w₁ (run_text name x) → Appends w₁ w₂ (text "in two pieces\n") → Appends w₂ w y
    → x ≡ record_sheet b → y ≡ record_sheet (take front b)
    → ((verdict (take front b)).told.answer ≡ 0 → length b ≤ front) → WritesSheets name b w₀ w
writes-sheets name b front w₀ w₁ w₂ w x y first line second is-whole is-front whole =
    let between = text "in two pieces\n" in
    let sheet = record_sheet (take front b) in
    record {
      front = front;
      written = subst (λ s. Appends w₀ w (run_text name s ++ between ++ sheet)) is-whole
          (subst (λ s. Appends w₀ w (run_text name x ++ between ++ s)) is-front
          (Appends-trans w₀ w₂ w (run_text name x ++ between) y
          (Appends-trans w₀ w₁ w₂ (run_text name x) between first line) second));
      whole = whole;
    }
