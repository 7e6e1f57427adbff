-- The buffer that a sheet is asked for with is longer than it need be, and was ee all over: the sheet stands at its front,
-- and behind that come four bytes more.
use Rattle.lock.proofs.Library.{ℕ, ◌+◌, ◌-◌, ◌≤◌, ◌≡◌, refl, Bool, false, List, ◌++◌, arith, ltb, length, take, drop}
use Rattle.lock.proofs.Library.{length-append, length-drop, length-replicate, take-append_seam, le-ltb}
use Rattle.lock.specs.{Text.text, Sheet.buffer_after}
use Rattle.std.specs.{Prelude.{Result, Ok, Err}, Result.{result_unwrap_or}}
use Rattle.lock.specs.declared.Refusal.{Refusal}
use Rattle.text.{specs.{declared.Page.Page, Page.{Fits, Adds}, Asked.length_of}, proofs.Pages.{fits-head, fits-tail, adds-both}}
use Rattle.hex_text.specs.Hex.{bytes_line}
use Rattle.credit.specs.Sheeted.{sheet_if, SheetedIf}
use Rattle.stored.specs.Runs.{blank, sheet_lines}
use Rattle.stored.proofs.{Shape.sheet-is, Bound.sheet-bound}

-- the length that the code takes from the answer m, 0 for a refusal, is the one that is promised of it
length-is : (m : Result ℕ Refusal) → length_of m ≡ result_unwrap_or m 0
length-is (Ok n) = refl
length-is (Err r) = refl

pub asked-for : {there : Bool} {b c j₀ j t₀ t : List ℕ} (m : Result ℕ Refusal) {len : ℕ} → len ≡ result_unwrap_or m 0
    → SheetedIf there b c j₀ j t₀ t (length_of m) → SheetedIf there b c j₀ j t₀ t len
asked-for m e s = rw e (rw (length-is m) at s)

-- a buffer of n bytes
module _ (n : ℕ) (large : 8192 ≤ n) {there : Bool} {b c j₀ j p : List ℕ} {len : ℕ}
    (s : SheetedIf there b c j₀ j (blank n) p len) where
  roomy : ltb (length (blank n)) 8192 ≡ false
  roomy = le-ltb (length (blank n)) 8192 (omega (arith, length-replicate {A = ℕ} n 238))

  len_is : len ≡ length (sheet_if there b c (length j₀))
  len_is = rw roomy at s.asked.long

  page-is : p ≡ sheet_if there b c (length j₀) ++ drop (length (sheet_if there b c (length j₀))) (blank n)
  page-is = rw roomy at s.asked.buffer

  front-is : take len p ≡ sheet_if there b c (length j₀)
  front-is = rw (len_is, page-is) (take-append_seam (sheet_if there b c (length j₀)) _)

  behind-is : take (len + 4 - len) (drop len p)
      ≡ take 4 (drop (length (sheet_if there b c (length j₀))) (buffer_after (sheet_if there b c (length j₀)) (blank n)))
  behind-is =
      let four : len + 4 - len ≡ 4 = omega arith in
      rw (four, s.asked.buffer, len_is)

  end-within : len + 4 ≤ length p
  end-within =
      rw (len_is, page-is)
      (simp (length-append, length-drop, length-replicate) (omega (arith, sheet-bound there b c (length j₀))))

-- the buffer that the code lends
module _ {there : Bool} {b c j₀ j t : List ℕ} {len : ℕ} (s : SheetedIf there b c j₀ j (blank 8200) t len) where
  pub buffer-end : len + 4 ≤ length t
  buffer-end = end-within 8200 (omega arith) s

  module _ {p : Page} where
    pub fits-sheet : Fits p (sheet_lines there b c (length j₀)) → Fits p (take len t)
    fits-sheet room = rw (front-is 8200 (omega arith) s) (fits-head _ (sheet-is there b c (length j₀)) room)

    module _ {p₁ : Page} (w : Adds p (take len t) p₁) where
      front : Adds p (sheet_if there b c (length j₀)) p₁
      front = rw (front-is 8200 (omega arith) s) at w

      pub fits-behind : Fits p (sheet_lines there b c (length j₀))
          → Fits p₁ (bytes_line (text "behind") (take (len + 4 - len) (drop len t)))
      fits-behind room = rw (behind-is 8200 (omega arith) s) (fits-tail (sheet-is there b c (length j₀)) front room)

      pub adds-sheet : {p₂ : Page} → Adds p₁ (bytes_line (text "behind") (take (len + 4 - len) (drop len t))) p₂
          → Adds p (sheet_lines there b c (length j₀)) p₂
      adds-sheet v = adds-both (sheet-is there b c (length j₀)) front (rw (behind-is 8200 (omega arith) s) at v)
