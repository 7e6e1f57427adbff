-- Asking for a sheet: the buffer is tested once, and a sheet of at most 8,192 bytes fits one that passes.
use Rattle.lock.proofs.Library.{ℕ, ◌≤◌, ◌≡◌, refl, sym, ◌∙◌, Bool, true, false, List, arith, ltb, length, ltb-false}
use Rattle.lock.proofs.Choice.{by-test}
use Rattle.lock.specs.{declared.Refusal.{Refusal, TheVariants.SheetTooSmall}, Refusal.answer_number}
use Rattle.lock.specs.Sheet.{no_room, sheet_refusal}
use Rattle.std.specs.Prelude.{Result, Ok, Err, IsOkUnless}
use Prim.{Unit, tt}
use Rattle.text.specs.{Writing.{Room, Wrote}, Asked.Asked}
use Rattle.text.proofs.Writing.{wrote-front, wrote-within}

-- the buffer is large enough, by what `too_small` gave, x, and how the test of it came out
pub large : (b : List ℕ) {x : Bool} → x ≡ ltb (length b) 8192 → x ≡ false → 8192 ≤ length b
large b is left = ltb-false (length b) 8192 (sym is ∙ left)

module _ {b : List ℕ} {x : Bool} (is : x ≡ ltb (length b) 8192) where
  -- nothing is written
  pub asked-none : {t : List ℕ} → x ≡ true → Asked t b b 0
  asked-none small = let s = sym is ∙ small in record { buffer = rw s; long = rw s; within = omega arith }

  module _ (left : x ≡ false) where
    -- the sheet has room at the front
    pub asked-room : {t : List ℕ} → length t ≤ 8192 → Room b 0 t
    asked-room short = record { fits = omega (arith, large b is left) }

    -- and is written there
    pub asked-whole : {t c : List ℕ} {n : ℕ} → Wrote b 0 t c n → Asked t b c n
    asked-whole w =
        let e = sym is ∙ left in
        record { buffer = rw e (wrote-front w).1; long = rw e (wrote-front w).0; within = wrote-within w }

-- the same by what `check_room` gave, m: it refuses the buffer, or lets it pass
module _ (b : List ℕ) {m : Result (Unit {0}) Refusal} (is : answer_number m ≡ sheet_refusal (length b)) where
  pub asked-refused : {t : List ℕ} {r : Refusal} → IsOkUnless m SheetTooSmall → m ≡ Err r → Asked t b b 0
  asked-refused {t} {r} only e =
      asked-none {x = no_room (length b)} refl
      (by-test (no_room (length b)) (λ k. k)
      (λ k. let which : r ≡ SheetTooSmall = rw e at only in
      let nine : 9 ≡ 0 = rw (e, which, k) at is in absurd (omega arith)))

  module _ (e : m ≡ Ok tt) where
    passes : no_room (length b) ≡ false
    passes = by-test (no_room (length b)) (λ k. let nine : 0 ≡ 9 = rw (e, k) at is in absurd (omega arith)) (λ k. k)

    pub asked-place : {t : List ℕ} → length t ≤ 8192 → Room b 0 t
    asked-place short = asked-room {x = no_room (length b)} refl passes short

    pub asked-sheet : {t c : List ℕ} {n : ℕ} → Wrote b 0 t c n → Asked t b c n
    asked-sheet w = asked-whole {x = no_room (length b)} refl passes w

-- the same of another text that is equal
pub asked-as : {x y t₀ t : List ℕ} {n : ℕ} → x ≡ y → Asked x t₀ t n → Asked y t₀ t n
asked-as e a = rw e at a
