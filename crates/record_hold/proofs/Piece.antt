-- A piece of a record: held, or held again up to the row that differs.
use Rattle.lock.proofs.Library.{◌≡◌, sym, ap, ◌∙◌, List, ℕ, ◌<◌, ◌≤◌, ◌*◌, ◌/◌, arith, take}
use Rattle.lock.proofs.Library.{length, length-take-le}
use Rattle.lock.specs.declared.Sizes.{Sizes}
use Rattle.turn.specs.Turn.{pair_in}
use Rattle.record_model.specs.Record.{Told, Holding, hold, rows_from}
use Rattle.record_model.proofs.{Pieces.{whole, before-end, held-most}, File.{take-rows, length-rows, rows-taken}}
use Rattle.record_hold.specs.Holds.{held_from, Holds, HoldsPiece}

-- no more rows are held than the piece has
within : (z : Sizes) (b : List ℕ) (n : ℕ) (ls : List (List ℕ)) {r : Told} → r ≡ (held_from z b n ls).told → r.held ≤ n
within z b n ls q =
    let e = ap (λ (t : Told). t.held) q in
    omega (arith, e, held-most z (pair_in ls) (rows_from b 0 n), length-rows b 0 n)

pub piece-most : {z : Sizes} {b : List ℕ} {n m : ℕ} {ls₀ ls : List (List ℕ)} {r : Told} → HoldsPiece z b n m ls₀ ls r
    → r.held ≤ n
piece-most {z} {b} {n} {ls₀ = ls₀} k = within z b n ls₀ k.told

module _ {z : Sizes} {b : List ℕ} {n m : ℕ} {ls₀ ls₁ : List (List ℕ)} {r : Told} (k : Holds z b n m ls₀ ls₁ r) where
  pub piece-within : r.held ≤ n
  piece-within = within z b n ls₀ k.told

  again : held_from z b r.held ls₀ ≡ whole r.held (held_from z b n ls₀).state
  again =
      let e = ap (λ (t : Told). t.held) k.told in
      ap (hold z (pair_in ls₀)) (sym (take-rows b 0 r.held n piece-within))
      ∙ ap (λ x. hold z (pair_in ls₀) (take x (rows_from b 0 n))) e
      ∙ before-end z (pair_in ls₀) (rows_from b 0 n)
      ∙ ap (λ x. whole x (held_from z b n ls₀).state) (sym e)

-- the bytes of the rows before it, and their number
pub front-rows : {n : ℕ} (b : List ℕ) (h : ℕ) → n ≡ length b / 8 → h ≤ n → length (take (8 * h) b) / 8 ≡ h
front-rows b h e le =
    let long : length (take (8 * h) b) ≡ 8 * h = length-take-le (8 * h) b (omega arith) in omega (arith, long)

module _ {z : Sizes} {b : List ℕ} {n m : ℕ} {ls₀ ls₁ : List (List ℕ)} {r : Told} (k : Holds z b n m ls₀ ls₁ r)
    (all : n ≡ length b / 8) where
  front-again : held_from z (take (8 * r.held) b) (length (take (8 * r.held) b) / 8) ls₀
      ≡ held_from z b r.held ls₀
  front-again =
      let le = piece-within k in
      ap (λ n. held_from z (take (8 * r.held) b) n ls₀) (front-rows b r.held all le)
      ∙ ap (hold z (pair_in ls₀)) (rows-taken b r.held (omega arith))

  pub piece-again : 10 < r.answer → {ls : List (List ℕ)} {r' : Told}
      → Holds z (take (8 * r.held) b) (length (take (8 * r.held) b) / 8) m ls₀ ls r'
      → HoldsPiece z b n m ls₀ ls r
  piece-again high {r' = r'} k' =
      let same = front-again ∙ again k in
      let none : r'.answer ≡ 0 = ap (λ (t : Told). t.answer) (k'.told ∙ ap (λ (h : Holding). h.told) same) in
      record {
        told = k.told;
        state = k'.state (omega (arith, none)) ∙ ap (λ (h : Holding). h.state) same;
        late = k.late;
        whole = λ e. absurd (omega arith);
        place = λ e. absurd (omega arith);
      }
