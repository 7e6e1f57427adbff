-- The loop over a record's rows: i of them are held, and the rest comes after them. Each way through the loop is one
-- law.
use Rattle.lock.proofs.Library.{◌≡◌, refl, sym, ap, subst, ◌∙◌, List, ℕ, zero, suc, ◌+◌, ◌-◌, ◌*◌, ◌<◌, ◌≤◌}
use Rattle.lock.proofs.Library.{add-zero, add-suc, sub-zero, arith, get_or, length, take, drop, drop-drop}
use native.Mathlib.Numerals.{add-one}
use Rattle.std.specs.Simd.{first_chunks}
use Rattle.std.specs.Prelude.{Result, Ok, Err}
use Rattle.lock.specs.{Bound.{most_steps, steps_before}, declared.Sizes.Sizes}
use Rattle.pair.specs.Pair.{turn}
use Rattle.turn.{specs.Turn.{pair_in, Place}, proofs.Both.place-within}
use Rattle.record_model.specs.Record.{Holding, ended, after, held_by, hold, recorded_at, rows_from}
use Rattle.record_model.specs.{declared.Reason.Reason, Told.{no_effect, told_with, told_of}}
use Rattle.record_model.proofs.{Pieces.{after_none, after-after}, File.recorded-chunk}
use Rattle.record_hold.proofs.Row.{reason-there}
use Rattle.record_hold.specs.Holds.{going, HoldsRow, Holds}

-- the bytes of row i, of k rows
chunk-at : (k i : ℕ) (b d : List ℕ) → i < k → get_or (first_chunks 8 k b) i d ≡ take 8 (drop (8 * i) b)
chunk-at zero i b d h = absurd (omega arith)
chunk-at (suc k) zero b d h = refl
chunk-at (suc k) (suc i) b d h =
    chunk-at k i (drop 8 b) d (omega arith) ∙ ap (take 8) (drop-drop (8 * i) 8 b ∙ ap (λ n. drop n b) (omega arith))

pub row-bytes : (k i : ℕ) (b d : List ℕ) {rows : List (List ℕ)} → rows ≡ first_chunks 8 k b → i < k
    → get_or rows i d ≡ take 8 (drop (8 * i) b)
row-bytes k i b d e h = ap (λ rows. get_or rows i d) e ∙ chunk-at k i b d h

-- ---- the invariant

pub record Sofar (z : Sizes) (b : List ℕ) (n m : ℕ) (ls₀ ls : List (List ℕ)) (i : ℕ) : Type 0 where
  pub place : Place z ls (m + i)
  pub within : i ≤ n
  pub rest : hold z (pair_in ls₀) (rows_from b 0 n) ≡ after i (hold z (pair_in ls) (rows_from b i (n - i)))

pub begun : (z : Sizes) (b : List ℕ) (n m : ℕ) (ls : List (List ℕ)) → Place z ls m → Sofar z b n m ls ls 0
begun z b n m ls p = record {
  place = subst (λ x. Place z ls x) (sym (add-zero m)) p;
  within = omega arith;
  rest = sym (after_none _ ∙ ap (λ x. hold z (pair_in ls) (rows_from b 0 x)) (sub-zero n));
}

module _ {z : Sizes} {b : List ℕ} {n m : ℕ} {ls₀ ls : List (List ℕ)} {i : ℕ} (h : Sofar z b n m ls₀ ls i) where
  -- ends the rows: what came of the rest is what came of all
  told-by : (x : Holding) → hold z (pair_in ls) (rows_from b i (n - i)) ≡ x
      → hold z (pair_in ls₀) (rows_from b 0 n) ≡ after i x
  told-by x e = h.rest ∙ ap (after i) e

  none_left : n ≤ i → hold z (pair_in ls) (rows_from b i (n - i)) ≡ ended 0 (pair_in ls)
  unfolding hold rows_from
  none_left e = let x : n - i ≡ 0 = omega arith in ap (λ y. hold z (pair_in ls) (rows_from b i y)) x

  pub finish : n ≤ i → (k : ℕ) → k ≡ n → Holds z b n m ls₀ ls (told_with 0 k no_effect)
  finish e k all-rows =
      let all = told-by _ (none_left e) in
      let here : i ≡ n = omega (arith, h.within) in
      record {
        told = rw (all, add-zero i) (ap (λ x. told_with 0 x no_effect) (all-rows ∙ sym here));
        state = λ _. rw all;
        late = λ ne. absurd (ne refl);
        whole = λ _. all-rows;
        place = λ _. subst (λ x. Place z ls (m + x)) here h.place;
      }

  pub may-turn : m + n ≤ most_steps → i < n → Place z ls steps_before
  may-turn f lt = place-within (omega arith) h.place

  -- row i was made, and compared
  module _ (lt : i < n) (fits : 8 * n ≤ length b) {ls' : List (List ℕ)} {row : List ℕ}
      (is : row ≡ take 8 (drop (8 * i) b)) {r : Result (Unit {0}) Reason} (k : HoldsRow z row ls ls' r) where
    at-row : recorded_at row 0 ≡ recorded_at b i
    at-row = ap (λ x. recorded_at x 0) is ∙ recorded-chunk b i (omega arith)

    next : hold z (pair_in ls) (rows_from b i (n - i))
        ≡ going r (pair_in ls) (hold z (pair_in ls') (rows_from b (suc i) (n - suc i)))
    unfolding hold rows_from
    next =
        let x : n - i ≡ suc (n - suc i) = omega arith in
        ap (λ y. hold z (pair_in ls) (rows_from b i y)) x
        ∙ ap (λ d. held_by (pair_in ls) d (λ s. hold z s (rows_from b (suc i) (n - suc i))) (turn z (pair_in ls) d.row))
        (sym at-row)
        ∙ k.row (λ s. hold z s (rows_from b (suc i) (n - suc i)))

  module _ (lt : i < n) (fits : 8 * n ≤ length b) {ls' : List (List ℕ)} {row : List ℕ}
      (is : row ≡ take 8 (drop (8 * i) b)) where
    pub more : {u : Unit {0}} → HoldsRow z row ls ls' (Ok u) → Sofar z b n m ls₀ ls' (i + 1)
    more k = subst (λ x. Sofar z b n m ls₀ ls' x) (sym (add-one i)) (record {
      place = subst (λ x. Place z ls' x) (sym (add-suc m i)) (k.place (m + i) h.place);
      within = omega arith;
      rest = told-by _ (next lt fits is k) ∙ after-after i 1 _
          ∙ ap (λ x. after x (hold z (pair_in ls') (rows_from b (suc i) (n - suc i)))) (add-one i);
    })

    pub stop : {x : Reason} → HoldsRow z row ls ls' (Err x)
        → Holds z b n m ls₀ ls' (told_of (Err (record { held = i; reason = x })))
    stop {x} k =
        let all = told-by _ (next lt fits is k) in
        let ne = reason-there x in
        record {
          told = rw (all, add-zero i);
          state = λ low. k.state ne low ∙ rw all;
          late = λ _. k.late ne;
          whole = λ e. absurd (ne e);
          place = λ e. absurd (ne e);
        }
