-- What a site file has that none of refusals 1 to 3 applies to.
use Rattle.lock.proofs.Library.{ℕ, ◌+◌, ◌*◌, ◌≤◌, ◌≡◌, List, length, leb}
use Rattle.lock.proofs.Library.{not-false, leb-true, eqb, ltb, eqb-true, ltb-false, not}
use Rattle.lock.proofs.Accepted.{past, both, sizes-in-range}
use Rattle.lock.specs.File.{InRange, sizes_of, sizes_fit}
use Rattle.site_model.specs.File.{row_count, sizes_in_range, shape_refusal}

module _ (b : List ℕ) (turns : ℕ) where
  -- what an accepted file has
  pub record Accepted : Type 0 where
    pub exact : length b ≡ 11 + 2 * row_count b
    pub range : InRange (sizes_of b)
    pub few : row_count b ≤ 4096
    pub turns_few : turns ≤ 4294967294

  pub accepted : shape_refusal b turns ≡ 0 → Accepted
  accepted e =
      let h₁ = past (ltb (length b) 11) 0 e in
      let h₂ = past (not (sizes_in_range b)) 1 h₁.1 in
      let h₃ = past (not (eqb (length b) (11 + 2 * row_count b))) 2 h₂.1 in
      let h₄ = past (ltb 4294967294 turns) 2 h₃.1 in
      let a = both (sizes_fit (sizes_of b)) (leb (row_count b) 4096) (not-false (sizes_in_range b) h₂.0) in
      record {
        exact = eqb-true (length b) (11 + 2 * row_count b) (not-false _ h₃.0);
        range = sizes-in-range b a.0;
        few = leb-true (row_count b) 4096 a.1;
        turns_few = ltb-false 4294967294 turns h₄.0;
      }
