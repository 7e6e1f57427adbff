-- What the refusal of both files tells.
use Rattle.lock.proofs.{Library.{ℕ, ◌+◌, ◌*◌, ◌≤◌, ◌≡◌, refl, sym, subst, ◌≢◌, true, List, arith, ltb, length}, Choice.if-both}
use Rattle.lock.proofs.{Accepted.{accepted-with, neither, first-both, shape-lt}, Given.no-state}
use Rattle.lock.specs.File.{row_count, sizes_in_range, or_else, file_refusal, journal_refusal, refusal, stateless}
use Rattle.till.specs.Till.{is_till, till_refusal}
use Rattle.credit_model.specs.File.{credit_refusal}

-- files that are not refused: the till is none to refuse, and the schedule with this journal neither
pub accepted-both : (b c : List ℕ) (j : ℕ) → credit_refusal b c j ≡ 0 → (till_refusal c ≡ 0) × (refusal b j ≡ 0)
accepted-both b c j e =
    let h = neither (file_refusal b) _ e in
    let k = neither (till_refusal c) (journal_refusal b j) h.1 in
    (k.0, subst (λ (n : ℕ). or_else n (journal_refusal b j) ≡ 0) (sym h.0) k.1)

-- and the orders begin inside the file, of which the code read that it has n rows
pub orders-inside : (b c : List ℕ) (j : ℕ) {n : ℕ} → credit_refusal b c j ≡ 0 → n ≡ row_count b → 5 + n ≤ length b
orders-inside b c j e rows =
    let a = (accepted-with b j (accepted-both b c j e).1).0 in omega (arith, a.exact)

-- files that are refused leave no state
abbrev Silent : ℕ → Type 0
Silent n = n ≢ 0 → stateless n ≡ true

pub refused_none : (b c : List ℕ) (j : ℕ) → Silent (credit_refusal b c j)
refused_none b c j =
    first-both Silent (file_refusal b) _
    (λ h. no-state (file_refusal b) h (omega (arith, shape-lt (length b) (sizes_in_range b) (row_count b))))
    (first-both Silent (till_refusal c) _ (if-both Silent (is_till c) (λ e h. absurd (h refl)) (λ e h. refl))
    (if-both Silent (ltb j (2 * row_count b)) (λ e h. refl) (λ e h. absurd (h refl))))
