-- Refusals 1 to 3 of a record.
use Rattle.lock.proofs.Library.{not, ◌&&◌, List, ℕ, ◌-◌, ◌/◌, ◌%◌, ◌≤◌}
use Rattle.lock.proofs.Library.{arith, length, eqb, leb, ltb}
use Rattle.lock.proofs.{Choice.if-both, Accepted.first-both}
use Rattle.lock.specs.{Bound.most_steps, File.{sizes_of, sizes_fit}}
use Rattle.record_model.specs.Record.{head_refusal, length_refusal, record_refusal}

-- No check of its bytes refuses it with more than 3.
pub refusal-most : (b : List ℕ) → record_refusal b ≤ 3
refusal-most b =
    first-both (λ x. x ≤ 3) (head_refusal b) (length_refusal (length b - 3))
    (if-both (λ x. x ≤ 3) (ltb (length b) 3) (λ e. omega arith)
    (λ e. if-both (λ x. x ≤ 3) (not (sizes_fit (sizes_of b))) (λ e. omega arith) (λ e. omega arith)))
    (if-both (λ x. x ≤ 3) (not (eqb ((length b - 3) % 8) 0 && leb ((length b - 3) / 8) most_steps))
    (λ e. omega arith) (λ e. omega arith))
