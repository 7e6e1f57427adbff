-- The rows not run, from what a run gives.
use Rattle.lock.proofs.Library.{ℕ, zero, suc, ◌≡◌, ◌≢◌, true, List, none, some, arith}
use Rattle.lock.proofs.Choice.{there}
use Rattle.std.specs.Prelude.{if◌then◌else◌}
use Rattle.lock.specs.{Machine.{ResultOf, given_by}, File.{threads_of, stateless}}
use Rattle.pair.specs.File.{tail_as, tail_of}

-- By the refusal n before the first row: a run that has a state leaves the rows after those taken.
pub tail-by : {S E : Type 0} (b : List ℕ) (n : ℕ) (x : ResultOf S E) (s : S) {a k : ℕ} → (n ≢ 0 → stateless n ≡ true)
    → a ≡ (given_by n x).answer → k ≡ (given_by n x).taken → (if stateless a then none else some s) ≡ (given_by n x).state
    → tail_of b a k ≡ tail_as n (given_by n x).taken (threads_of b)
tail-by b zero x s {a} f p q w = rw ((there (stateless a) {x = s} {y = x.state} w).0, q)
tail-by b (suc n) x s f p q w = rw (p, f (λ e. omega arith))
