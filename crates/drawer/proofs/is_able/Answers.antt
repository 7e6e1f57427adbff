-- The bit of the set; of threads from 64 on there is none.
use Rattle.lock.proofs.Library.{sym, ap, ℕ, ◌^◌, ◌<◌, eqb, arith}
use Rattle.dispatch_model.proofs.Round.{bit-of, no-bit}
use Rattle.drawer.proofs.is_able.Goals as goal

pub returns-then-t-ge64 : goal.returns-then-t-ge64
returns-then-t-ge64 c =
    let a = c.args in
    let fits : a.able < 2 ^ 64 = omega arith in
    sym (ap (λ (x : ℕ). eqb x 1) (no-bit a.able a.t fits c.if-t-ge64.true))

pub returns : goal.returns
returns c =
    let a = c.args in ap (λ (x : ℕ). eqb x 1) (bit-of a.able a.t)
