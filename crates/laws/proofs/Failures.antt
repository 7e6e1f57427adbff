-- A thread's failures are at most the rows taken: by demand 3 they are the number of its rows with an entry of kind 3.
use Rattle.laws.proofs.Lock.{ℕ, ◌≤◌, ◌<◌, zero-le, Bool, true, false, List, [], ◌∷◌, le_refl, arith, length}
use Rattle.laws.proofs.Lock.{take, length-take, state-taken, Entry, Sizes, fresh, thread_at, Row, run, InRange}
use Rattle.laws.proofs.Lock.{one, tally, failure}
use Rattle.lock.proofs.Demand.{demand3}

one-le : (b : Bool) → one b ≤ 1
one-le true = le_refl 1
one-le false = zero-le

pub tally-le : (f : Row → Entry → Bool) (rs : List Row) (es : List Entry) → tally f rs es ≤ length rs
tally-le f [] es = zero-le
tally-le f (r ∷ rs) [] = zero-le
tally-le f (r ∷ rs) (e ∷ es) = omega (arith, one-le (f r e), tally-le f rs es)

pub failures-most : (z : Sizes) → InRange z → (rs : List Row) (u : ℕ) → u < z.threads
    → (thread_at (run z fresh rs).state u).failures ≤ (run z fresh rs).taken
failures-most z h rs u l =
    let k = (run z fresh rs).taken in
    let c = rw (state-taken z fresh rs) at ((demand3 z h rs (run z fresh rs).taken (le_refl _)).printed u l) in
    omega (arith, c, tally-le (failure u) (take k rs) (take k (run z fresh rs).entries), length-take k rs)
