-- Who holds the lock holds it until it unlocks.
use Rattle.laws.proofs.Lock.{ℕ, refl, sym, subst, ◌≢◌, List, if-both, row-leads, counts_as, state_at, row_at}
use Rattle.laws.proofs.Lock.{Holder, HoldsOn, Group, is_writer, call_begun, Phase, Sizes, Order, State, fresh}
use Rattle.laws.proofs.Lock.{holding, Row, InRange}
use Rattle.laws.proofs.Seen.{reads, writes, counted}
use Rattle.laws.proofs.Orders.{Starts}
use Rattle.laws.proofs.Staying.{Stays, phase-stays}
use Rattle.laws.proofs.Stage.{inv_at}

-- of a call that begins, but an unlock, the thread was no holder or stays one
starts-holds : {z : Sizes} {o : ℕ} {w : Order} {p p' : Phase} → Starts z o w p p' → o ≢ 2 → Holder p → Holder p'
unfolding counts_as
starts-holds (Starts.writes e) u h = absurd (h refl)
starts-holds (Starts.reads n e l) u h = absurd (h refl)
starts-holds (Starts.leaves e) u h = absurd (u e)
starts-holds (Starts.departs k e) u h = absurd (u e)
starts-holds (Starts.unlocks e) u h = absurd (u e)
starts-holds (Starts.upgrades e) u h = reads
starts-holds (Starts.trades k e) u h = reads
starts-holds (Starts.lowers e) u h = writes

holding-holds : (g : Group) → Holder (holding g)
unfolding counts_as
holding-holds g = if-both Holder (is_writer g) (λ e. writes) (λ e. reads)

pub holds_on : (z : Sizes) → InRange z → (rs : List Row) → HoldsOn z rs
holds_on z range rs t i l n h =
    subst (Stays Holder holding-holds t) (row-leads z fresh rs i _ call_begun l)
    (phase-stays Holder holding-holds z s (row_at z rs i) t (inv_at z range rs i) (λ q k. (counted _).keeps k z s (row_at z rs i).thread)
    (λ q k w p' d c. starts-holds c (n (sym q)) k) h)
  where
    s : State
    s = state_at z rs i
