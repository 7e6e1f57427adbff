-- Rows for the first lock alone: the run of the pair is that of the single lock, and the second stays fresh. So what
-- was shown of files without orders above 128 stays as it was.
use Rattle.lock.proofs.Library.{ℕ, ◌≤◌, ◌≡◌, refl, ap, ◌∙◌, Bool, true, false, not, List, none, suc_inj, dec_lt, arith}
use Rattle.lock.proofs.{Library.{eqb, ltb, length, ne_eqb, le-ltb}, Choice.and-false, Machine.by_rows}
use Rattle.std.specs.Prelude.{if◌then◌else◌}
use Rattle.laws.proofs.Lock.{Sizes, decode, obey, refuse, State, fresh, Outcome, taken, refused, perform}
use Rattle.laws.proofs.Lock.{row_op, step, All, Row, after, runs}
use Rattle.lock.specs.Run as lock
use Rattle.pair.specs.{Pair.{first, side_of, own_row, turned, turn, run}, Single.{beside, note_first, as_pair, Low}}
use Rattle.pair.specs.Single.{Single}
use Rattle.pair.proofs.Apart.{by_side, idle-fresh}

low-side : (l : State) (r : Row) → Low r → side_of (beside l) r ≡ first
low-side l r h = rw (idle-fresh r.thread, le-ltb 128 r.order h) (same (eqb r.order 0))
  where
    same : (b : Bool) → (if b then first else first) ≡ first
    same true = refl
    same false = refl

low-row : (r : Row) → Low r → own_row r ≡ r
low-row r h = rw (le-ltb 128 r.order h)

pub single-turn : (z : Sizes) (l : State) (r : Row) → Low r
    → turn z (beside l) r ≡ turned (beside l) first false (step z l r)
single-turn z l r h =
    by_side z (beside l) r first false
    (low-side l r h) (rw (idle-fresh r.thread) (and-false (not (eqb r.order 0))))
    ∙ ap (λ (x : Row). turned (beside l) first false (step z l x)) (low-row r h)

from-any : (z : Sizes) (l : State) (rs : List Row) → All Low rs → run z (beside l) rs ≡ as_pair (lock.run z l rs)
unfolding run runs lock.run
from-any z =
    by_rows (step z) (λ l rs x. All Low rs → run z (beside l) rs ≡ as_pair x) (λ l a. refl)
    (λ l r rs n q a. rw (single-turn z l r a.0, q))
    (λ l r rs l' e q k a. rw (single-turn z l r a.0, q) (ap (after (note_first e)) (k a.1)))

pub single : Single
single z rs a = from-any z fresh rs a

-- ---- rows that a single lock takes are such rows

-- an order from 128 on is none
pub low-order : (z : Sizes) (o : ℕ) → 128 ≤ o → decode z o ≡ none
low-order z o h =
    rw (
      ne_eqb o 0 (λ e. omega arith),
      ne_eqb o 1 (λ e. omega arith),
      ne_eqb o 2 (λ e. omega arith),
      ne_eqb o 3 (λ e. omega arith),
      ne_eqb o 4 (λ e. omega arith),
      le-ltb o 64 (omega arith),
      le-ltb o 96 (omega arith),
      le-ltb o 128 h,
    )

abbrev IsRefused : Outcome → Type 0
IsRefused (taken s e) = ⊥
IsRefused (refused n) = Unit {0}

high-refused : (z : Sizes) (s : State) (r : Row) → 128 ≤ r.order → IsRefused (step z s r)
unfolding step row_op obey perform
high-refused z s r h = rw (low-order z r.order h) (from (ltb r.thread z.threads))
  where
    from : (b : Bool) → IsRefused (perform z s r.thread (if b then refuse 6 else refuse 5))
    from true = tt
    from false = tt

pub taken-low : (z : Sizes) (s : State) (rs : List Row) → (lock.run z s rs).taken ≡ length rs → All Low rs
unfolding lock.run runs
taken-low z =
    by_rows (step z) (λ s rs x. x.taken ≡ length rs → All Low rs) (λ s a. tt)
    (λ s r rs n q a. absurd (omega arith))
    (λ s r rs s' e q k a. (
      elim (dec_lt r.order 128) [
        | yes l ↦ omega arith
        | no l ↦ absurd (rw q at (high-refused z s r (omega arith)))
      ],
      k (suc_inj a),
    ))
