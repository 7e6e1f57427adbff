-- The places of the two locks; and who is in a call, by the program counter.
use Rattle.lock.proofs.Library.{ℕ, zero, suc, ◌<◌, ◌≡◌, refl, ◌≢◌, List, arith, leb, le-leb, get_or}
use Rattle.lock.specs.declared.Standing.{Standing}
use Rattle.pair.specs.Pair.{Side, first, second, other, engaged, busy}
use Rattle.cells.specs.View.{pc, node, route, below, seen, state_of}
use Rattle.cells.proofs.{Parts.thread-is, Standings.{standings, stands, late-standing}}
use Rattle.turn.specs.Turn.{place_of}

pub place-lt : (x : Side) → place_of x < 2
place-lt first = omega arith
place-lt second = omega arith

pub apart : (x : Side) → place_of (other x) ≢ place_of x
apart first = λ e. omega arith
apart second = λ e. omega arith

-- from program counter 3 on a thread is in a call, or asleep
pub busy-is : (m : List ℕ) (t : ℕ) → t < 64 → leb 3 (pc m t) ≡ busy (state_of m) t
busy-is m t h = rw (thread-is m t h, stands (pc m t) (node m t) (route m t) (below m t) (seen m t)) (from (pc m t))
  where
    from : (k : ℕ) → leb 3 k ≡ engaged (get_or (standings (route m t)) k Standing.Calling)
    from zero = refl
    from (suc zero) = refl
    from (suc (suc zero)) = refl
    from (suc (suc (suc k))) = late-standing k (λ (s : Standing). leb 3 (suc (suc (suc k))) ≡ engaged s)
        (le-leb 3 (suc (suc (suc k))) (omega arith)) (le-leb 3 (suc (suc (suc k))) (omega arith))
