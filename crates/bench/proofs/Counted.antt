-- The number in the locks that a run left, by what the run promises of the state it left.
use Rattle.lock.proofs.Library.{ℕ, ◌≡◌, refl, sym, ◌∙◌, false, List, arith, take}
use Rattle.lock.specs.{declared.Ran.Ran, Refusal.answer_number, State.thread_at, Demand.tally}
use Rattle.lock.specs.File.{rows_of, row_count, stateless}
use Rattle.lock.specs.Journal.{entries_in}
use Rattle.laws.proofs.Failures.{tally-le}
use Rattle.pair.specs.{Pair.{Side, first, second, lock_of}, Demand.failure_at}
use Rattle.cells.specs.View.{state_of}
use Rattle.turn.specs.Turn.{cells_of, pair_in}
use Rattle.progress.specs.Claimed.{StateClaimed}
use Rattle.bench.specs.{Bench.{sizes_with, BenchesWith}, Failures.{FailuresOf}}

-- the state that a run with a state left
left-claimed : {E : ℕ} {b j₀ j : List ℕ} {ls₀ ls : List (List ℕ)} {r : Ran} → BenchesWith E b j₀ j ls₀ ls r
    → stateless (answer_number r.answer) ≡ false
    → StateClaimed (sizes_with E b) (take r.taken (rows_of b)) (entries_in (row_count b) r.taken j) (pair_in ls)
left-claimed {E} {b} {j₀} {j} {ls₀} {ls} {r} h q =
    let s = rw q at h.state in
    rw h.taken (h.promises.left (pair_in ls) (sym s))

pub failures-are : (x : Side) (t : ℕ) (ls : List (List ℕ)) (n : ℕ)
    → n ≡ (thread_at (state_of (cells_of x ls)) t).failures → FailuresOf x t ls n
failures-are x t ls n e =
    record {
      printed = is;
      left = λ E b j₀ j ls₀ r h q lt.
          let c = (left-claimed h q).counted x in
          let m : n ≡ tally (failure_at x t) (take r.taken (rows_of b)) (entries_in (row_count b) r.taken j) =
          is ∙ c.printed t lt in
          record {
            counted = m;
            few = omega (
              arith,
              m,
              tally-le (failure_at x t) (take r.taken (rows_of b))
                  (entries_in (row_count b) r.taken j),
            );
            summed = omega (arith, m, c.summed t lt);
          };
    }
  where
    at : (x : Side) → lock_of x (pair_in ls) ≡ state_of (cells_of x ls)
    at first = refl
    at second = refl

    is : n ≡ (thread_at (lock_of x (pair_in ls)) t).failures
    is = rw (at x) e
