-- Each claim of the rows by its theorem; those of the state that rows left follow.
use Rattle.lock.proofs.Library.{ℕ, ◌≡◌, subst, List, take}
use Rattle.lock.specs.{declared.Entry.Entry, declared.Sizes.Sizes, Machine.Row, File.InRange}
use Rattle.pair.specs.{Pair.{Side, Pair, fresh_pair, run}, Calls.OneCall, Demand.CountedAt, Locking.LocksAt}
use Rattle.pair.proofs.{Apart.separate, Calls.one-call, Locking.locking-pair}
use Rattle.progress.specs.Claimed.{RowsClaimed, StateClaimed}
use Rattle.progress.proofs.{Progress.progress-pair-each, LockOrder.ordered}

module _ (z : Sizes) (range : InRange z) (rs : List Row) where
  pub rows-claimed : RowsClaimed z rs
  rows-claimed =
      record {
        locking = λ x. locking-pair z range x rs;
        progress = λ x. progress-pair-each z range x rs;
        ordered = λ x. ordered z range x rs;
        apart = λ x. separate z x rs;
        one_call = λ i. one-call z (take i rs);
      }

  -- of the state s after the first k rows
  pub state-claimed : (k : ℕ) (es : List Entry) {s : Pair} → (run z fresh_pair (take k rs)).state ≡ s
      → ((x : Side) → CountedAt z x (take k rs) es (run z fresh_pair (take k rs)).state)
      → StateClaimed z (take k rs) es s
  state-claimed k es left counted =
      record {
        counted = λ x. subst (CountedAt z x (take k rs) es) left (counted x);
        locks = λ x. subst (LocksAt z x) left ((locking-pair z range x rs).each k);
        one_call = subst OneCall left (one-call z (take k rs));
      }
