-- The buffers keep their lengths, and `run` is in a state that calls led to.
use Rattle.std.proofs.Common.{◌≡◌, length}
use Rattle.arguments.specs.Called.{OfPair, ComesTo}
use Rattle.arguments.proofs.run_pairs.Given as goal

abbrev pub invariant-loop-i : goal.invariant-loop-i
invariant-loop-i g l = record {
  callable : goal.F-IsAlwaysCallable g l.run;
  same : (length l.first ≡ length l.initial.first) × (length l.second ≡ length l.initial.second);
  called : ComesTo (OfPair (length l.initial.first) (length l.initial.second) (goal.F-step g)) l.initial.run l.run;
}
