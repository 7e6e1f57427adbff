-- The buffer keeps its length, and `run` is in a state that calls led to.
use Rattle.std.proofs.Common.{◌≡◌, length}
use Rattle.arguments.specs.Called.{OfFile, ComesTo}
use Rattle.arguments.proofs.run_files.Given as goal

abbrev pub invariant-loop-i : goal.invariant-loop-i
invariant-loop-i g l = record {
  callable : goal.F-IsAlwaysCallable g l.run;
  same : length l.file ≡ length l.initial.file;
  called : ComesTo (OfFile (length l.initial.file) (goal.F-step g)) l.initial.run l.run;
}
