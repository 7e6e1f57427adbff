-- A call is one more, whatever it answers.
use Rattle.std.proofs.Common.{rules, of_calls}
use Rattle.std.proofs.lemmas.Fn.{FoldsTo-push}
use Rattle.arguments.proofs.run_pairs.Goals as goal

pub loop-i-preserved : goal.loop-i-preserved
loop-i-preserved g c = record {
  callable = search of_calls;
  same = (search rules, search rules);
  called = (_, FoldsTo-push _ _ _ _ _ _ c.loop-i.invariant.called.1 (_, _, _, search rules, search rules, search rules, c.run-written.ensures));
}
