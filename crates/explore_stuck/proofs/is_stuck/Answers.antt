-- The threads tried so far: no row of theirs changed anything (proofs/Blocking).
use Rattle.lock.proofs.Library.{arith}
use Rattle.lock.proofs.Choice.{clash}
use Rattle.explore_subject.proofs.Growing.{threads-all}
use Rattle.explore_stuck.proofs.Blocking.{stays-weaker, all-stuck}
use Rattle.explore_stuck.proofs.is_stuck.Goals as goal

pub returns : goal.returns
returns c = record {
  yes = λ e. all-stuck c.requires.1 (stays-weaker c.loop-t.invariant (threads-all (omega (arith, c.loop-t-test.false))));
  no = λ e. clash cc;
}
