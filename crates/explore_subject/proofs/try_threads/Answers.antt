-- The threads tried so far (proofs/Growing `Threads`).
use Rattle.lock.proofs.Library.{◌∙◌}
use Rattle.explore_subject.proofs.Growing.{tries-more, threads_more}
use Rattle.explore_subject.proofs.try_threads.Goals as goal

pub loop-t-preserved : goal.loop-t-preserved
loop-t-preserved g c = (
  tries-more _ c.requires.1.next.within c.loop-t.invariant.0 c.in_ok-try_orders.ensures.tries threads_more,
  c.try_orders.ensures.same_references ∙ c.loop-t.invariant.1,
)
