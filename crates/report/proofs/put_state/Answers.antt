-- Words, queue and threads, one after the other.
use Rattle.text.proofs.Pages.{fits-one, fits-two, fits-three, adds-three}
use Rattle.report.proofs.Shape.{cells_are}
use Rattle.report.proofs.put_state.Goals as goal

pub put_words-requires : goal.put_words-requires
put_words-requires c = fits-one _ _ (cells_are _ _) c.requires

pub put_queue-requires : goal.put_queue-requires
put_queue-requires c = fits-two c.put_words.ensures _ (cells_are _ _) c.requires

pub put_threads-requires : goal.put_threads-requires
put_threads-requires c = fits-three c.put_words.ensures c.put_queue.ensures (cells_are _ _) c.requires

pub returns : goal.returns
returns c =
    adds-three c.put_words.ensures c.put_queue.ensures (cells_are _ _) c.put_threads.ensures
