-- One run after the other.
use Rattle.text.proofs.Pages.{adds-next}
use Rattle.stored.proofs.put_all.Goals as goal

pub returns : goal.returns
returns c =
    adds-next (adds-next c.put_blank_run.ensures c.put_shorter_run.ensures) c.put_longer_run.ensures
