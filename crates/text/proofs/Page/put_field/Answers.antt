-- Label, then number.
use Rattle.text.proofs.Pages.{adding}
use Rattle.text.proofs.Page.put_field.Goals as goal

pub returns : goal.returns
returns c =
    search adding
