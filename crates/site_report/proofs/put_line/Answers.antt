-- The name, the numbers, the newline.
use Rattle.text.proofs.Pages.{adding}
use Rattle.site_report.proofs.put_line.Goals as goal

pub returns : goal.returns
returns c =
    search adding
