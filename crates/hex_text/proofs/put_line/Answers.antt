-- Label, bytes and newline, one after the other.
use Rattle.lock.specs.Text.{text}
use Rattle.text.proofs.Pages.{fits-one, fits-two, fits-three, adds-three}
use Rattle.hex_text.proofs.Lines.{line-is}
use Rattle.hex_text.proofs.put_line.Goals as goal

pub put_text-requires : goal.put_text-requires
put_text-requires c = fits-one _ _ (line-is _ _) c.requires

pub put_bytes-requires : goal.put_bytes-requires
put_bytes-requires c = fits-two c.put_text.ensures _ (line-is _ _) c.requires

pub put-requires : goal.put-requires
unfolding text
put-requires c = fits-three c.put_text.ensures c.put_bytes.ensures (line-is _ _) c.requires

pub returns : goal.returns
unfolding text
returns c = adds-three c.put_text.ensures c.put_bytes.ensures (line-is _ _) c.put.ensures
