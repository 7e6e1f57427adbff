-- Where there is room all runs fit it (proofs/Outcome).
use Rattle.lock.proofs.Library.{◌≡◌, false, length, sym, ◌∙◌, rules}
use Rattle.text.proofs.Pages.{fits-front, whole}
use Rattle.stored.specs.Stored.{no_room}
use Rattle.stored.proofs.Outcome.{room-all, stored}
use Rattle.stored.proofs.put_runs.Goals as goal

pub put_all-requires : goal.put_all-requires
put_all-requires c =
    let roomy : let a = c.args in
    no_room (length a.name.now) (length a.buf.now) ≡ false = sym c.no_room.ensures ∙ c.if-no_room.false in
    let rows = c.journal_rows-rows.ensures in
    (fits-front c.new-page.ensures.bytes c.new-page.ensures.front (room-all _ _ _ _ _ _ rows.0 rows.1 roomy), rows.1)

pub returns : goal.returns
returns c =
    let roomy : let a = c.args in
    no_room (length a.name.now) (length a.buf.now) ≡ false = sym c.no_room.ensures ∙ c.if-no_room.false in
    let rows = c.journal_rows-rows.ensures in
    stored _ _ _ _ _ _ rows.0 rows.1 roomy
    (whole c.new-page.ensures.bytes c.new-page.ensures.front c.put_all.ensures (search rules))
