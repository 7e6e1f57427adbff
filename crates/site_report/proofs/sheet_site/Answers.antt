-- The answer's line, and the others where the site was run; together they are the sheet.
use Rattle.std.proofs.lemmas.Result.{err_from_is_err_and}
use Rattle.lock.proofs.Library.{rules}
use Rattle.text.proofs.Pages.{fits-front, fits-next, adds-next, whole}
use Rattle.text.proofs.Asking.{asked-refused, asked-place, asked-sheet, asked-as}
use Rattle.site_report.proofs.Sheet.{answer-fits, full-fits, short-is, full_is, ended-is, threads-few, sheets}
use Rattle.site_report.proofs.sheet_site.Goals as goal

pub returns-in_err-check_room-clause-sheeted : goal.returns-in_err-check_room-clause-sheeted
returns-in_err-check_room-clause-sheeted c =
    let p = err_from_is_err_and c.from_residual.result c.from_residual.ensures.1 in
    rw p.1 (sheets (asked-refused _ c.check_room.ensures.0 c.check_room.ensures.1 c.in_err-check_room.was))

pub put_answer-requires : goal.put_answer-requires
put_answer-requires c =
    fits-front c.new-page.ensures.bytes c.new-page.ensures.front
    (asked-place _ c.check_room.ensures.0 c.in_ok-check_room.was (answer-fits _ _))

pub put_answer-requires-in-Ok : goal.put_answer-requires-in-Ok
put_answer-requires-in-Ok c =
    fits-front c.new-page.ensures.bytes c.new-page.ensures.front
    (asked-place _ c.check_room.ensures.0 c.in_ok-check_room.was (answer-fits _ _))

pub put_site-requires : goal.put_site-requires
put_site-requires c =
    let few = threads-few c.in-Ok.ensures c.sizes_of.ensures in (
      few,
      ended-is c.in-Ok.ensures,
      fits-next c.put_answer-in-Ok.ensures
          (fits-front c.new-page.ensures.bytes c.new-page.ensures.front
          (asked-place _ c.check_room.ensures.0 c.in_ok-check_room.was (full-fits _ _ _ few))),
    )

pub returns-in-Err-clause-sheeted : goal.returns-in-Err-clause-sheeted
returns-in-Err-clause-sheeted c =
    sheets (asked-as (short-is c.in-Err.ensures)
    (asked-sheet _ c.check_room.ensures.0 c.in_ok-check_room.was
    (whole c.new-page.ensures.bytes c.new-page.ensures.front c.put_answer.ensures (search rules))))

pub returns-in-Ok-clause-sheeted : goal.returns-in-Ok-clause-sheeted
returns-in-Ok-clause-sheeted c =
    sheets (asked-as (full_is c.in-Ok.ensures c.sizes_of.ensures)
    (asked-sheet _ c.check_room.ensures.0 c.in_ok-check_room.was
    (whole c.new-page.ensures.bytes c.new-page.ensures.front
    (adds-next c.put_answer-in-Ok.ensures c.put_site.ensures) (search rules))))
