-- The sheet stands at the front of its buffer, and is copied from there with the four bytes behind it (proofs/Asked).
use Rattle.lock.specs.Text.{text}
use Rattle.stored.proofs.Asked.{asked-for, buffer-end, fits-sheet, fits-behind, adds-sheet}
use Rattle.stored.proofs.put_sheet.Goals as goal

pub slice_bounds-put_line-end-2 : goal.slice_bounds-put_line-end-2
slice_bounds-put_line-end-2 c =
    buffer-end (asked-for c.sheet_if.result c.unwrap_or-len.ensures c.sheet_if.ensures.sheeted)

pub put_line-requires : goal.put_line-requires
unfolding text
put_line-requires c =
    fits-behind (asked-for c.sheet_if.result c.unwrap_or-len.ensures c.sheet_if.ensures.sheeted) c.put_text.ensures c.requires

pub returns : goal.returns
unfolding text
returns c =
    let s = asked-for c.sheet_if.result c.unwrap_or-len.ensures c.sheet_if.ensures.sheeted in
    (adds-sheet s c.put_text.ensures c.put_line.ensures, s.journal)

pub put_text-requires : goal.put_text-requires
put_text-requires c =
    fits-sheet (asked-for c.sheet_if.result c.unwrap_or-len.ensures c.sheet_if.ensures.sheeted) c.requires
