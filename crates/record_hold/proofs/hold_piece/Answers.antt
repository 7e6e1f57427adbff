-- Each way out is one law of proofs/Piece.
use Rattle.lock.proofs.Library.{refl, sym, ◌*◌, arith, length-take-le, ltb-true}
use Rattle.record_hold.proofs.Piece.{piece-within, piece-again}
use Rattle.record_hold.proofs.hold_piece.Goals as goal

pub returns-then-differs : goal.returns-then-differs
returns-then-differs c =
    piece-again c.in-Err.ensures refl (grind (arith, ltb-true)) c.hold_rows.ensures

pub slice_bounds-hold_rows-end : goal.slice_bounds-hold_rows-end
slice_bounds-hold_rows-end c =
    let w = piece-within c.in-Err.ensures in
    sym (length-take-le (8 * c.in-Err.not_held.held) c.args.piece.now (omega (arith, w)))

pub overflow_mul-not_held : goal.overflow_mul-not_held
overflow_mul-not_held c = let w = piece-within c.in-Err.ensures in omega (arith, w)
