-- The invariant is `Sofar`; each way through the body is one of its laws (proofs/Loop).
use Rattle.lock.proofs.Library.{arith}
use Rattle.record_hold.proofs.Loop.{row-bytes, begun, may-turn, stop, more, finish}
use Rattle.record_hold.proofs.hold_rows.Goals as goal

pub loop-i-init : goal.loop-i-init
loop-i-init c = begun _ _ _ _ _ c.requires.0

pub hold_row-requires : goal.hold_row-requires
hold_row-requires c = may-turn c.loop-i.invariant c.requires.1 (omega arith)

pub returns-in-Err : goal.returns-in-Err
returns-in-Err c =
    stop c.loop-i.invariant (omega arith) (omega arith) (row-bytes _ _ _ _ c.as_chunks.ensures.front (omega arith))
    c.in-Err.ensures

pub loop-i-preserved : goal.loop-i-preserved
loop-i-preserved c =
    more c.loop-i.invariant (omega arith) (omega arith) (row-bytes _ _ _ _ c.as_chunks.ensures.front (omega arith))
    c.in_default.ensures

pub returns : goal.returns
returns c = finish c.loop-i.invariant (omega arith) _ c.as_chunks.ensures.front_len
