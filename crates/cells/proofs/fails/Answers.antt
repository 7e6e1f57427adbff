-- Column 7, the failures, is stored to; the phase stays.
use Rattle.lock.proofs.Library.{arith}
use Rattle.cells.proofs.Parts.{thread-is}
use Rattle.cells.proofs.Threads.{untouched, stored, thread-put}
use Rattle.cells.proofs.fails.Goals as goal

pub overflow_add-l-2 : goal.overflow_add-l-2
overflow_add-l-2 c =
    record { fits = omega (arith, rw (thread-is c.args.l.now c.args.t c.requires.1) at c.requires.2) }

pub returns : goal.returns
returns c =
    let l = c.args.l.now in
    let t = c.args.t in
    rw (thread-is l t c.requires.1) (thread-put t l _ _ c.requires.0 c.requires.1
    (stored 7 _ (omega arith) (omega arith) c.requires.1 c.requires.0.long (untouched t l)))
