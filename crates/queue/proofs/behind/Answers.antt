-- Past the end of the ring it goes on at place 0.
use Rattle.lock.proofs.Library.{◌+◌, arith, dec_lt}
use Rattle.cells.proofs.Ring.{placed}
use Rattle.queue.proofs.behind.Goals as goal

pub returns : goal.returns
returns c =
    let a = c.args in
    let p = placed a.first a.n c.requires.0 c.requires.1 in
    elim (dec_lt (a.first + a.n) 64) [
      | yes h ↦ omega (arith, p.near h)
      | no h ↦ omega (arith, p.far (omega arith))
    ]
