-- After i bytes of the text those are pasted into the buffer.
use Rattle.lock.proofs.Library.{arith, length-set, paste-suc}
use native.Mathlib.Numerals.{add-one}
use Rattle.text.proofs.Page.put_text.Goals as goal

pub loop-i-preserved : goal.loop-i-preserved
loop-i-preserved c =
    let a = c.args in
    let l = c.loop-i in (
      omega arith,
      simp length-set l.invariant.1,
      rw (add-one, l.invariant.2)
          (paste-suc a.self.now.buf.now a.self.now.at a.text.now l.i 0 (omega arith) (omega arith)),
    )
