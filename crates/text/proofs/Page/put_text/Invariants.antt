-- After i bytes of the text those are pasted into the buffer.
use Rattle.lock.proofs.Library.{◌≤◌, ◌≡◌, length, paste}
use Rattle.text.proofs.Page.put_text.Given as goal

abbrev pub invariant-loop-i : goal.invariant-loop-i
invariant-loop-i l =
    (l.i ≤ length l.text) × (length l.buf ≡ length l.initial.buf)
    × (l.buf ≡ paste l.initial.buf l.start l.text l.i)
