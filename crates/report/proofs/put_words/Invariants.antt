-- After i lines those of the first i words are written; the loop ends at n, or at 32 where n is more.
use Rattle.lock.specs.Sheet.{word_line}
use Rattle.cells.specs.View.{state_of}
use Rattle.text.proofs.Lines.{Sofar}
use Rattle.report.proofs.put_words.Given as goal

abbrev pub invariant-loop-i : goal.invariant-loop-i
invariant-loop-i l = Sofar word_line l.initial.own l.end (state_of l.l).words l.own l.i
