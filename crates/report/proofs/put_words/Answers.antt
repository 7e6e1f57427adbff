-- After i lines those of the first i words are written; the loop ends at n, or at 32 where n is more.
use Rattle.lock.proofs.Library.{refl, arith, rules}
use Rattle.lock.specs.Sheet.{word_line}
use Rattle.cells.proofs.Parts.{words_long}
use Rattle.text.proofs.Pages.{let-go}
use Rattle.text.proofs.Lines.{room-shown, more-shown, least-none, least-all}
use Rattle.lines.proofs.Cells.{word-shown}
use Rattle.report.proofs.put_words.Goals as goal

pub loop-i-init : goal.loop-i-init
loop-i-init c = least-none word_line c.args.n _ (omega (arith, words_long c.args.l.now)) (record { fits = c.requires.fits })

pub put_word-requires : goal.put_word-requires
put_word-requires c = room-shown word_line c.loop-i.invariant _ c.loop-i-test.true (word-shown _)

pub loop-i-preserved : goal.loop-i-preserved
loop-i-preserved c =
    more-shown word_line c.loop-i.invariant _ c.loop-i-test.true (word-shown _) c.put_word.ensures

pub returns : goal.returns
returns c =
    let all = least-all word_line c.args.n _ (omega (arith, words_long c.args.l.now)) c.loop-i.invariant c.loop-i-test.false in
    record { same = refl; wrote = let-go all (search rules) }
