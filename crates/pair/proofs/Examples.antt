-- The runs of two locks and the examples of files hold of the definitions: each by computing.
use Rattle.lock.proofs.Library.{◌≡◌, refl, replicate}
use Rattle.laws.proofs.Lock.{standing, runs, step, lines, worked_lines, worked_journal}
use Rattle.lock.specs.Examples as lock
use Rattle.pair.specs.{Pair.run, File.{bench, journal_after}, Sheet.sheet, Examples.{examples, AllEnd, AllBenched}}
use Rattle.lock.specs.Examples.{every_entries, every_lines}
use Rattle.pair.specs.Examples.{inputs, AllAnswered, worked, worked_sheet, every_file, every_sheet, every_journal}

pub all_end : AllEnd examples
unfolding AllEnd examples run runs step standing
all_end = refl

-- P1 to P12 of document 01, as files of the bench
pub all-benched : AllBenched lock.examples
unfolding AllBenched lock.examples bench step standing
all-benched = refl

pub all-answered : AllAnswered inputs
unfolding AllAnswered inputs bench step standing
all-answered = refl

-- P5's sheet and journal, byte for byte; the journal's buffer is full of another byte before
pub worked-sheet : sheet worked 12 ≡ worked_sheet
unfolding sheet worked worked_sheet worked_lines lines step standing
worked-sheet = refl

pub worked-journal : journal_after worked (replicate 12 0xEE) ≡ worked_journal
unfolding journal_after worked worked_journal step standing
worked-journal = refl

-- every kind of entry but a booking's, and every field of the sheet
pub every-sheet : sheet every_file 150 ≡ every_sheet
unfolding sheet every_file every_sheet every_lines lines step standing
every-sheet = refl

pub every-journal : journal_after every_file (replicate 150 0xEE) ≡ every_journal
unfolding journal_after every_file every_journal every_entries step standing
every-journal = refl
