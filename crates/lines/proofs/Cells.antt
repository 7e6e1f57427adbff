-- What a line shows of the array, cell by cell.
use Rattle.lock.proofs.Library.{ℕ, ◌<◌, min, ◌≡◌, ap, List, arith, length, get_or, take, drop}
use Rattle.lock.specs.{Word.opened, Queue.groups, Sheet.word_line}
use Rattle.cells.specs.View.{word_of, state_of}
use Rattle.cells.proofs.{Tables.at, Ring.ring_long, Parts.words_long}
use Rattle.lines.specs.Shown.{group_count}

-- the line of a word goes by its cell
pub word-shown : (l : List ℕ) (i : ℕ) → i < length (state_of l).words
    → word_line i (get_or (state_of l).words i (opened 0 0)) ≡ word_line i (word_of (get_or l i 0))
unfolding state_of
word-shown l i h = ap (word_line i) (at (λ (w : ℕ). word_of (get_or l w 0)) 32 i (opened 0 0) (omega (arith, words_long l)))

-- the groups that wait, by two cells
pub groups-are : (l : List ℕ) → groups (state_of l).queue ≡ group_count (get_or l 33 0) (get_or l 35 0)
unfolding state_of
groups-are l = rw (ring_long (take 64 (drop 64 l)) (get_or l 34 0) (min (get_or l 35 0) 64))
