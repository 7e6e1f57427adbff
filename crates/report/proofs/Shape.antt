-- The definitions of the sheet, opened by one step, as `lines` proofs/Shape has those of a line; and the lines of a
-- state, by the array's numbers.
use Rattle.lock.proofs.Library.{ℕ, ◌≡◌, refl, sym, true, false, List, ◌++◌, append_assoc, append-nil, Option, none}
use Rattle.lock.proofs.Library.{some, take, get_or}
use Rattle.lock.specs.{declared.Sizes.Sizes, Queue.groups, State.State, File.stateless}
use Rattle.lock.specs.Sheet.{answer_line, word_line, lines, queue_line, thread_line, state_lines}
use Rattle.cells.{specs.{Kept.holder, View.state_of}, proofs.Parts.{mutex-is, waiting-is}}
use Rattle.pair.specs.{Pair.Pair, Sheet.{pair_lines_if, sheet_of}}
use Rattle.lines.{specs.Shown.group_count, proofs.Cells.groups-are}
use Rattle.report.specs.{declared.Numbers.Numbers, Report.sheet_of_numbers}

pub state-is : (z : Sizes) (s : State)
    → state_lines z s ≡ (lines word_line 0 (take z.nodes s.words) ++ queue_line s.mutex
    (groups s.queue) s.queue.waiting) ++ lines thread_line 0 (take z.threads s.threads)
unfolding state_lines
state-is z s = refl

-- the lines of a state: words, queue by its cells, threads
pub cells_are : (z : Sizes) (l : List ℕ)
    → state_lines z (state_of l) ≡ (lines word_line 0 (take z.nodes (state_of l).words)
    ++ queue_line (holder (get_or l 32 0)) (group_count (get_or l 33 0) (get_or l 35 0)) (get_or l 35 0))
    ++ lines thread_line 0 (take z.threads (state_of l).threads)
cells_are z l = rw (← mutex-is l, ← groups-are l, ← waiting-is l) (state-is z (state_of l))

pub sheet-is : (z : Sizes) (n k : ℕ) (s : Option Pair) → sheet_of z n k s ≡ answer_line n k ++ pair_lines_if z s
unfolding sheet_of
sheet-is z n k s = refl

pub sheet-none : (z : Sizes) (n k : ℕ) → sheet_of z n k none ≡ answer_line n k
unfolding sheet_of
sheet-none z n k = append-nil (answer_line n k)

pub sheet-some : (z : Sizes) (n k : ℕ) (s : Pair)
    → sheet_of z n k (some s) ≡ (answer_line n k ++ state_lines z s.one) ++ state_lines z s.two
unfolding sheet_of
sheet-some z n k s = sym (append_assoc (answer_line n k) (state_lines z s.one) (state_lines z s.two))

-- the sheet of what a run left in the locks, by its answer
module _ (n : Numbers) (one two : List ℕ) where
  pub run_short : stateless n.answer ≡ true → sheet_of_numbers n one two ≡ answer_line n.answer n.taken
  run_short e = rw e (sheet-none n.sizes n.answer n.taken)

  pub run-full : stateless n.answer ≡ false
      → sheet_of_numbers n one two ≡ (answer_line n.answer n.taken ++ state_lines n.sizes (state_of one))
      ++ state_lines n.sizes (state_of two)
  run-full e = rw e (sheet-some n.sizes n.answer n.taken (record { one = state_of one; two = state_of two }))
