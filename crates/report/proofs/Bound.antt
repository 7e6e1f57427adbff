-- Every sheet fits 8,192 bytes. The answer's line is at most 32 bytes; the lines of one lock, by those of `lines`
-- and `thread_line`, are at most 34 + 31 × 19 + 39 + 64 × 40 = 3,222 bytes; and all of it is at most 32 + 2 × 3,222 = 6,476.
use Prim.{tt}
use Rattle.lock.proofs.Library.{ℕ, ◌+◌, ◌*◌, ◌≤◌, List, [], ◌∷◌, Option, none, some, arith}
use Rattle.lock.proofs.Library.{length, take, length-append, length-take}
use Rattle.lock.specs.declared.{Word.Word, Sizes.Sizes}
use Rattle.lock.specs.{Queue.groups, State.State, Sheet.{word_line, lines, thread_line, state_lines}}
use Rattle.lock.{specs.File.stateless, proofs.Choice.if-both}
use Rattle.pair.specs.{Pair.Pair, Sheet.sheet_of}
use Rattle.cells.{specs.View.state_of, proofs.Parts.{words_long, threads-long}}
use Rattle.text.proofs.{Shape.answer-length, Lines.{lines_none, lines_more, lines-between}}
use Rattle.lines.proofs.{Words.word-root, Bound.{root-length, node-length, queue-length}}
use Rattle.thread_line.proofs.Line.{thread-length}
use Rattle.report.specs.{declared.Numbers.Numbers, Report.{pair_left, sheet_of_numbers, Bounded, Sized}}
use Rattle.report.proofs.Shape.{state-is, sheet-none, sheet-some}

-- the root's line, and those of the nodes behind it
words-length : (vs : List Word) → length vs ≤ 32 → length (lines word_line 0 vs) ≤ 15 + length vs * 19
words-length [] few = rw (lines_none word_line 0) (omega arith)
words-length (v ∷ vs) few =
    rw (lines_more word_line 0 v vs, word-root v)
    (simp length-append
    (omega (arith, root-length v, lines-between word_line 1 100 19 node-length 1 vs (omega arith) (omega arith))))

-- the lines of a state of at most 32 words and 64 threads
lines_fit : (z : Sizes) (s : State) → Bounded s → length (state_lines z s) ≤ 3222
lines_fit z s bounded =
    let words = take z.nodes s.words in
    let threads = take z.threads s.threads in
    let nodes : length words ≤ 32 = omega (arith, length-take z.nodes s.words, bounded.0) in
    let people : length threads ≤ 64 = omega (arith, length-take z.threads s.threads, bounded.1) in
    rw (state-is z s)
    (simp length-append
    (omega (
      arith,
      nodes,
      people,
      words-length words nodes,
      queue-length s.mutex (groups s.queue) s.queue.waiting,
      lines-between thread_line 0 100 40 thread-length 0 threads (omega arith) (omega (arith, people)),
    )))

-- the sheet of any answer, rows taken and sizes, with no state or with two such
pub sheet-length : (z : Sizes) (n k : ℕ) (s : Option Pair) → Sized s → length (sheet_of z n k s) ≤ 6476
sheet-length z n k none sized = rw (sheet-none z n k) (omega (arith, answer-length n k))
sheet-length z n k (some s) sized =
    rw (sheet-some z n k s)
    (simp length-append
    (omega (arith, answer-length n k, lines_fit z s.one sized.0, lines_fit z s.two sized.1)))

-- the sheet of what a run left in two arrays, whatever their numbers are
bounded : (l : List ℕ) → Bounded (state_of l)
bounded l = (omega (arith, words_long l), omega (arith, threads-long l))

module _ (n : Numbers) (one two : List ℕ) where
  pub sheet-fits : length (sheet_of_numbers n one two) ≤ 6476
  sheet-fits =
      sheet-length n.sizes n.answer n.taken (pair_left n.answer one two)
      (if-both Sized (stateless n.answer) (λ _. tt) (λ _. (bounded one, bounded two)))
