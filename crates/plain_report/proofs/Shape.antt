-- The definitions of the plain sheet, opened by one step; what it shows of the lock, cell by cell; and its bound: a
-- root line of at most 27 bytes, a queue line of at most 39 and 64 thread lines of at most 30, with the answer line at
-- most 2,018.
use Rattle.lock.proofs.Library.{ℕ, zero, suc, ◌+◌, ◌≤◌, ◌<◌, ◌≡◌, refl, sym, ap, ap₂, ◌∙◌, Bool, true, false, List}
use Rattle.lock.proofs.Library.{◌++◌, append-nil, Option, none, arith, length, get_or, take, length-append, length-take}
use Rattle.lock.specs.Sheet.{answer_line, closed_field, queue_line, standing_fields, lines}
use Rattle.lock.specs.Refusal.{answer_number}
use Rattle.lock.{specs.declared.Sizes.Sizes, specs.declared.Ran.Ran, specs.declared.Word.Word}
use Rattle.lock.{specs.declared.Thread.Thread, specs.declared.Standing.Standing, specs.State.fresh_thread}
use Rattle.lock.{specs.Phase.standing, specs.Queue.groups, specs.File.stateless, specs.Text.text, specs.Text.decimal}
use Rattle.cells.specs.View.{word_of, phase_of, thread_of, state_of}
use Rattle.cells.proofs.Standings.{standings, stands, unless-reading}
use Rattle.cells.{specs.Kept.holder, proofs.Parts.word-is, proofs.Parts.waiting-is, proofs.Parts.threads-long}
use Rattle.text.{proofs.Decimal.decimal-length, proofs.Shape.answer-length, proofs.Lines.lines-length}
use Rattle.lines.proofs.Bound.{closed-length, queue-length}
use Rattle.lines.{specs.Shown.group_count, proofs.Cells.groups-are}
use Rattle.thread_line.proofs.Cells.{thread-cell}
use Rattle.plain_model.specs.Sheet.{plain_standing, plain_thread_line, plain_root_line, plain_lines, plain_sheet_of}
use Rattle.plain_model.{specs.declared.Root.Root, specs.Root.is_shut, specs.Plain.Plain}
use Rattle.plain_calls.specs.View.{root_of, plain_of}
use Rattle.plain_report.specs.Report.{shown, shown_line, some_lines, sheet_of_run}

-- ---- opened by one step

pub root_is : (v : Root) → plain_root_line v ≡ (text "root " ++ decimal v.count) ++ closed_field (is_shut v)
unfolding plain_root_line
root_is v = refl

pub thread-is : (t : ℕ) (h : Thread)
    → plain_thread_line t h ≡ (text "thread " ++ decimal t) ++ plain_standing (standing h.phase)
unfolding plain_thread_line
thread-is t h = refl

lines_are : (z : Sizes) (p : Plain) → some_lines z p ≡ (plain_root_line p.root ++ queue_line none
    (groups p.queue) p.queue.waiting) ++ lines plain_thread_line 0 (take z.threads p.threads)
unfolding plain_root_line queue_line lines plain_thread_line
lines_are z p = refl

pub sheet-is : (z : Sizes) (n k : ℕ) (s : Option Plain) → plain_sheet_of z n k s ≡ answer_line n k ++ plain_lines z s
unfolding plain_sheet_of
sheet-is z n k s = refl

module _ (r : Ran) (l : List ℕ) where
  pub run_short : stateless (answer_number r.answer) ≡ true → sheet_of_run r l ≡ answer_line (answer_number r.answer) r.taken
  unfolding plain_sheet_of
  run_short e = rw e (append-nil (answer_line (answer_number r.answer) r.taken))

  pub run-full : stateless (answer_number r.answer) ≡ false
      → sheet_of_run r l ≡ answer_line (answer_number r.answer) r.taken ++ some_lines r.sizes (plain_of (state_of l))
  unfolding plain_sheet_of
  run-full e = rw e

-- ---- cell by cell

standing_by : (pc c n b v : ℕ) → plain_standing (standing (phase_of pc c n b v)) ≡ plain_standing (shown pc)
unfolding plain_standing
standing_by pc c n b v = rw (stands pc c n b v, stands pc 0 0 0 0) (from pc)
  where
    from : (pc : ℕ) → plain_standing (get_or (standings n) pc Standing.Calling)
        ≡ plain_standing (get_or (standings 0) pc Standing.Calling)
    from zero = refl
    from (suc zero) = refl
    from (suc (suc zero)) = refl
    from (suc (suc (suc k))) = refl

-- but for a reader's ticket it is the tree's, and no failures behind it
pub standing-as : (pc : ℕ) → (pc ≡ 2 → ⊥) → plain_standing (shown pc) ≡ standing_fields (shown pc) ++ text " 0\n"
unfolding text plain_standing standing_fields
standing-as pc h =
    unless-reading 0 0 0 0
    (λ (s : Standing). plain_standing s ≡ standing_fields s ++ text " 0\n") pc h refl refl refl refl

-- the line of a thread goes by its program counter
pub thread-shown : (l : List ℕ) (t : ℕ) → t < length (state_of l).threads
    → plain_thread_line t (get_or (state_of l).threads t fresh_thread) ≡ shown_line t (get_or l (128 + t) 0)
thread-shown l t h =
    ap (plain_thread_line t) (thread-cell l t h) ∙ thread-is t (thread_of l t)
    ∙ ap (λ (x : List ℕ). (text "thread " ++ decimal t) ++ x)
    (standing_by (get_or l (128 + t) 0)
    (get_or l (192 + t) 0) (get_or l (256 + t) 0) (get_or l (320 + t) 0) (get_or l (384 + t) 0))
    ∙ sym (thread-is t (record { phase = phase_of (get_or l (128 + t) 0) 0 0 0 0; failures = 0 }))

pub cells_are : (z : Sizes) (l : List ℕ)
    → some_lines z (plain_of (state_of l))
    ≡ (plain_root_line (root_of (word_of (get_or l 0 0))) ++ queue_line (holder 64) (group_count (get_or l 33 0) (get_or l 35 0))
    (get_or l 35 0)) ++ lines plain_thread_line 0 (take z.threads (state_of l).threads)
cells_are z l =
    lines_are z (plain_of (state_of l))
    ∙ ap (λ (v : Word). (plain_root_line (root_of v)
    ++ queue_line none (groups (state_of l).queue) (state_of l).queue.waiting) ++ threads) (word-is l 0 (omega arith))
    ∙ ap₂ (λ (n w : ℕ). (plain_root_line (root_of (word_of (get_or l 0 0))) ++ queue_line none n w) ++ threads)
    (groups-are l) (waiting-is l)
  where
    threads : List ℕ
    threads = lines plain_thread_line 0 (take z.threads (state_of l).threads)

-- ---- the bound

standing-length : (x : Standing) → length (plain_standing x) ≤ 13
unfolding plain_standing
standing-length Standing.Idle = omega arith
standing-length (Standing.Reading k) = omega arith
standing-length Standing.Writing = omega arith
standing-length Standing.Calling = omega arith
standing-length Standing.Asleep = omega arith

root-length : (v : Root) → length (plain_root_line v) ≤ 27
unfolding text
root-length v = rw (root_is v) (simp length-append (omega (arith, decimal-length v.count, closed-length (is_shut v))))

thread-length : (t : ℕ) (h : Thread) → length (plain_thread_line t h) ≤ 30
unfolding text
thread-length t h =
    rw (thread-is t h) (simp length-append (omega (arith, decimal-length t, standing-length (standing h.phase))))

lines_fit : (z : Sizes) (l : List ℕ) → length (some_lines z (plain_of (state_of l))) ≤ 1986
lines_fit z l =
    rw (lines_are z (plain_of (state_of l)))
    (simp length-append
    (omega (
      arith,
      root-length (plain_of (state_of l)).root,
      queue-length none (groups (state_of l).queue) (state_of l).queue.waiting,
      lines-length plain_thread_line 30 thread-length 0 (take z.threads (state_of l).threads),
      length-take z.threads (state_of l).threads,
      threads-long l,
    )))

pub sheet-fits : (r : Ran) (l : List ℕ) → length (sheet_of_run r l) ≤ 2018
sheet-fits r l = from (stateless (answer_number r.answer)) refl
  where
    from : (b : Bool) → stateless (answer_number r.answer) ≡ b → length (sheet_of_run r l) ≤ 2018
    from true e = rw (run_short r l e) (omega (arith, answer-length (answer_number r.answer) r.taken))
    from false e = rw (run-full r l e)
        (simp length-append (omega (arith, answer-length (answer_number r.answer) r.taken, lines_fit r.sizes l)))
