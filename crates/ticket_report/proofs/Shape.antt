-- The definitions of the sheet, opened by one step, and bounded: every sheet has at most 32 + 18 + 17 + 64 × 26 = 1,731
-- bytes.
use Rattle.lock.proofs.Library.{ℕ, ◌≤◌, ◌≡◌, refl, Bool, true, false, ◌++◌, append-nil, Option, none, some, arith}
use Rattle.lock.proofs.Library.{length, take, length-append, length-take}
use Rattle.lock.specs.Refusal.{answer_number}
use Rattle.lock.specs.{File.stateless, Text.{text, decimal}, Sheet.{answer_line, lines}}
use Rattle.text.proofs.{Decimal.decimal-length, Shape.answer-length, Lines.lines-length}
use Rattle.ticket_model.specs.declared.{Standing.{Standing, TheVariants.{Idle, Waiting, Holding}}, Thread.Thread}
use Rattle.ticket_model.specs.{declared.Lock.Lock, Sheet.{is_far, distance, standing_field, thread_line, ticket_line}}
use Rattle.ticket_model.specs.Sheet.{grant_line, state_lines, state_lines_if, sheet_of}
use Rattle.ticket_lock.specs.declared.Ran.{Ran}
use Rattle.ticket_report.specs.Report.{sheet_of_run}

pub thread-is : (g t : ℕ) (h : Thread)
    → thread_line g t h ≡ (text "thread " ++ decimal t) ++ standing_field g h.own h.standing
unfolding thread_line
thread-is g t h = refl

-- the two numbers as fields that end their lines, then the threads
pub state-two : (T : ℕ) (s : Lock)
    → state_lines T s ≡ ((text "ticket " ++ decimal s.ticket ++ text "\n")
    ++ (text "grant " ++ decimal s.grant ++ text "\n")) ++ lines (thread_line s.grant) 0 (take T s.threads)
unfolding state_lines ticket_line grant_line
state-two T s = refl

pub sheet-is : (T n k : ℕ) (s : Option Lock) → sheet_of T n k s ≡ answer_line n k ++ state_lines_if T s
unfolding sheet_of
sheet-is T n k s = refl

sheet-none : (T n k : ℕ) → sheet_of T n k none ≡ answer_line n k
unfolding sheet_of
sheet-none T n k = append-nil (answer_line n k)

sheet-some : (T n k : ℕ) (s : Lock) → sheet_of T n k (some s) ≡ answer_line n k ++ state_lines T s
unfolding sheet_of
sheet-some T n k s = refl

-- the sheet of what a run left, by its answer
pub run_short : (r : Ran) → stateless (answer_number r.answer) ≡ true → sheet_of_run r ≡ answer_line (answer_number r.answer) r.taken
run_short r e = rw e (sheet-none r.threads (answer_number r.answer) r.taken)

pub run-full : (r : Ran) → stateless (answer_number r.answer) ≡ false
    → sheet_of_run r ≡ answer_line (answer_number r.answer) r.taken ++ state_lines r.threads r.lock
run-full r e = rw e (sheet-some r.threads (answer_number r.answer) r.taken r.lock)

-- ---- lengths

distance-length : (b : Bool) → length (distance b) ≤ 6
unfolding text
distance-length true = omega arith
distance-length false = omega arith

standing-length : (g own : ℕ) (p : Standing) → length (standing_field g own p) ≤ 9
unfolding text
standing-length g own Idle = omega arith
standing-length g own Waiting = omega (arith, distance-length (is_far own g))
standing-length g own Holding = omega arith

thread-length : (g t : ℕ) (h : Thread) → length (thread_line g t h) ≤ 26
unfolding text
thread-length g t h = rw (thread-is g t h)
    (simp length-append (omega (arith, decimal-length t, standing-length g h.own h.standing)))

state-length : (T : ℕ) (s : Lock) → length s.threads ≤ 64 → length (state_lines T s) ≤ 1699
unfolding text
state-length T s long =
    rw (state-two T s)
    (simp length-append
    (omega (
      arith,
      decimal-length s.ticket,
      decimal-length s.grant,
      lines-length (thread_line s.grant) 26 (thread-length s.grant) 0 (take T s.threads),
      length-take T s.threads,
    )))

-- the sheet of what a run left, whatever its numbers are
pub sheet-fits : (r : Ran) → length r.lock.threads ≡ 64 → length (sheet_of_run r) ≤ 1731
sheet-fits r long = by (stateless (answer_number r.answer)) refl
  where
    by : (b : Bool) → stateless (answer_number r.answer) ≡ b → length (sheet_of_run r) ≤ 1731
    by true e = rw (run_short r e) (omega (arith, answer-length (answer_number r.answer) r.taken))
    by false e = rw (run-full r e) (simp length-append
        (omega (arith, answer-length (answer_number r.answer) r.taken, state-length r.threads r.lock (omega arith))))
