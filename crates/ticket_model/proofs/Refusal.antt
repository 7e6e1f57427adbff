-- A ticket file that is not refused, and one longer than any good one; the refusals of rows are 5 to 7.
use Rattle.lock.proofs.Library.{◌≡◌, Bool, true, ◌&&◌, List, ℕ, ◌+◌, ◌*◌, ◌≤◌, ◌<◌, arith, length, get_or, take}
use Rattle.lock.proofs.Library.{get_or-take, length-take-le, leb, ltb, leb-true}
use Rattle.lock.specs.{Machine.{Row, taken, refused, OfRow, RefusedAsRow, Finished}, File.{within, shape_refusal}}
use Rattle.lock.proofs.{Choice.if-both, Accepted.{both, within-true, shape_is, shape-long}}
use Rattle.lock.proofs.Machine.{Any, Keeps, kept, finished}
use Rattle.ticket_model.specs.{Machine.{Lock, Made, thread_at}, Run.{Outcome, outcome, step, run}}
use Rattle.ticket_model.specs.File.{thread_count, row_count, sizes_in_range, refusal}
use Rattle.ticket_model.proofs.Threads.{obey-both}

-- ---- the file

-- the shape that was checked, of the threads T and the rows S that were read: v is what was tested of them
pub shape_of : (b : List ℕ) {T S : ℕ} (v : Bool) → T ≡ thread_count b → S ≡ row_count b → v
    ≡ (within 1 64 T && leb S 4096)
    → shape_refusal (length b) v S ≡ refusal b
shape_of b v p q h = rw (h, p, q)

pub record Accepted (b : List ℕ) : Type 0 where
  pub exact : length b ≡ 5 + 2 * row_count b
  pub threads : thread_count b ≤ 64

pub accepted-is : (b : List ℕ) → refusal b ≡ 0 → Accepted b
accepted-is b e =
    let (fits, exact) = shape_is (length b) (sizes_in_range b) (row_count b) e in
    let t = both (within 1 64 (thread_count b)) (leb (row_count b) 4096) fits in
    record { exact = exact; threads = (within-true 1 64 (thread_count b) t.0).1 }

-- The first 8,198 bytes of a longer file are refused as all of it is: a program need read no more.
pub long-file : (b : List ℕ) → 8198 ≤ length b → refusal (take 8198 b) ≡ refusal b
long-file b h =
    rw (length-take-le 8198 b h, byte 0 (omega arith), byte 1 (omega arith), byte 2 (omega arith))
    (shape-long (length b) (sizes_in_range b) (row_count b) h few)
  where
    byte : (i : ℕ) → i < 8198 → get_or (take 8198 b) i 0 ≡ get_or b i 0
    byte i l = get_or-take 8198 b i 0 l

    few : sizes_in_range b ≡ true → row_count b ≤ 4096
    few e = leb-true (row_count b) 4096 (both (within 1 64 (thread_count b)) (leb (row_count b) 4096) e).1

-- ---- the rows

step-late : (T : ℕ) (s : Lock) (r : Row) → RefusedAsRow (step T s r)
unfolding step
step-late T s r =
    if-both RefusedAsRow (ltb r.thread T)
    (λ e. obey-both (λ (x : Made). RefusedAsRow (outcome s r.thread x)) s.ticket s.grant
    (thread_at s r.thread) (λ _. tt) (λ _. tt) (λ _. tt) (omega arith) (omega arith) r.order)
    (λ e. omega arith)

-- "0 means all rows were taken"; else a row was refused
pub run-finished : (T : ℕ) (s : Lock) (rs : List Row) → Finished rs (run T s rs)
unfolding run
run-finished T s rs =
    finished Any Any OfRow (λ n h. h)
    (kept Any Any OfRow (step T) (λ s r _. keeps (step T s r) (step-late T s r)) s rs tt).ends
  where
    keeps : (o : Outcome) → RefusedAsRow o → Keeps Any Any OfRow o
    keeps (taken s e) h = (tt, tt)
    keeps (refused n) h = h
