-- What the line of a thread shows of the array, cell by cell.
use Rattle.lock.proofs.Library.{ℕ, ◌+◌, ◌<◌, ◌≡◌, ◌∙◌, List, arith, length, get_or}
use Rattle.lock.specs.{declared.Standing.Standing, State.{fresh_thread, thread_at}, Sheet.thread_line}
use Rattle.cells.specs.View.{thread_of, state_of}
use Rattle.cells.proofs.{Standings.{stands, calling-at, asleep-at}, Tables.at, Parts.threads-long}
use Rattle.thread_line.specs.Shown.{shown, shown_line}

pub thread-cell : (l : List ℕ) (t : ℕ) → t < length (state_of l).threads
    → get_or (state_of l).threads t fresh_thread ≡ thread_of l t
unfolding state_of
thread-cell l t h = at (thread_of l) 64 t fresh_thread (omega (arith, threads-long l))

-- ---- the standing by the program counter

pub shown-idle : (pc n : ℕ) → pc ≡ 0 → shown pc n ≡ Standing.Idle
shown-idle pc n e = stands pc 0 n 0 0 ∙ rw e

pub shown-writing : (pc n : ℕ) → pc ≡ 1 → shown pc n ≡ Standing.Writing
shown-writing pc n e = stands pc 0 n 0 0 ∙ rw e

pub shown-reading : (pc n : ℕ) → pc ≡ 2 → shown pc n ≡ Standing.Reading n
shown-reading pc n e = stands pc 0 n 0 0 ∙ rw e

pub shown-calling : (pc n : ℕ) → (pc ≡ 0 → ⊥) → (pc ≡ 1 → ⊥) → (pc ≡ 2 → ⊥) → (pc ≡ 49 → ⊥)
    → shown pc n ≡ Standing.Calling
shown-calling pc n i w r h = calling-at pc 0 n 0 0 i w r h

pub shown-asleep : (pc n : ℕ) → pc ≡ 49 → shown pc n ≡ Standing.Asleep
shown-asleep pc n h = asleep-at pc 0 n 0 0 h

-- the line of a thread goes by two of its cells and its failures
pub thread-shown : (l : List ℕ) (t : ℕ) → t < length (state_of l).threads
    → thread_line t (get_or (state_of l).threads t fresh_thread)
    ≡ shown_line t (get_or l (128 + t) 0) (get_or l (256 + t) 0) (thread_at (state_of l) t).failures
unfolding thread_line
thread-shown l t h =
    let pc = get_or l (128 + t) 0 in
    let n = get_or l (256 + t) 0 in
    rw
    (thread-cell l t h, stands pc (get_or l (192 + t) 0) n (get_or l (320 + t) 0) (get_or l (384 + t) 0), stands pc 0 n 0 0)
