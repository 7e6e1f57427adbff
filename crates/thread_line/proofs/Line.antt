-- The line of a thread, opened by one step, as `lines` proofs/Shape has the others; and how long it is: the number of a
-- thread, which is below 100, has at most 2 digits, so that it is at most 40 bytes.
use Rattle.lock.proofs.Library.{ℕ, ◌≤◌, ◌<◌, ◌≡◌, ◌++◌, arith, length, length-append}
use Rattle.lock.specs.{declared.{Standing.Standing, Thread.Thread}, Phase.standing, Text.{text, decimal}}
use Rattle.lock.specs.Sheet.{standing_fields, thread_line}
use Rattle.text.proofs.{Shape.last-field, Decimal.{decimal-length, decimal-short}}

pub thread-is : (t : ℕ) (h : Thread)
    → thread_line t h ≡ (text "thread " ++ decimal t ++ standing_fields (standing h.phase))
    ++ (text " " ++ decimal h.failures ++ text "\n")
unfolding thread_line
thread-is t h =
    last-field (text "thread " ++ decimal t ++ standing_fields (standing h.phase))
    (text " ") (decimal h.failures) (text "\n")

standing-length : (p : Standing) → length (standing_fields p) ≤ 19
unfolding standing_fields
standing-length Standing.Idle = omega arith
standing-length (Standing.Reading n) = omega (arith, decimal-length n)
standing-length Standing.Writing = omega arith
standing-length Standing.Calling = omega arith
standing-length Standing.Asleep = omega arith

pub thread-length : (t : ℕ) (h : Thread) → 0 ≤ t → t < 100 → length (thread_line t h) ≤ 40
unfolding text
thread-length t h from to =
    rw (thread-is t h)
    (simp length-append
    (omega (arith, decimal-short t to, standing-length (standing h.phase), decimal-length h.failures)))
