-- How long a line is. A number has at most 10 digits, and that of a node, which is below 100, at most 2. So the root's
-- line is at most 34 bytes, a node's 19 and the queue's 39.
use Rattle.lock.proofs.Library.{ℕ, ◌≤◌, ◌<◌, Bool, true, false, Option, none, some, arith, length, length-append}
use Rattle.lock.specs.{declared.Word.Word, Word.is_closed}
use Rattle.lock.specs.{Text.{text, decimal}, Sheet.{closed_field, root_line, word_line, mutex_field, queue_line}}
use Rattle.text.proofs.Decimal.{decimal-length, decimal-short}
use Rattle.lines.proofs.{Shape.{root_is, node-is, queue-is}, Words.not_root}

pub closed-length : (c : Bool) → length (closed_field c) ≤ 8
unfolding text
closed-length true = omega arith
closed-length false = omega arith

pub root-length : (v : Word) → length (root_line v) ≤ 34
unfolding text
root-length v = rw (root_is v) (simp length-append
    (omega (arith, decimal-length v.direct, decimal-length v.tree, closed-length (is_closed v))))

pub node-length : (i : ℕ) (v : Word) → 1 ≤ i → i < 100 → length (word_line i v) ≤ 19
unfolding text
node-length i v from to =
    rw (not_root i v (λ e. omega arith), node-is i v)
    (simp length-append (omega (arith, decimal-short i to, decimal-length v.tree)))

mutex-length : (m : Option ℕ) → length (mutex_field m) ≤ 10
unfolding text decimal
mutex-length none = omega arith
mutex-length (some t) = decimal-length t

pub queue-length : (m : Option ℕ) (n w : ℕ) → length (queue_line m n w) ≤ 39
unfolding text
queue-length m n w =
    rw (queue-is m n w) (simp length-append (omega (arith, mutex-length m, decimal-length n, decimal-length w)))
