-- The lines of the sheet, opened by one step: a definition that is unfolded opens what it is made of too, down to the
-- digits, and an equation leaves its parts shut. A line is what it begins with, and its last field: a label, a number and
-- the line's end.
use Rattle.lock.proofs.Library.{ℕ, ◌≡◌, refl, List, ◌++◌, append_assoc, eq-eqb, ne_eqb, Option, none, some}
use Rattle.lock.specs.{declared.Word.Word, Word.is_closed, Text.{text, decimal}}
use Rattle.lock.specs.Sheet.{closed_field, root_line, node_line, mutex_field, queue_line}
use Rattle.cells.specs.Kept.{holder}
use Rattle.text.proofs.Shape.{last-field}

field-between : (x l n e : List ℕ) → x ++ l ++ n ++ e ≡ (x ++ (l ++ n)) ++ e
field-between x l n e = simp append_assoc

pub root_is : (v : Word)
    → root_line v ≡ (text "root " ++ decimal v.direct ++ (text " " ++ decimal v.tree)) ++ closed_field (is_closed v)
unfolding root_line
root_is v =
    field-between (text "root " ++ decimal v.direct) (text " ") (decimal v.tree) (closed_field (is_closed v))

pub node-is : (i : ℕ) (v : Word)
    → node_line i v ≡ (text "node " ++ decimal i) ++ (text " " ++ decimal v.tree ++ text "\n")
unfolding node_line
node-is i v = last-field (text "node " ++ decimal i) (text " ") (decimal v.tree) (text "\n")

-- the mutex, as a number
pub free-is : (m : ℕ) → m ≡ 64 → holder m ≡ none
free-is m e = rw (eq-eqb m 64 e)

pub held-is : (m : ℕ) → (m ≡ 64 → ⊥) → holder m ≡ some m
held-is m n = rw (ne_eqb m 64 n)

pub holder-is : (t : ℕ) → mutex_field (some t) ≡ decimal t
unfolding text decimal
holder-is t = refl

two_fields : (x l n k m e : List ℕ) → x ++ l ++ n ++ k ++ m ++ e ≡ (x ++ (l ++ n)) ++ (k ++ m ++ e)
two_fields x l n k m e = simp append_assoc

pub queue-is : (m : Option ℕ) (n w : ℕ)
    → queue_line m n w ≡ (text "queue " ++ mutex_field m ++ (text " " ++ decimal n))
    ++ (text " " ++ decimal w ++ text "\n")
unfolding queue_line
queue-is m n w = two_fields (text "queue " ++ mutex_field m) (text " ") (decimal n) (text " ") (decimal w) (text "\n")
