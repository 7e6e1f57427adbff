-- The second array is the part of the journal from `rows` on: a byte set there is set at `rows + i` of the whole.
use Rattle.lock.proofs.Library.{ℕ, ◌+◌, ◌-◌, List, ap, ◌∙◌, le_refl, arith, length, set}
use borrow.Rule.Slice.PartMut.{mid_len, set_mid_at}
use Rattle.journal.proofs.enter.Goals as goal

pub returns : goal.returns
returns c =
    let a = c.args in
    let n = a.rows in
    let i = a.i in
    let put = c.put in
    let j = put.new.array in
    rw c.put-2.ensures
    (set_mid_at n (length j - n) i j a.entry.now.word (omega (arith, mid_len n (length j) j (le_refl _), put.auto))
    ∙ ap (λ (x : List ℕ). set x (n + i) a.entry.now.word) put.ensures)
