-- The entries that went into a journal are those that are read back.
use Rattle.lock.proofs.Library.{◌≡◌, refl, ap, ◌∙◌, List, [], ◌∷◌, ◌++◌, ℕ, zero, suc, ◌+◌, ◌≤◌, arith, length, take}
use Rattle.lock.proofs.Library.{drop, length-append, length-drop, length-map, take-append-le, drop_at, length-take-le}
use Rattle.lock.specs.{declared.Entry.Entry, Journal.{kinds, words, over, journal_bytes, entries_of, entries_in}}

entries-back : (es : List Entry) (i : ℕ) → entries_of (take i (kinds es)) (take i (words es)) ≡ take i es
entries-back es zero = refl
entries-back [] (suc i) = refl
entries-back (e ∷ es) (suc i) = ap (λ (l : List Entry). e ∷ l) (entries-back es i)

-- the first i bytes, where at least i were replaced
over-take : (xs b : List ℕ) (i : ℕ) → i ≤ length xs → take i (over xs b) ≡ take i xs
over-take xs b i h = take-append-le i xs _ h

pub bytes-entries : (S i : ℕ) (es : List Entry) (j : List ℕ)
    → i ≤ length es → length es ≤ S → S + S ≤ length j → entries_in S i (journal_bytes S es j) ≡ take i es
bytes-entries S i es j h le room =
    let A = over (kinds es) (take S j) in
    let B = over (words es) (drop S j) in
    let kl : length (kinds es) ≡ length es = length-map es _ in
    let wl : length (words es) ≡ length es = length-map es _ in
    let tl : length (take S j) ≡ S = length-take-le S j (omega arith) in
    let al : length A ≡ S = simp (length-append, length-drop) (omega arith) in
    let front : take i (A ++ B) ≡ take i (kinds es) =
    take-append-le i A B (omega arith) ∙ over-take (kinds es) _ i (omega arith) in
    let back : take i (drop S (A ++ B)) ≡ take i (words es) =
    ap (take i) (drop_at A B S al) ∙ over-take (words es) _ i (omega arith) in
    rw (front, back) (entries-back es i)
