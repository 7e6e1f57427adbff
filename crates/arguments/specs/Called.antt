-- What a function that keeps a state, and is called with what arguments name, may come to.
use Rattle.std.specs.Prelude.{ℕ, ◌≤◌, List, length, Result, Err}
use Rattle.std.specs.List.{FoldsTo}
use denote.Ref.{Bor}

-- a call for a file, with any name and any bytes that fit, may answer r and take the state p to q
abbrev pub OfFile : {F R : Type 0} → ℕ → (F → Bor (List ℕ) → Bor (List ℕ) → R → F → Type 0) → F → R → F → Type 0
OfFile room step p r q = (a b : Bor (List ℕ)) × (length a.now ≤ 4096) × (length b.now ≤ room) × step p a b r q

-- a call for two files, with any text for both names and any bytes of both that fit
abbrev pub OfPair : {F R : Type 0} → ℕ → ℕ → (F → Bor (List ℕ) → Bor (List ℕ) → Bor (List ℕ) → R → F → Type 0)
    → F → R → F → Type 0
OfPair first second step p r q =
    (a b c : Bor (List ℕ)) × (length a.now ≤ 8193) × (length b.now ≤ first) × (length c.now ≤ second) × step p a b c r q

-- calls may take the state f to p, one behind another
abbrev pub ComesTo : {F R : Type 0} → (F → R → F → Type 0) → F → F → Type 0
ComesTo {F} {R} call f p = (answers : List R) × FoldsTo call f answers p

-- and the next may answer with an error
abbrev pub ComesToFail : {F T E : Type 0} → (F → Result T E → F → Type 0) → F → Type 0
ComesToFail {F} {T} {E} call f = (p q : F) × (e : E) × ComesTo call f p × call p (Err e) q
