-- Pieces of a record compose: rs ++ rs' is held as rs' is from where rs ended, if all of rs was held, and else as rs.
-- And the rows before the one that ended it are held, and lead to the state before it.
use Rattle.lock.proofs.Library.{◌≡◌, refl, sym, ap, ◌∙◌, List, [], ◌∷◌, ◌++◌, ℕ, zero, suc, ◌+◌, ◌≤◌, ◌<◌, arith, take}
use Rattle.lock.proofs.{Library.{length, eqb, eqb-true, eqb-false}, Choice.by-test}
use Rattle.lock.specs.declared.{Entry.Entry, Sizes.Sizes}
use Rattle.lock.specs.Machine.{OutcomeOf, taken, refused}
use Rattle.pair.specs.Pair.{Pair, Note, written, turn}
use Rattle.record_model.specs.Record.{Holding, Recorded, hold, held_by, judged, difference, value_in, after, ended}
use Rattle.record_model.specs.Pieces.{joined, PiecesCompose}

-- ---- rows held before

pub after_none : (h : Holding) → after 0 h ≡ h
after_none h = let e : 0 + h.told.held ≡ h.told.held = omega arith in rw e

pub after-after : (m n : ℕ) (h : Holding) → after m (after n h) ≡ after (m + n) h
after-after m n h = let e : m + (n + h.told.held) ≡ m + n + h.told.held = omega arith in rw e

-- the value of the row's word after the row, and the difference of the row r
abbrev pub value_of : Pair → Note → ℕ
value_of s' m = value_in s' (written m).word

abbrev pub told-apart : Recorded → Pair → Note → ℕ
told-apart r s' m = difference r.kind r.word r.value (written m).kind (written m).word (value_of s' m)

-- ---- two pieces

module _ (r : Recorded) (n : ℕ) where
  -- of the rest of the rows f, with n rows, and of the rest g of both pieces
  all-judged : (d : ℕ) (s : Pair) (e : Entry) (v : ℕ) (f g : Holding) (k : Pair → Holding)
      → (f.told.held ≡ n → g ≡ after n (k f.state)) → (judged d s e v f).told.held ≡ suc n
      → judged d s e v g ≡ after (suc n) (k (judged d s e v f).state)
  all-judged zero s e v f g k h q =
      ap (after 1) (h (omega arith)) ∙ after-after 1 n (k f.state) ∙ ap (λ m. after m (k f.state)) (omega arith)
  all-judged (suc d) s e v f g k h q = absurd (omega arith)

  all_held : (s : Pair) (f g : Pair → Holding) (k : Pair → Holding)
      → ((s' : Pair) → (f s').told.held ≡ n → g s' ≡ after n (k (f s').state))
      → (o : OutcomeOf Pair Note) → (held_by s r f o).told.held ≡ suc n
      → held_by s r g o ≡ after (suc n) (k (held_by s r f o).state)
  all_held s f g k h (taken s' m) q =
      all-judged (told-apart r s' m) s (written m) (value_of s' m) (f s') (g s') k (h s') q
  all_held s f g k h (refused a) q = absurd (omega arith)

  part-judged : (d : ℕ) (s : Pair) (e : Entry) (v : ℕ) (f g : Holding)
      → (f.told.held < n → g ≡ f) → (judged d s e v f).told.held < suc n → judged d s e v g ≡ judged d s e v f
  part-judged zero s e v f g h q = ap (after 1) (h (omega arith))
  part-judged (suc d) s e v f g h q = refl

  part_held : (s : Pair) (f g : Pair → Holding) → ((s' : Pair) → (f s').told.held < n → g s' ≡ f s')
      → (o : OutcomeOf Pair Note) → (held_by s r f o).told.held < suc n → held_by s r g o ≡ held_by s r f o
  part_held s f g h (taken s' m) q = part-judged (told-apart r s' m) s (written m) (value_of s' m) (f s') (g s') (h s') q
  part_held s f g h (refused a) q = refl

module _ (z : Sizes) (rs' : List Recorded) where
  -- all of rs was held: rs' is held from where it ended
  pub piece-held : (s : Pair) (rs : List Recorded) → (hold z s rs).told.held ≡ length rs
      → hold z s (rs ++ rs') ≡ after (length rs) (hold z (hold z s rs).state rs')
  unfolding hold
  piece-held s [] q = sym (after_none (hold z s rs'))
  piece-held s (r ∷ rs) q =
      all_held r (length rs) s (λ s'. hold z s' rs) (λ s'. hold z s' (rs ++ rs')) (λ s'. hold z s' rs')
      (λ s'. piece-held s' rs) (turn z s r.row) q

  -- else what ended rs ended both
  pub piece-ended : (s : Pair) (rs : List Recorded) → (hold z s rs).told.held < length rs
      → hold z s (rs ++ rs') ≡ hold z s rs
  unfolding hold
  piece-ended s [] q = absurd (omega arith)
  piece-ended s (r ∷ rs) q =
      part_held r (length rs) s (λ s'. hold z s' rs) (λ s'. hold z s' (rs ++ rs'))
      (λ s'. piece-ended s' rs) (turn z s r.row) q

-- ---- the rows before the one that ended it

-- n rows were held, and all of them
abbrev pub whole : ℕ → Pair → Holding
whole n s = after n (ended 0 s)

module _ (z : Sizes) where
  abbrev Cut : Pair → Recorded → List Recorded → Holding → Type 0
  Cut s r rs h = hold z s (take h.told.held (r ∷ rs)) ≡ whole h.told.held h.state

  -- the row r was taken, with the note m, and judged by d
  before-judged : (s : Pair) (r : Recorded) (rs : List Recorded) (s' : Pair) (m : Note) → turn z s r.row ≡ taken s' m
      → hold z s' (take (hold z s' rs).told.held rs) ≡ whole (hold z s' rs).told.held (hold z s' rs).state
      → (d : ℕ) → told-apart r s' m ≡ d → Cut s r rs (judged d s (written m) (value_of s' m) (hold z s' rs))
  unfolding hold
  before-judged s r rs s' m q h zero e =
      let k = (hold z s' rs).told.held in
      let one : 1 + k ≡ suc k = omega arith in
      ap (λ n. hold z s (take n (r ∷ rs))) one ∙ ap (held_by s r (λ s''. hold z s'' (take k rs))) q
      ∙ ap (λ n. judged n s (written m) (value_of s' m) (hold z s' (take k rs))) e
      ∙ ap (after 1) h ∙ after-after 1 k (ended 0 (hold z s' rs).state)
  before-judged s r rs s' m q h (suc d) e = refl

  before-held : (s : Pair) (r : Recorded) (rs : List Recorded)
      → ((s' : Pair) → hold z s' (take (hold z s' rs).told.held rs)
      ≡ whole (hold z s' rs).told.held (hold z s' rs).state)
      → (o : OutcomeOf Pair Note) → turn z s r.row ≡ o → Cut s r rs (held_by s r (λ s'. hold z s' rs) o)
  unfolding hold
  before-held s r rs f (refused n) q = refl
  before-held s r rs f (taken s' m) q = before-judged s r rs s' m q (f s') (told-apart r s' m) refl

  pub before-end : (s : Pair) (rs : List Recorded)
      → hold z s (take (hold z s rs).told.held rs) ≡ whole (hold z s rs).told.held (hold z s rs).state
  unfolding hold
  before-end s [] = refl
  before-end s (r ∷ rs) = before-held s r rs (λ s'. before-end s' rs) (turn z s r.row) refl

-- no more rows are held than there are
most-held : (n : ℕ) (s : Pair) (r : Recorded) (f : Pair → Holding) → ((s' : Pair) → (f s').told.held ≤ n)
    → (o : OutcomeOf Pair Note) → (held_by s r f o).told.held ≤ suc n
most-held n s r f h (refused a) = omega arith
most-held n s r f h (taken s' m) = by (told-apart r s' m)
  where
    by : (d : ℕ) → (judged d s (written m) (value_of s' m) (f s')).told.held ≤ suc n
    by zero = omega (arith, h s')
    by (suc d) = omega arith

pub held-most : (z : Sizes) (s : Pair) (rs : List Recorded) → (hold z s rs).told.held ≤ length rs
unfolding hold
held-most z s [] = omega arith
held-most z s (r ∷ rs) = most-held (length rs) s r (λ s'. hold z s' rs) (λ s'. held-most z s' rs) (turn z s r.row)

-- ---- any number of pieces

pub pieces-compose : PiecesCompose
unfolding hold
pieces-compose z s [] = refl
pieces-compose z s (p ∷ ps) = by-test (eqb (hold z s p).told.held (length p))
    (λ e. let q = eqb-true (hold z s p).told.held (length p) e in
    rw e (ap (after (length p)) (pieces-compose z (hold z s p).state ps) ∙ sym (piece-held z (joined ps) s p q)))
    (λ e. let ne = eqb-false (hold z s p).told.held (length p) e in
    let most = held-most z s p in
    let less : (hold z s p).told.held < length p = omega arith in
    rw e (sym (piece-ended z (joined ps) s p less)))
