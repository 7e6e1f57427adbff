-- The rows of a record that are held are a run of the bench, with the record's own entries: so what is proved of every
-- run is true of them.
use Rattle.lock.proofs.Library.{◌≡◌, refl, sym, ap, ap₂, subst, ◌∙◌, not, ◌&&◌, List, [], ◌∷◌, ℕ, zero, suc, ◌≤◌, arith}
use Rattle.lock.proofs.Library.{le_refl, take, take_all, length, length-map, length-take-le, add-zero, eqb, eqb-true}
use Rattle.lock.proofs.Library.{not-false}
use Rattle.lock.proofs.Accepted.{past, both}
use Rattle.lock.specs.{Machine.Row, declared.{Entry.Entry, Sizes.Sizes}, Journal.entry, File.{InRange, sizes_of}}
use Rattle.lock.specs.Machine.{OutcomeOf, taken, refused, ResultOf, after, follow, runs}
use Rattle.pair.specs.Pair.{Side, Pair, fresh_pair, Note, written, turn, run}
use Rattle.pair.{specs.Demand.CountedAt, proofs.Demand.demand3-pair}
use Rattle.progress.{specs.Claimed.StateClaimed, proofs.Claimed.{rows-claimed, state-claimed}}
use Rattle.record_model.specs.Record.{Holding, Recorded, hold, held_by, judged, difference, recorded_in}
use Rattle.record_model.specs.Runs.{rows_of, entries_of, Ran, Claimed, ClaimedOf}
use Rattle.record_model.proofs.{Pieces.{value_of, told-apart, before-end, held-most}, File.accepted}

same-entry : (k w v k' w' v' : ℕ) → difference k w v k' w' v' ≡ 0 → (k ≡ k') × (w ≡ w')
same-entry k w v k' w' v' e =
    let p = past (not (eqb k k' && eqb w w')) 10 e in
    let q = both (eqb k k') (eqb w w') (not-false _ p.0) in
    (eqb-true k k' q.0, eqb-true w w' q.1)

module _ (s : Pair) (r : Recorded) (rs : List Recorded) where
  ran-judged : (s' : Pair) (m : Note) (f : ResultOf Pair Note) (g : Holding)
      → (g.told.held ≡ length rs → Ran f g.state rs) → (d : ℕ) → told-apart r s' m ≡ d
      → (judged d s (written m) (value_of s' m) g).told.held ≡ suc (length rs)
      → Ran (after m f) (judged d s (written m) (value_of s' m) g).state (r ∷ rs)
  ran-judged s' m f g h zero e q =
      let k = h (omega arith) in
      let t = same-entry r.kind r.word r.value (written m).kind (written m).word (value_of s' m) e in
      let same : written m ≡ entry r.kind r.word = sym (ap₂ entry t.0 t.1) in
      record {
        answer = k.answer;
        taken = ap suc k.taken;
        state = k.state;
        entries = ap₂ ◌∷◌ same k.entries;
      }
  ran-judged s' m f g h (suc d) e q = absurd (omega arith)

  ran-row : (f : Pair → ResultOf Pair Note) (g : Pair → Holding)
      → ((s' : Pair) → (g s').told.held ≡ length rs → Ran (f s') (g s').state rs)
      → (o : OutcomeOf Pair Note) → (held_by s r g o).told.held ≡ suc (length rs)
      → Ran (follow s f o) (held_by s r g o).state (r ∷ rs)
  ran-row f g h (taken s' m) q = ran-judged s' m (f s') (g s') (h s') (told-apart r s' m) refl q
  ran-row f g h (refused n) q = absurd (omega arith)

-- all rows were held
pub ran-whole : (z : Sizes) (s : Pair) (rs : List Recorded) → (hold z s rs).told.held ≡ length rs
    → Ran (run z s (rows_of rs)) (hold z s rs).state rs
unfolding run runs hold
ran-whole z s [] q = record { answer = refl; taken = refl; state = refl; entries = refl }
ran-whole z s (r ∷ rs) q =
    ran-row s r rs (λ s'. run z s' (rows_of rs)) (λ s'. hold z s' rs) (λ s'. ran-whole z s' rs) (turn z s r.row) q

-- the rows before the one that ended it
pub ran-held : (z : Sizes) (s : Pair) (rs : List Recorded)
    → let k = (hold z s rs).told.held in
    Ran (run z s (rows_of (take k rs))) (hold z s rs).state (take k rs)
ran-held z s rs =
    let k = (hold z s rs).told.held in
    let e = before-end z s rs in
    let long : length (take k rs) ≡ k = length-take-le k rs (held-most z s rs) in
    subst (λ x. Ran (run z s (rows_of (take k rs))) x (take k rs)) (ap (λ (h : Holding). h.state) e)
    (ran-whole z s (take k rs) (ap (λ (h : Holding). h.told.held) e ∙ add-zero k ∙ sym long))

-- what is proved of every run, of rows that are a run and led to the state s
claimed : (z : Sizes) → InRange z → (s : Pair) (rs : List Recorded) → Ran (run z fresh_pair (rows_of rs)) s rs
    → Claimed z rs s
claimed z range s rs g =
    let own = rows_of rs in
    let long = length-map rs (λ (r : Recorded). r.row) in
    let as_long = length-map rs (λ (r : Recorded). entry r.kind r.word) in
    let counted : (x : Side) (i : ℕ) → i ≤ length rs
    → CountedAt z x (take i own) (take i (entries_of rs)) (run z fresh_pair (take i own)).state =
    λ x i l.
    subst (λ (es : List Entry). CountedAt z x (take i own) (take i es) (run z fresh_pair (take i own)).state)
    g.entries (demand3-pair z range x own i (omega (arith, l, g.taken))) in
    record {
      ran = g;
      counted = counted;
      rows = rows-claimed z range own;
      left =
          let whole : take (length rs) own ≡ own = take_all (length rs) own (omega (arith, long)) in
          subst (λ (o : List Row). StateClaimed z o (entries_of rs) s) whole
          (state-claimed z range own (length rs) (entries_of rs) (rw whole g.state)
          (λ x. rw (take_all (length rs) (entries_of rs) (omega (arith, as_long))) at (counted x (length rs) (le_refl _))));
    }

pub claimed-of : (b : List ℕ) → ClaimedOf b
claimed-of b fine =
    claimed (sizes_of b) (accepted b fine).range _ _ (ran-held (sizes_of b) fresh_pair (recorded_in b))
