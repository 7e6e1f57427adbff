-- A loop that makes rows one by one, of any machine: after some rows their entries are known, and the run of the rest
-- comes after them. Each way through the loop is one law.
use Rattle.lock.proofs.Library.{◌≡◌, refl, sym, ap, ◌∙◌, ◌≢◌, List, [], ◌∷◌, ◌++◌, append_assoc, append-nil, ℕ}
use Rattle.lock.proofs.Library.{suc, ◌+◌, ◌<◌, ◌≤◌, zero-add, arith, length, get_or, drop, length-append}
use Rattle.lock.proofs.Library.{drop_of_length-le, drop-cons}
use native.Mathlib.Numerals.{add-one}
use Rattle.lock.specs.Machine.{Row, OutcomeOf, taken, refused, ResultOf, stopped, after, follow, runs, state_after}
use Rattle.lock.specs.{Machine.{answer_of, RefusedAsRow}, File.paired}

-- row i of the thread numbers ts and the orders os
abbrev pub row_at : List ℕ → List ℕ → ℕ → Row
row_at ts os i = record { thread = get_or ts i 0; order = get_or os i 0 }

-- ---- an outcome, by the number that the code has of it

module _ {S E : Type 0} where
  pub refused-by : (o : OutcomeOf S E) {n : ℕ} → n ≡ answer_of o → n ≢ 0 → o ≡ refused n
  refused-by (taken s e) i n = absurd (n i)
  refused-by (refused a) i n = ap refused (sym i)

  pub taken-by : (o : OutcomeOf S E) {n : ℕ}
      → n ≡ answer_of o → RefusedAsRow o → n ≡ 0 → (s : S) → (e : E) × (o ≡ taken (state_after s o) e)
  taken-by (taken s' e) i f n s = (e, refl)
  taken-by (refused a) i f n s = absurd (omega arith)

module _ {S E : Type 0} (step : S → Row → OutcomeOf S E) where
  -- ---- runs, row by row

  -- a result with the entries of rows before it
  abbrev before : List E → ResultOf S E → ResultOf S E
  before es r =
      record { answer = r.answer; taken = length es + r.taken; state = r.state; entries = es ++ r.entries }

  before-after : (es : List E) (e : E) (r : ResultOf S E) → before es (after e r) ≡ before (es ++ e ∷ []) r
  before-after es e r =
      let n : length es + suc r.taken ≡ length (es ++ e ∷ []) + r.taken = simp length-append (omega arith) in
      let j : es ++ e ∷ r.entries ≡ (es ++ e ∷ []) ++ r.entries = sym (append_assoc es (e ∷ []) r.entries) in
      rw (n, j)

  -- row i, and the rows after it; no row left
  run_row : (s : S) (ts os : List ℕ) (i : ℕ) → i < length ts → i < length os
      → runs step s (paired (drop i ts) (drop i os))
      ≡ follow s (λ s'. runs step s' (paired (drop (i + 1) ts) (drop (i + 1) os))) (step s (row_at ts os i))
  unfolding runs
  run_row s ts os i it io = rw (add-one, drop-cons ts i 0 it, drop-cons os i 0 io)

  run_none : (s : S) (ts os : List ℕ) (i : ℕ)
      → length ts ≤ i → runs step s (paired (drop i ts) (drop i os)) ≡ stopped 0 s
  unfolding runs
  run_none s ts os i h = rw (drop_of_length-le ts h)

  -- ---- the invariant, and the end: from the state s₀, i rows with the entries es have led to s

  pub record Sofar (s₀ : S) (ts os : List ℕ) (es : List E) (s : S) (i : ℕ) : Type 0 where
    pub entered : length es ≡ i
    pub within : i ≤ length ts
    pub rest : runs step s₀ (paired ts os) ≡ before es (runs step s (paired (drop i ts) (drop i os)))

  pub record Ended (s₀ : S) (ts os : List ℕ) (es : List E) (s : S) (i answer : ℕ) : Type 0 where
    pub answered : answer ≡ (runs step s₀ (paired ts os)).answer
    pub taken : i ≡ (runs step s₀ (paired ts os)).taken
    pub state : s ≡ (runs step s₀ (paired ts os)).state
    pub entries : es ≡ (runs step s₀ (paired ts os)).entries

  pub begun : (s : S) (ts os : List ℕ) → Sofar s ts os [] s 0
  begun s ts os =
      record { entered = refl; within = omega arith; rest = rw (zero-add (runs step s (paired ts os)).taken) }

  module _ {s₀ : S} {ts os : List ℕ} {es : List E} {s : S} {i : ℕ} (h : Sofar s₀ ts os es s i) where
    ends : (a : ℕ) → runs step s (paired (drop i ts) (drop i os)) ≡ stopped a s → Ended s₀ ts os es s i a
    ends a e =
        let all = h.rest ∙ ap (before es) e in
        record {
          answered = rw all;
          taken = rw all (omega (arith, h.entered));
          state = rw all;
          entries = rw all (sym (append-nil es));
        }

    pub finish : length ts ≤ i → Ended s₀ ts os es s i 0
    finish e = ends 0 (run_none s ts os i e)

    -- row i is there
    module _ (matched : length os ≡ length ts) (lt : i < length ts) where
      next : (o : OutcomeOf S E) → step s (row_at ts os i) ≡ o
          → runs step s (paired (drop i ts) (drop i os))
          ≡ follow s (λ s'. runs step s' (paired (drop (i + 1) ts) (drop (i + 1) os))) o
      next o e = run_row s ts os i lt (omega arith) ∙ ap (follow s _) e

      pub stop : {n : ℕ} → step s (row_at ts os i) ≡ refused n → Ended s₀ ts os es s i n
      stop {n} e = ends n (next (refused n) e)

      pub more : {s' : S} {e : E} → step s (row_at ts os i) ≡ taken s' e → Sofar s₀ ts os (es ++ e ∷ []) s' (i + 1)
      more {s'} {e} q =
          record {
            entered = simp (length-append, h.entered);
            within = omega arith;
            rest = h.rest ∙ ap (before es) (next (taken s' e) q) ∙ before-after es e _;
          }
