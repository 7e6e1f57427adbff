-- A loop that makes rows one by one (`lock` proofs/Loop) and enters each into the journal, of any machine: S is its
-- state, E what it notes of a row, and `write` the entry of that.
use Rattle.lock.proofs.Library.{◌≡◌, refl, sym, ap, ◌∙◌, ◌≢◌, false, List, [], ◌∷◌, ◌++◌, map, map-append, ℕ, ◌+◌, ◌<◌}
use Rattle.lock.proofs.{Library.{◌≤◌, arith, length, set, length-set, length-map}, Given.row-state, Loop.row_at}
use Rattle.lock.specs.{declared.Entry.Entry, Journal.journal_bytes, Machine.{Row, OutcomeOf, taken, refused, state_after}}
use Rattle.lock.specs.{Machine.{RefusedAsRow, runs}, File.{paired, stateless}}
use Rattle.lock.proofs.Loop as loop
use Rattle.std.specs.Prelude.{Result, Ok, Err}
use Rattle.lock.specs.{declared.Refusal.Refusal, Refusal.number_of}
use Rattle.rows.proofs.Cases.{by-outcome}
use Rattle.journal.specs.Came.{Came}
use Rattle.journal.proofs.Bytes.{bytes-none, bytes-more}

module _ {S E : Type 0} (step : S → Row → OutcomeOf S E) (write : E → Entry) where
  -- ---- the invariant, and the end: from the state s₀ with the journal j₀, i rows have led to s and j

  pub record Entered (s₀ : S) (ts os j₀ j : List ℕ) (s : S) (i : ℕ) : Type 0 where
    pub notes : List E
    pub sofar : loop.Sofar step s₀ ts os notes s i
    pub long : length j ≡ length j₀
    pub journal : j ≡ journal_bytes (length ts) (map write notes) j₀

  pub record Ended (s₀ : S) (ts os j₀ j : List ℕ) (s : S) (i answer : ℕ) : Type 0 where
    pub answered : answer ≡ (runs step s₀ (paired ts os)).answer
    pub taken : i ≡ (runs step s₀ (paired ts os)).taken
    pub state : s ≡ (runs step s₀ (paired ts os)).state
    pub journal : j ≡ journal_bytes (length ts) (map write (runs step s₀ (paired ts os)).entries) j₀

  pub none-entered : (s : S) (ts os j : List ℕ) → Entered s ts os j j s 0
  none-entered s ts os j =
      record { notes = []; sofar = loop.begun step s ts os; long = refl; journal = sym (bytes-none (length ts) j) }

  module _ {s₀ : S} {ts os j₀ j : List ℕ} {s : S} {i : ℕ} (h : Entered s₀ ts os j₀ j s i) where
    ends : (a : ℕ) → loop.Ended step s₀ ts os h.notes s i a → Ended s₀ ts os j₀ j s i a
    ends a e =
        record {
          answered = e.answered;
          taken = e.taken;
          state = e.state;
          journal = h.journal ∙ ap (λ (es : List E). journal_bytes (length ts) (map write es) j₀) e.entries;
        }

    pub all_made : length ts ≤ i → Ended s₀ ts os j₀ j s i 0
    all_made e = ends 0 (loop.finish step h.sofar e)

    -- row i is there, and was made: its entry goes into the journal, or its refusal ends the run
    abbrev o : OutcomeOf S E
    o = step s (row_at ts os i)

    abbrev pub Follows : S → Result Entry Refusal → Type 0
    Follows s' (Ok d) = length ts + length ts ≤ length j₀
        → Entered s₀ ts os j₀ (set (set j i d.kind) (length ts + i) d.word) s' (i + 1)
    Follows s' (Err r) = Ended s₀ ts os j₀ j s' i (number_of r) × (stateless (number_of r) ≡ false)

    module _ (lt : i < length ts) (matched : length os ≡ length ts) {s' : S} where
      pub row-made : {m : Result Entry Refusal} → Came write s s' m o → Follows s' m
      row-made {m} c =
          by-outcome write (λ (n : Result Entry Refusal) (q : OutcomeOf S E). o ≡ q → s' ≡ state_after s q → RefusedAsRow q
          → Follows s' n)
          (λ t e d k q a f room.
          rw (k, a)
          (record {
            notes = h.notes ++ e ∷ [];
            sofar = loop.more step h.sofar matched lt q;
            long = simp length-set h.long;
            journal =
                rw (h.journal, map-append write h.notes (e ∷ []))
                (bytes-more (length ts) i j₀ (map write h.notes) (write e).kind (write e).word
                (length-map h.notes _ ∙ h.sofar.entered) lt room);
          }))
          (λ r q a f. rw a (ends (number_of r) (loop.stop step h.sofar matched lt q), row-state (number_of r) f))
          m o c.is refl c.left c.fair
