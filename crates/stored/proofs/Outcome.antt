-- From the text of all runs to what `put_runs` promises: where there is room all of it fits.
use Rattle.lock.proofs.Library.{ℕ, ◌≤◌, ◌≡◌, ap, Bool, true, false, List, [], arith, ltb, length, ltb-false}
use Rattle.lock.proofs.Choice.{by-test, clash}
use Rattle.std.specs.Prelude.{None, Some}
use Rattle.text.specs.{declared.Page.Page, Page.{Fits, Adds}, Writing.{Room, Wrote}}
use Rattle.text.proofs.{Writing.{wrote-front, wrote-within}, Pages.adds-none}
use Rattle.stored.specs.Runs.{journal_rows, runs_of, runs_text}
use Rattle.stored.specs.Stored.{no_room, Stored}
use Rattle.stored.proofs.Bound.{runs_fit}

-- nothing, where there is nothing to write
pub adds_nothing : {s : List ℕ} {p : Page} → s ≡ [] → Fits p s → Adds p s p
adds_nothing none room = rw none (adds-none (rw none at room))

-- ---- all runs

-- room, as facts
has_room : (n m : ℕ) → no_room n m ≡ false → (n ≤ 1024) × (98304 ≤ m)
has_room n m h =
    by-test (ltb 1024 n) (λ e. let k : true ≡ false = rw e at h in clash cc)
    (λ e. (ltb-false 1024 n e, ltb-false m 98304 (rw e at h)))

module _ (name : List ℕ) (there : Bool) (b c t : List ℕ) where
  pub refused : no_room (length name) (length t) ≡ true → Stored name there b c t t None
  refused r = record { buffer = rw r; long = rw r; within = omega arith }

  module _ (S : ℕ) (rows : S ≡ journal_rows b) (few : S ≤ 4096) (roomy : no_room (length name) (length t) ≡ false) where
    pub room-all : Room t 0 (runs_of name there b c S)
    room-all =
        let h = has_room (length name) (length t) roomy in
        record { fits = omega (arith, runs_fit name there b c S h.0 few, h.1) }

    pub stored : {t' : List ℕ} {len : ℕ} → Wrote t 0 (runs_of name there b c S) t' len
        → Stored name there b c t t' (Some len)
    stored w =
        let v : Wrote t 0 (runs_text name there b c) _ _ = rw rows at w in
        record {
          buffer = rw roomy (wrote-front v).1;
          long = rw roomy (ap (λ (n : ℕ). Some n) (wrote-front v).0);
          within = wrote-within v;
        }
