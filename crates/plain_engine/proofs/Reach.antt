-- What a call may take for granted of a lock that calls have led to (`plain_model`, proofs/Bounds); the fresh lock; one
-- call more.
use Rattle.lock.proofs.Library.{ℕ, ◌<◌, ◌≡◌, refl, sym, ap, subst, ◌∙◌, List, [], ◌∷◌, ◌++◌, arith, get_or}
use Rattle.lock.proofs.Machine.{all-answered, run_more}
use Rattle.laws.proofs.Lock.{Word, Sizes, Thread, Row, taken, refused, runs, State, InRange}
use Rattle.cells.specs.View.{pc, state_of}
use Rattle.cells.proofs.Parts.{thread-is, word-is, threads-long}
use Rattle.step.specs.Reached.{Begun}
use Rattle.plain_model.specs.Plain.{Plain, plain_fresh, PlainOutcome, plain_step, plain_run}
use Rattle.plain_model.{proofs.Rest.Rest, proofs.Bounds.rests-as, proofs.Bounds.count-le, proofs.Bounds.room-left}
use Rattle.plain_calls.{specs.View.{plain_of, At}, proofs.Calls.{plain-is, stands-own, root_is, long}}
use Rattle.plain_engine.specs.Calls.{Reached, Comes, Calls, Ready}

module _ (z : Sizes) where
  -- ---- made by the fresh lock, kept by each call

  pub begun : (l : List ℕ) → InRange z → Begun l → Reached z l
  unfolding plain_run runs
  begun l h b =
      record {
        range = h;
        rows = [];
        all = refl;
        stands = record { lock = b.state; shaped = (b.reached z h).shaped };
      }

  reached-more : {l l' : List ℕ} {n : ℕ} (r : Row)
      → Comes l l' n (plain_step z (plain_of (state_of l)) r) → Reached z l → Reached z l'
  unfolding plain_run
  reached-more {l} {l'} {n} r c h = from (plain_step z (plain_of (state_of l)) r) refl c
    where
      from : (o : PlainOutcome) → plain_step z (plain_of (state_of l)) r ≡ o → Comes l l' n o → Reached z l'
      from (taken p e) q c =
          let k =
          run_more (plain_step z) plain_fresh h.rows r {t = p} {y = e} h.all (rw (sym (plain-is h.stands)) q) in
          record { range = h.range; rows = h.rows ++ r ∷ []; all = k.0; stands = rw k.1 c.left }
      from (refused a) q c =
          record {
            range = h.range;
            rows = h.rows;
            all = h.all;
            stands = rw (sym (plain-is h.stands)) c.left;
          }

  pub called : {r : Row} {l l' : List ℕ} {n : ℕ} → Comes l l' n (plain_step z (plain_of (state_of l)) r) → Calls z r l l' n
  called {r} c = record { comes = c; keeps = λ h. reached-more r c h }

-- ---- what it bounds

module _ {z : Sizes} {l : List ℕ} {t : ℕ} (r : Ready z l t) where
  pub there : t < 64
  there = let m = r.mine in let n = r.reached.range.threads in omega arith

  all-0 : (plain_run z plain_fresh r.reached.rows).answer ≡ 0
  unfolding plain_run
  all-0 = all-answered (plain_step z) plain_fresh r.reached.rows r.reached.all

  abbrev twin : (s : State) × Rest z s (plain_of (state_of l))
  twin =
      let k = rests-as z r.reached.range r.reached.rows all-0 in
      (k.0, subst (λ (p : Plain). Rest z k.0 p) (sym (plain-is r.reached.stands)) k.1)

  pub at_row : At l t
  at_row =
      let none-tree = ap (λ (w : Word). w.tree) (root_is l _ r.reached.stands.lock) in
      let n = rw (word-is l 0 (omega arith)) at (count-le z twin.0 (plain_of (state_of l)) twin.1) in
      record {
        stands = stands-own r.reached.stands;
        there = there;
        room = record { direct = omega (arith, n, threads-long l); tree = omega (arith, none-tree) };
      }

  pub room-to-join : pc l t ≡ 0 → get_or l 35 0 < 64
  room-to-join e =
      let k = room-left z
      twin.0 (plain_of (state_of l)) twin.1 t there (ap (λ (h : Thread). h.phase) (thread-is l t there) ∙ rw e) in
      omega (arith, k, long l r.reached.stands.shaped)
