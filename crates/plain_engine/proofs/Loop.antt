-- The loop over the calls: what has been made (`lock` proofs/Loop), and that calls have led to the lock.
use Rattle.lock.proofs.Library.{ℕ, ◌+◌, ◌<◌, ◌≤◌, ◌≡◌, refl, ap, subst, ◌∙◌, ◌≢◌, false, List, [], ◌∷◌, ◌++◌, arith}
use Rattle.lock.proofs.Library.{length}
use Rattle.std.specs.Prelude.{Result, Ok}
use Rattle.lock.specs.{declared.Refusal.Refusal, Refusal.answer_number}
use Rattle.lock.{specs.declared.Ran.Ran, specs.File.stateless, specs.Machine.state_after, specs.Machine.RefusedAsRow}
use Rattle.lock.{proofs.Loop.row_at, proofs.Loop.refused-by, proofs.Loop.taken-by, proofs.Given.row-state}
use Rattle.laws.proofs.Lock.{Sizes, InRange, refused}
use Rattle.cells.specs.View.{state_of}
use Rattle.step.specs.Reached.{Begun}
use Rattle.plain_model.specs.Plain.{plain_fresh, PlainOutcome, plain_step, plain_run}
use Rattle.plain_calls.{specs.View.{lock_of, plain_of, Stands}, proofs.Calls.{plain-is, stands-own}}
use Rattle.plain_engine.specs.{Calls.Reached, Calls.Calls, Runner.Runnable, Runner.Runs}
use Rattle.plain_engine.proofs.Reach.{begun as fresh-reached}
use Rattle.lock.proofs.Loop as loop

pub record Sofar (z : Sizes) (ts os l : List ℕ) (i : ℕ) : Type 0 where
  pub entries : List (Unit {0})
  pub made : loop.Sofar (plain_step z) plain_fresh ts os entries (plain_of (state_of l)) i
  pub reached : Reached z l

pub begun : (z : Sizes) (ts os l : List ℕ) → InRange z → Begun l → Sofar z ts os l 0
begun z ts os l h e =
    record {
      entries = [];
      made = rw e.state (loop.begun (plain_step z) plain_fresh ts os);
      reached = fresh-reached z l h e;
    }

module _ {z : Sizes} {ts os l : List ℕ} {i : ℕ} (h : Sofar z ts os l i) where
  abbrev left : Result (Unit {0}) Refusal → Ran
  left a = record { answer = a; taken = i; sizes = z }

  ends : (a : Result (Unit {0}) Refusal) {l' : List ℕ} → stateless (answer_number a) ≡ false
      → Stands l' (plain_of (state_of l)) → (answer_number a ≡ 0 → i ≡ length ts)
      → loop.Ended (plain_step z) plain_fresh ts os h.entries (plain_of (state_of l)) i (answer_number a)
      → Runs z ts os l' (left a)
  unfolding plain_run
  ends a y k all e =
      record {
        answer = e.answered;
        taken = e.taken;
        sizes = refl;
        whole = all;
        late = y;
        state = k.lock ∙ ap lock_of e.state;
      }

  pub finish : length ts ≤ i → Runs z ts os l (record { answer = Ok tt; taken = length ts; sizes = z })
  finish e =
      let all : length ts ≡ i = omega (arith, h.made.within) in
      rw all (ends (Ok tt) refl (stands-own h.reached.stands) (λ q. omega (arith, h.made.within))
      (loop.finish (plain_step z) h.made e))

  -- call i was made
  module _ (b : Runnable z ts os) (lt : i < length ts) {l' : List ℕ} (a : Result (Unit {0}) Refusal)
      (c : Calls z (row_at ts os i) l l' (answer_number a)) where
    abbrev n : ℕ
    n = answer_number a

    abbrev o : PlainOutcome
    o = plain_step z (plain_of (state_of l)) (row_at ts os i)

    pub stop : n ≢ 0 → Runs z ts os l' (left a)
    stop some =
        let e : o ≡ refused n = refused-by o c.comes.is some in
        ends a (row-state n (subst RefusedAsRow e c.comes.fair))
        (subst (λ (x : PlainOutcome). Stands l' (state_after (plain_of (state_of l)) x)) e c.comes.left)
        (λ q. absurd (some q)) (loop.stop (plain_step z) h.made b.matched lt e)

    pub more : n ≡ 0 → Sofar z ts os l' (i + 1)
    more none =
        let (e, q) = taken-by o c.comes.is c.comes.fair none (plain_of (state_of l)) in
        record {
          entries = h.entries ++ e ∷ [];
          made = rw (plain-is c.comes.left) (loop.more (plain_step z) h.made b.matched lt q);
          reached = c.keeps h.reached;
        }
