-- The loop over the rows (`lock` proofs/Loop): each way through its body is one law.
use Rattle.lock.proofs.Library.{◌≡◌, refl, sym, ap, ◌∙◌, ◌≢◌, List, [], ◌∷◌, ◌++◌, ℕ, ◌+◌, ◌<◌, ◌≤◌}
use Rattle.lock.proofs.Library.{length, get_or, set, replicate, length-set, length-replicate, arith, set-get_or, lt-ltb}
use Rattle.lock.{proofs.{Library.{le-ltb, eq-eqb, ne_eqb}, Loop.row_at}, specs.Machine.{Row, taken, refused}}
use Rattle.lock.specs.{declared.Refusal.{Refusal, TheVariants.{NoSuchThread}}, Refusal.{answer_number}}
use Rattle.std.specs.Prelude.{Result, Ok, Err}
use Rattle.ticket_model.specs.{Machine.{idle, fresh, thread_at, obey}, declared.{Thread.Thread, Lock.Lock}}
use Rattle.ticket_model.specs.{declared.Made.Made, Run.{after_row, outcome, step, run}}
use Rattle.ticket_lock.specs.{Rows.{made_by, lock_of}, Runner.{Ran, Runnable, Runs}}
use Rattle.ticket_lock.proofs.Orders.{obey_stays}
use Rattle.lock.proofs.Loop as loop

-- a row of a thread that there is, and of one that there is not
step-obeys : (T : ℕ) (s : Lock) (r : Row) → r.thread < T
    → step T s r ≡ outcome s r.thread (obey r.order s.ticket s.grant (thread_at s r.thread))
unfolding step
step-obeys T s r h = rw (lt-ltb r.thread T h)

step-nobody : (T : ℕ) (s : Lock) (r : Row) → T ≤ r.thread → step T s r ≡ refused 5
unfolding step
step-nobody T s r h = rw (le-ltb r.thread T h)

outcome-refused : (s : Lock) (t : ℕ) (m : Made) → m.answer ≢ 0 → outcome s t m ≡ refused m.answer
outcome-refused s t m n = rw (ne_eqb m.answer 0 n)

outcome-taken : (s : Lock) (t : ℕ) (m : Made) → m.answer ≡ 0 → outcome s t m ≡ taken (after_row s t m) tt
outcome-taken s t m e = rw (eq-eqb m.answer 0 e)

-- ---- the invariant

pub record Sofar (T start : ℕ) (ts os : List ℕ) (ticket grant : ℕ) (hs : List Thread) (i : ℕ) : Type 0 where
  pub entries : List (Unit {0})
  pub made : loop.Sofar (step T) (fresh start) ts os entries (lock_of ticket grant hs) i
  pub long : length hs ≡ 64

pub begun : (T start : ℕ) (ts os : List ℕ) {h : Thread} → h ≡ idle → Sofar T start ts os start start (replicate 64 h) 0
begun T start ts os {h} e =
    rw e (record {
      entries = [];
      made = loop.begun (step T) (fresh start) ts os;
      long = length-replicate 64 idle;
    })

module _ {T start : ℕ} {ts os : List ℕ} {ticket grant : ℕ} {hs : List Thread} {i : ℕ}
    (h : Sofar T start ts os ticket grant hs i) where
  abbrev s : Lock
  s = lock_of ticket grant hs

  abbrev left : Result (Unit {0}) Refusal → Ran
  left a = record { answer = a; taken = i; threads = T; lock = s }

  ends : (a : Result (Unit {0}) Refusal)
      → loop.Ended (step T) (fresh start) ts os h.entries s i (answer_number a) → Runs T start ts os (left a)
  unfolding run
  ends a e = record { answer = e.answered; taken = e.taken; threads = refl; state = e.state }

  pub finish : length ts ≤ i → Runs T start ts os (record { answer = Ok tt; taken = length ts; threads = T; lock = s })
  finish e = let all : length ts ≡ i = omega (arith, h.made.within) in rw all (ends (Ok tt) (loop.finish (step T) h.made e))

  module _ (ready : Runnable T ts os) (lt : i < length ts) where
    abbrev t : ℕ
    t = get_or ts i 0

    -- a thread number out of range
    pub nobody : T ≤ t → Runs T start ts os (left (Err NoSuchThread))
    nobody e =
        ends (Err NoSuchThread) (loop.stop (step T) h.made ready.matched lt (step-nobody T s (row_at ts os i) e))

    -- row i was made
    module _ (there : t < T) (a : Result (Unit {0}) Refusal) {k g : ℕ} {me : Thread}
        (is : made_by a k g me ≡ obey (get_or os i 0) ticket grant (get_or hs t idle)) where
      made_row : step T s (row_at ts os i) ≡ outcome s t (made_by a k g me)
      made_row = step-obeys T s (row_at ts os i) there ∙ ap (outcome s t) (sym is)

      pub more : answer_number a ≡ 0 → Sofar T start ts os k g (set hs t me) (i + 1)
      more e =
          record {
            entries = h.entries ++ tt ∷ [];
            made = loop.more (step T) h.made ready.matched lt (made_row ∙ outcome-taken s t (made_by a k g me) e);
            long = length-set hs t me ∙ h.long;
          }

      -- it is refused, and the lock is as it was
      pub stop : answer_number a ≢ 0
          → Runs T start ts os (record { answer = a; taken = i; threads = T; lock = lock_of k g (set hs t me) })
      stop n =
          let (q, p, r) = rw (← is) at (obey_stays (get_or os i 0) ticket grant (get_or hs t idle)) n in
          rw (q, p, r, set-get_or hs t idle)
          (ends a (loop.stop (step T) h.made ready.matched lt (made_row ∙ outcome-refused s t (made_by a k g me) n)))
