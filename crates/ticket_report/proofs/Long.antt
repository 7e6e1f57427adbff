-- The lock that a run of a ticket file left has 64 threads: it is made with them, and a row sets one.
use Rattle.lock.proofs.Library.{ℕ, ◌≡◌, ◌∙◌, List, some, length, length-set, length-replicate, eqb, ltb}
use Rattle.lock.specs.{Machine.{Row, GivenOf}, File.stateless, Refusal.{answer_number}}
use Rattle.lock.proofs.{Choice.{clash, if-both, by-test}, Given.by-refusal, Machine.{Any, Keeps, kept}}
use Rattle.ticket_model.specs.{Machine.{idle, fresh, thread_at, obey}, declared.Lock.Lock, Run.{step, run}}
use Rattle.ticket_model.specs.File.{thread_count, start_of, rows_of, refusal, ticket_run}
use Rattle.ticket_lock.specs.{declared.Ran.Ran, Runner.Tickets}

abbrev Whole : Lock → Type 0
Whole s = length s.threads ≡ 64

step-whole : (T : ℕ) (s : Lock) (r : Row) → Whole s → Keeps Whole Any Any (step T s r)
unfolding step
step-whole T s r h =
    if-both (Keeps Whole Any Any) (ltb r.thread T)
    (λ _. if-both (Keeps Whole Any Any) (eqb (obey r.order s.ticket s.grant (thread_at s r.thread)).answer 0)
    (λ _. (length-set s.threads r.thread _ ∙ h, tt)) (λ _. tt))
    (λ _. tt)

run-whole : (T start : ℕ) (rs : List Row) → Whole (run T (fresh start) rs).state
unfolding run
run-whole T start rs =
    (kept Whole Any Any (step T) (step-whole T) (fresh start) rs (length-replicate 64 idle)).state

pub left-whole : {b : List ℕ} {r : Ran} → Tickets b r → length r.lock.threads ≡ 64
unfolding ticket_run
left-whole {b} {r} h =
    by-test (stateless (answer_number r.answer)) (λ e. rw (h.unused e) (length-replicate 64 idle))
    (λ e.
    by-refusal (λ (g : GivenOf Lock (Unit {0})). some r.lock ≡ g.state → Whole r.lock)
    (run (thread_count b) (fresh (start_of b)) (rows_of b)) (refusal b)
    (λ _ q.
    let same : r.lock ≡ (run (thread_count b) (fresh (start_of b)) (rows_of b)).state = cc in
    rw same (run-whole (thread_count b) (start_of b) (rows_of b)))
    (λ k _ q. clash cc) (rw e at h.state))
