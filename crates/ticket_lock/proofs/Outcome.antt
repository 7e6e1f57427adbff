-- From the run of the rows to what is promised of the file. The claims are the theorem `promises`, of the file's rows.
use Rattle.lock.proofs.Library.{◌≡◌, sym, ap, ◌∙◌, ◌≢◌, true, false, List, some, ℕ, ◌+◌, ◌-◌, ◌<◌, arith, length, take}
use Rattle.lock.proofs.Library.{drop, replicate}
use Rattle.lock.{specs.File.stateless, proofs.Accepted.{shape-lt, first_part, second-part, first-long, second-long}}
use Rattle.lock.proofs.{Choice.not-both, Given.{no-state, finished-state, refused-gives, run-gives}}
use Rattle.ticket_model.specs.{Machine.{idle, fresh}, declared.Thread.Thread, Run.run}
use Rattle.ticket_model.specs.File.{thread_count, row_count, start_of, threads_of, orders_of, rows_of, sizes_in_range}
use Rattle.ticket_model.specs.File.{refusal, ticket_run}
use Rattle.ticket_model.proofs.{Promises.promises, Refusal.{accepted-is, run-finished}}
use Rattle.std.specs.Prelude.{Result}
use Rattle.lock.specs.{declared.Refusal.{Refusal}, Refusal.{answer_number}}
use Rattle.ticket_lock.specs.{Rows.lock_of, Runner.{Ran, Runnable, Runs, Tickets}}

-- ---- refused before the first row: the lock is as it is made

pub denied-tickets : (b : List ℕ) (a : Result (Unit {0}) Refusal) (T start : ℕ) (h : Thread)
    → answer_number a ≡ refusal b → answer_number a ≢ 0 → T ≡ thread_count b → start ≡ start_of b → h ≡ idle
    → Tickets b (record { answer = a; taken = 0; threads = T; lock = lock_of start start (replicate 64 h) })
unfolding ticket_run
denied-tickets b a T start h e ne q begin one =
    let n : ℕ = answer_number a in
    let g = refused-gives (run (thread_count b) (fresh (start_of b)) (rows_of b)) n e ne in
    let small = shape-lt (length b) (sizes_in_range b) (row_count b) in
    let none_left : stateless n ≡ true = no-state n ne (omega arith) in
    record {
      answer = g.answer;
      taken = g.taken;
      threads = q;
      state = rw none_left g.state;
      whole = λ h. absurd (ne h);
      unused = λ h. rw (begin, one);
      promised = λ h. not-both _ none_left h;
    }

-- ---- accepted, and run; n rows, T threads and a start number as the code read them, and the parts of the file that it
-- lends

module _ (b : List ℕ) {n T start : ℕ}
    (rows : n ≡ row_count b) (threads : T ≡ thread_count b) (begin : start ≡ start_of b) (e : refusal b ≡ 0) where
  pub runnable : Runnable T (take (5 + n - 5) (drop 5 b)) (take (length b - (5 + n)) (drop (5 + n) b))
  runnable =
      let a = accepted-is b e in
      rw (first_part b rows, second-part b rows)
      (record {
        threads = omega (arith, a.threads);
        matched = omega (arith, first-long b (row_count b) a.exact, second-long b (row_count b) a.exact);
      })

  pub ran-tickets : (r : Ran) → start < 65536
      → Runs T start (take (5 + n - 5) (drop 5 b)) (take (length b - (5 + n)) (drop (5 + n) b)) r → Tickets b r
  unfolding ticket_run
  ran-tickets r small k =
      let h : Runs (thread_count b) (start_of b) (threads_of b) (orders_of b) r
      = rw (first_part b rows, second-part b rows, threads, begin) at k in
      let few = (accepted-is b e).threads in
      let done = run-finished (thread_count b) (fresh (start_of b)) (rows_of b) in
      let kept : stateless (answer_number r.answer) ≡ false = rw h.answer (finished-state done) in
      let g = run-gives (run (thread_count b) (fresh (start_of b)) (rows_of b)) e in
      record {
        answer = h.answer ∙ g.answer;
        taken = h.taken ∙ g.taken;
        threads = h.threads;
        state = rw kept (ap some h.state ∙ g.state);
        whole = λ q. h.taken ∙ done.whole (sym h.answer ∙ q);
        unused = λ q. not-both _ q kept;
        promised = λ q.
            record {
              each = λ i. promises (thread_count b) (start_of b) few (omega arith) (take i (rows_of b));
              handed = rw h.state (promises (thread_count b) (start_of b) few (omega arith) (rows_of b));
            };
      }
