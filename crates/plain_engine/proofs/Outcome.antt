-- From the run of the calls to what the plain engine promises of the file.
use Rattle.lock.proofs.Library.{ℕ, ◌+◌, ◌-◌, ◌≡◌, refl, sym, ap, ◌∙◌, ◌≢◌, true, List, some, arith, length, take}
use Rattle.lock.proofs.Library.{drop}
use Rattle.lock.specs.File.{sizes_of, row_count, threads_of, orders_of, rows_of, sizes_in_range, stateless, file_refusal}
use Rattle.lock.proofs.Accepted.{first_part, second-part, shape-lt, accepted-is, threads-long, orders-long}
use Rattle.std.specs.Prelude.{Result}
use Rattle.lock.specs.{declared.Refusal.Refusal, Refusal.answer_number}
use Rattle.lock.proofs.Given.{no-state, refused-gives, run-gives}
use Rattle.lock.{specs.declared.Ran.Ran, proofs.Choice.not-both}
use Rattle.laws.proofs.Lock.{Sizes, State}
use Rattle.plain_model.{specs.Plain.plain_fresh, specs.Plain.plain_run, specs.Sheet.plain_bench}
use Rattle.plain_calls.specs.View.{lock_of, plain_of}
use Rattle.plain_engine.specs.Runner.{Runnable, Runs, PlainBenches}

-- accepted, and run: n rows and the sizes z as the code read them, and the parts of the file that it lends
module _ (b : List ℕ) (n : ℕ) (rows : n ≡ row_count b) (z : Sizes) (sizes : z ≡ sizes_of b) (e : file_refusal b ≡ 0) where
  pub runnable : Runnable z (take (5 + n - 5) (drop 5 b)) (take (length b - (5 + n)) (drop (5 + n) b))
  runnable =
      let a = accepted-is b e in
      rw (first_part b rows, second-part b rows, sizes)
      (record { range = a.range; matched = omega (arith, threads-long a, orders-long a) })

  pub ran-benches : (l₀ l : List ℕ) (r : Ran)
      → Runs z (take (5 + n - 5) (drop 5 b)) (take (length b - (5 + n)) (drop (5 + n) b)) l r → PlainBenches b l₀ l r
  unfolding plain_bench
  ran-benches l₀ l r k =
      let h : Runs (sizes_of b) (threads_of b) (orders_of b) l r
      = rw (first_part b rows, second-part b rows, sizes) at k in
      let g = run-gives (plain_run (sizes_of b) plain_fresh (rows_of b)) e in
      record {
        answer = h.answer ∙ g.answer;
        taken = h.taken ∙ g.taken;
        sizes = h.sizes;
        state = rw h.late (ap (λ (s : State). some (plain_of s)) h.state ∙ g.state);
        array = λ q. h.state ∙ ap (λ (s : State). lock_of (plain_of s)) (sym h.state);
        whole = λ q. h.whole q ∙ threads-long (accepted-is b e);
        untouched = λ q. not-both _ q h.late;
      }

-- a file that is refused, whatever the lock was
pub denied-benches : (b : List ℕ) (a : Result (Unit {0}) Refusal) (z : Sizes) (l : List ℕ)
    → answer_number a ≡ file_refusal b → answer_number a ≢ 0 → z ≡ sizes_of b
    → PlainBenches b l l (record { answer = a; taken = 0; sizes = z })
unfolding plain_bench
denied-benches b a z l e ne q =
    let n : ℕ = answer_number a in
    let g = refused-gives (plain_run (sizes_of b) plain_fresh (rows_of b)) n e ne in
    let small = shape-lt (length b) (sizes_in_range b) (row_count b) in
    let none_left : stateless n ≡ true = no-state n ne (omega arith) in
    record {
      answer = g.answer;
      taken = g.taken;
      sizes = q;
      state = rw none_left g.state;
      array = λ h. not-both _ none_left h;
      whole = λ h. absurd (ne h);
      untouched = λ h. refl;
    }
