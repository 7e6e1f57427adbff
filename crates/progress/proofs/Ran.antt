-- Runs on any machine in which every row is taken, and rows behind those that are.
use Rattle.lock.proofs.Library.{ℕ, suc, ◌+◌, ◌≡◌, refl, ap, ◌∙◌, List, [], ◌∷◌, ◌++◌, arith, length, take}
use Rattle.lock.specs.Machine.{Row, OutcomeOf, taken, refused, ResultOf, follow, runs}
use Rattle.lock.{proofs.Library.length-append, proofs.Library.length-take, proofs.Machine.taken-le}

module _ {S E : Type 0} where
  -- a run of n rows that ends in s, all taken
  pub record Ran (x : ResultOf S E) (n : ℕ) (s : S) : Type 0 where
    pub answer : x.answer ≡ 0
    pub taken : x.taken ≡ n
    pub state : x.state ≡ s

  -- y is the run of the rows behind the n that are taken
  record Behind (x y : ResultOf S E) (n : ℕ) : Type 0 where
    answer : x.answer ≡ y.answer
    taken : x.taken ≡ n + y.taken
    state : x.state ≡ y.state

  module _ (step : S → Row → OutcomeOf S E) where
    pub ran-more : (s : S) {s' s'' : S} (r : Row) (rs : List Row) {e : E} {n : ℕ} → step s r ≡ taken s' e
        → Ran (runs step s' rs) n s'' → Ran (runs step s (r ∷ rs)) (suc n) s''
    unfolding runs
    ran-more s r rs q k =
        record { answer = rw q k.answer; taken = rw q (ap suc k.taken); state = rw q k.state }

    -- the rows `more` behind those of rs that x took
    abbrev joined : ResultOf S E → List Row → List Row → List Row
    joined x rs more = take x.taken rs ++ more

    behind : (s : S) (rs more : List Row)
        → Behind (runs step s (joined (runs step s rs) rs more)) (runs step (runs step s rs).state more)
        (runs step s rs).taken
    unfolding runs
    behind s [] more = record { answer = refl; taken = omega arith; state = refl }
    behind s (r ∷ rs) more = from (step s r) refl (λ s'. behind s' rs more)
      where
        from : (o : OutcomeOf S E) → step s r ≡ o
            → ((s' : S)
            → Behind (runs step s' (joined (runs step s' rs) rs more)) (runs step (runs step s' rs).state more)
            (runs step s' rs).taken)
            → Behind (runs step s (joined (follow s (λ s'. runs step s' rs) o) (r ∷ rs) more))
            (runs step (follow s (λ s'. runs step s' rs) o).state more) (follow s (λ s'. runs step s' rs) o).taken
        from (taken s' e) q k =
            let h = k s' in
            record { answer = rw q h.answer; taken = rw q (omega (arith, h.taken)); state = rw q h.state }
        from (refused n) q k = record { answer = refl; taken = omega arith; state = refl }

    pub state-behind : (s : S) (rs more : List Row)
        → (runs step s (take (runs step s rs).taken rs ++ more)).state
        ≡ (runs step (runs step s rs).state more).state
    state-behind s rs more = (behind s rs more).state

    pub ran-behind : (s s'' : S) (rs more : List Row) → Ran (runs step (runs step s rs).state more) (length more) s''
        → Ran (runs step s (take (runs step s rs).taken rs ++ more))
        (length (take (runs step s rs).taken rs ++ more)) s''
    ran-behind s s'' rs more r =
        let b = behind s rs more in
        record {
          answer = b.answer ∙ r.answer;
          taken =
              omega (
                arith,
                b.taken,
                r.taken,
                length-append (take (runs step s rs).taken rs) more,
                length-take (runs step s rs).taken rs,
                taken-le step s rs,
              );
          state = b.state ∙ r.state;
        }
