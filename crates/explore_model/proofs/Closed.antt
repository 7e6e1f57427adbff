-- A closed set of states has every state that rows lead to.
use Rattle.lock.proofs.Library.{ℕ, ◌+◌, ◌≤◌, ◌≡◌, sym, ◌∙◌, List, arith, length}
use Rattle.lock.proofs.{Machine.by_rows, Choice.clash}
use Rattle.lock.specs.{declared.{Sizes.Sizes, Entry.Entry}, Machine.runs, State.{State, fresh, Outcome, taken, refused}}
use Rattle.lock.specs.Run.{Row, step, run}
use Rattle.laws.specs.Forget.{Alike, forget, forget_after}
use Rattle.explore_model.specs.Closed.{Has, HasAfter, Closed, Complete, Never, NotWithin}
use Rattle.laws.proofs.Forget.{failures-do-not-matter}

module _ {f : ℕ → State} {d : ℕ → ℕ} {n : ℕ} where
  -- the same of a state that is alike, and of a larger depth
  has-alike : {k : ℕ} {s s' : State} → Alike s s' → Has f d n k s → Has f d n k s'
  has-alike e h = record { place = h.place; within = h.within; soon = h.soon; alike = h.alike ∙ e }

  pub has_within : {k m : ℕ} {s : State} → k ≤ m → Has f d n k s → Has f d n m s
  has_within l h = let b = h.soon in
      record { place = h.place; within = h.within; soon = omega arith; alike = h.alike }

  -- the outcome x at one of the states tells of the outcome at a state like it
  has-taken : {k : ℕ} (x : Outcome) (s : State) (e : Entry)
      → forget_after x ≡ taken (forget s) e → HasAfter f d n k x → Has f d n k s
  has-taken (taken u k) s e q h = let a : forget u ≡ forget s = cc in has-alike a h
  has-taken (refused a) s e q h = clash cc

  module _ {z : Sizes} (c : Closed z f d n) where
    next : (k : ℕ) (s s' : State) (r : Row) (e : Entry) → Has f d n k s → step z s r ≡ taken s' e → Has f d n (k + 1) s'
    next k s s' r e h q =
        let b = h.soon in
        has_within (omega arith)
        (has-taken (step z (f h.place) r) s' e
        (failures-do-not-matter z (f h.place) s h.alike r ∙ rw q) (c.steps h.place h.within r))

    from : (s : State) (rs : List Row) (k : ℕ) → Has f d n k s → Has f d n (k + length rs) (runs (step z) s rs).state
    from = by_rows (step z) (λ s rs x. (k : ℕ) → Has f d n k s → Has f d n (k + length rs) x.state)
        (λ s k h. has_within (omega arith) h) (λ s r rs a q k h. has_within (omega arith) h)
        (λ s r rs s' e q j k h. has_within (omega arith) (j (k + 1) (next k s s' r e h q)))

    pub complete : Complete z f d n
    unfolding run
    complete rs = has_within (omega arith) (from fresh rs 0 c.starts)

    pub never : Never z f n
    never P blind none rs p = let h = complete rs in none h.place h.within (blind _ _ (sym h.alike) p)

    pub not_within : NotWithin z f d n
    not_within P blind k none rs l p =
        let h = complete rs in
        let b = h.soon in
        none h.place h.within (omega arith) (blind _ _ (sym h.alike) p)
