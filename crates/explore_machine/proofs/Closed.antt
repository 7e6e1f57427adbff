-- A closed set of states has every state that rows lead to.
use Rattle.lock.proofs.Library.{ℕ, ◌+◌, ◌≤◌, ◌≡◌, refl, sym, ◌∙◌, List, arith, length}
use Rattle.lock.proofs.{Machine.by_rows, Choice.clash}
use Rattle.lock.specs.{declared.Sizes.Sizes, Machine.{Row, OutcomeOf, taken, refused, runs}, State.Outcome, Run.step}
use Rattle.laws.specs.Forget.{forget, forget_after}
use Rattle.explore_machine.specs.Closed.{Machine, one_lock, Like, forgetting, Forgets, Has, HasAfter, Closed, Complete}
use Rattle.explore_machine.specs.Closed.{Never, NotWithin}
use Rattle.laws.proofs.Forget.{failures-do-not-matter}

module _ {S E : Type 0} {m : Machine S E} {f : ℕ → S} {d : ℕ → ℕ} {n : ℕ} where
  -- the same of a state that is like it, and of a larger depth
  has-alike : {k : ℕ} {s s' : S} → Like m s s' → Has m f d n k s → Has m f d n k s'
  has-alike e h = record { place = h.place; within = h.within; soon = h.soon; alike = h.alike ∙ e }

  pub has_within : {k l : ℕ} {s : S} → k ≤ l → Has m f d n k s → Has m f d n l s
  has_within l h = let b = h.soon in
      record { place = h.place; within = h.within; soon = omega arith; alike = h.alike }

  -- the outcome x at one of the states tells of the outcome at a state like it
  has-taken : {k : ℕ} (x : OutcomeOf S E) (s : S) (e : E)
      → forgetting m.forget x ≡ taken (m.forget s) e → HasAfter m f d n k x → Has m f d n k s
  has-taken (taken u k) s e q h = let a : m.forget u ≡ m.forget s = cc in has-alike a h
  has-taken (refused a) s e q h = clash cc

  module _ (law : Forgets m) (c : Closed m f d n) where
    next : (k : ℕ) (s s' : S) (r : Row) (e : E) → Has m f d n k s → m.step s r ≡ taken s' e → Has m f d n (k + 1) s'
    next k s s' r e h q =
        let b = h.soon in
        has_within (omega arith)
        (has-taken (m.step (f h.place) r) s' e
        (law (f h.place) s h.alike r ∙ rw q) (c.steps h.place h.within r))

    from : (s : S) (rs : List Row) (k : ℕ) → Has m f d n k s → Has m f d n (k + length rs) (runs m.step s rs).state
    from = by_rows m.step (λ s rs x. (k : ℕ) → Has m f d n k s → Has m f d n (k + length rs) x.state)
        (λ s k h. has_within (omega arith) h) (λ s r rs a q k h. has_within (omega arith) h)
        (λ s r rs s' e q j k h. has_within (omega arith) (j (k + 1) (next k s s' r e h q)))

    pub complete : Complete m f d n
    complete rs = has_within (omega arith) (from m.start rs 0 c.starts)

    pub never : Never m f n
    never P blind none rs p = let h = complete rs in none h.place h.within (blind _ _ (sym h.alike) p)

    pub not_within : NotWithin m f d n
    not_within P blind k none rs l p =
        let h = complete rs in
        let b = h.soon in
        none h.place h.within (omega arith) (blind _ _ (sym h.alike) p)

-- ---- one lock

pub forgets-one : (z : Sizes) → Forgets (one_lock z)
forgets-one z s s' e r = same (step z s r) ∙ failures-do-not-matter z s s' e r ∙ sym (same (step z s' r))
  where
    same : (x : Outcome) → forgetting forget x ≡ forget_after x
    same (taken u k) = refl
    same (refused a) = refl
