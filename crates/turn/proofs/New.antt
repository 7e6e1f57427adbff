-- A new call of a thread that the other lock bars: whatever its own lock says of it, 5 and 6 apart, it is refused with
-- 7.
use Rattle.lock.proofs.Library.{ℕ, ◌-◌, ◌≡◌, refl, sym, subst, ◌≢◌, Bool, true, false, Option, none, eqb, ltb, ne_eqb}
use Rattle.lock.proofs.Choice.{by-standing, if-both}
use Rattle.std.specs.Prelude.{if◌then◌else◌}
use Rattle.lock.specs.{declared.Phase.Phase, declared.Phase.TheVariants.{Look, WriteLook}}
use Rattle.lock.specs.{declared.Standing.Standing, declared.Sizes.Sizes, Phase.standing, Call.{Op, Order, beginning}}
use Rattle.lock.specs.{Call.{unlocking, upgrading, downgrading, booking, decode, obey, refuse}, Machine.OutcomeOf}
use Rattle.lock.specs.{Machine.refused, State.{State, thread_at, perform}, Run.{unknown, row_op, step}}
use Rattle.pair.specs.Pair.{Side, Pair, Note, turned}
use Rattle.turn.specs.Turn.{refused_new}

module _ (z : Sizes) (s : Pair) (x : Side) (l : State) (t : ℕ) where
  -- what the row's own lock says, barred
  abbrev said : Bool → Phase → Option Order → OutcomeOf Pair Note
  said there p d = turned s x true (perform z l t (if there then obey z.fan p d else refuse 5))

  -- the number that is said of it, by whether the order is 0
  abbrev number : Bool → Bool → Option Order → ℕ
  number zeroth there d =
      let n : ℕ = if there then (if zeroth then 6 else if unknown d then 6 else 0) else 5 in if eqb n 0 then 7 else n

  abbrev Says : Phase → Option Order → Type 0
  Says p d = said true p d ≡ refused (number false true d)

  -- a thread that might begin a call is refused as any other
  abbrev Seven : (Standing → Op) → Type 0
  Seven f = (k : Standing) → turned s x true (perform z l t (f k)) ≡ refused 7

  begins : (p : Phase) → Seven (beginning p)
  unfolding perform
  begins p = by-standing _ refl (λ n. refl) refl refl refl

  unlocks : Seven unlocking
  unfolding perform
  unlocks = by-standing _ refl (λ n. refl) refl refl refl

  ups : Seven upgrading
  unfolding perform
  ups = by-standing _ refl (λ n. refl) refl refl refl

  downs : Seven downgrading
  unfolding perform
  downs = by-standing _ refl (λ n. refl) refl refl refl

  books : Seven booking
  unfolding perform
  books = by-standing _ refl (λ n. refl) refl refl refl

  no-order : (p : Phase) → Says p none
  unfolding obey perform
  no-order p = refl

  -- order by order, 0 being none of these
  by_order : (p : Phase) (o : ℕ) → o ≢ 0 → Says p (decode z o)
  unfolding obey
  by_order p o n =
      rw (ne_eqb o 0 n)
      (if-both (Says p) (eqb o 1) (λ e. begins WriteLook (standing p))
      (λ a. if-both (Says p) (eqb o 2) (λ e. unlocks (standing p))
      (λ b. if-both (Says p) (eqb o 3) (λ e. ups (standing p))
      (λ c. if-both (Says p) (eqb o 4) (λ e. downs (standing p))
      (λ d. if-both (Says p) (ltb o 64) (λ e. no-order p)
      (λ f. if-both (Says p) (ltb o 96)
      (λ e. if-both (Says p) (ltb (o - 64) z.nodes) (λ g. begins (Look (o - 64)) (standing p)) (λ g. no-order p))
      (λ i. if-both (Says p) (ltb o 128)
      (λ e. if-both (Says p) (ltb (o - 96) z.items) (λ g. books (standing p)) (λ g. no-order p))
      (λ e. no-order p))))))))

  pub barred-is : (o : ℕ) → o ≢ 0 → turned s x true (step z l (record { thread = t; order = o }))
      ≡ refused (refused_new z (record { thread = t; order = o }))
  unfolding step row_op perform
  barred-is o n = subst (λ (c : Bool). said (ltb t z.threads) p d ≡ refused (number c (ltb t z.threads) d))
      (sym (ne_eqb o 0 n)) (from (ltb t z.threads))
    where
      p : Phase
      p = (thread_at l t).phase

      d : Option Order
      d = decode z o

      from : (b : Bool) → said b p d ≡ refused (number false b d)
      from true = by_order p o n
      from false = refl
