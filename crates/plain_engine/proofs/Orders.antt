-- A call that came about, or was refused, by its order.
use Rattle.lock.proofs.Library.{ℕ, ◌-◌, ◌≤◌, ◌<◌, ◌≡◌, refl, ◌≢◌, List, arith, ℕ_discrete, dec_lt, lt-ltb, le-ltb}
use Rattle.laws.proofs.Cases.{dec-both}
use Rattle.laws.proofs.Lock.{Sizes, Standing, standing, decode, taken, refused, OfRow}
use Rattle.cells.specs.View.{pc, node, route, below, seen, phase_at, state_of}
use Rattle.cells.{proofs.Standings.unless-idle, proofs.Standings.unless-holding, proofs.Parts.thread-is}
use Rattle.step.proofs.Orders.{decode-low, decode-high, decode-item, decode-behind}
use Rattle.plain_model.specs.Plain.{Plain, PlainOutcome, if_idle, if_holding, ordered, plain_step}
use Rattle.plain_calls.specs.View.{plain_of, Stands}
use Rattle.plain_engine.specs.Calls.{Comes}

pub does : {l l' : List ℕ} {n : ℕ} {c : PlainOutcome} {p : Plain} → c ≡ taken p tt → Stands l' p → n ≡ 0
    → Comes l l' n c
does e h i = rw e (record { left = h; is = i; fair = tt })

pub refuses : (a : ℕ) → OfRow a → {l : List ℕ} {n : ℕ} {c : PlainOutcome} → Stands l (plain_of (state_of l))
    → c ≡ refused a → n ≡ a → Comes l l n c
refuses a b s e i = rw e (record { left = s; is = i; fair = b })

module _ (z : Sizes) (l : List ℕ) (t o : ℕ) where
  pub step-there : z.threads ≤ 64 → t < z.threads
      → plain_step z (plain_of (state_of l)) (record { thread = t; order = o })
      ≡ ordered (plain_of (state_of l)) t (standing (phase_at l t)) (decode z o)
  unfolding plain_step
  step-there n h = rw (lt-ltb t z.threads h, thread-is l t (omega arith))

  pub step-far : z.threads ≤ t → plain_step z (plain_of (state_of l)) (record { thread = t; order = o }) ≡ refused 5
  unfolding plain_step
  step-far h = rw (le-ltb t z.threads h)

-- a lock is asked for by a thread that is not idle, an unlock by one that does not hold
module _ {l : List ℕ} (t : ℕ) (s : Stands l (plain_of (state_of l))) where
  pub not-idle : (q : Plain) → pc l t ≢ 0 → Comes l l 7 (if_idle q (standing (phase_at l t)))
  not-idle q h =
      refuses 7 (omega arith) s
      (unless-idle (node l t) (route l t) (below l t) (seen l t) (λ (x : Standing). if_idle q x ≡ refused 7) (pc l t) h
      refl refl refl refl) refl

  pub not-holding : (p : Plain) → pc l t ≢ 1 → pc l t ≢ 2 → Comes l l 7 (if_holding p t (standing (phase_at l t)))
  not-holding p h k =
      refuses 7 (omega arith) s
      (unless-holding (node l t) (route l t) (below l t) (seen l t) (λ (x : Standing). if_holding p t x ≡ refused 7)
      (pc l t) h k refl refl refl) refl

-- orders below 64 that begin no call: "order 0 under 6", an upgrade, a downgrade
pub low-denied : (z : Sizes) (o : ℕ) → o ≢ 1 → o ≢ 2 → o < 64 → (p : Plain) (t : ℕ) (x : Standing)
    → ordered p t x (decode z o) ≡ refused 6
low-denied z o a b h p t x =
    dec-both (ℕ_discrete o 0) (λ e. rw e)
    (λ c. dec-both (ℕ_discrete o 3) (λ e. rw e)
    (λ d. dec-both (ℕ_discrete o 4) (λ e. rw e)
    (λ k. rw (decode-low z o c a b d k h))))

-- orders from 96 on: the plain engine has no till, and a booking is none of its orders
pub high-denied : (z : Sizes) (o : ℕ) → 96 ≤ o → (p : Plain) (t : ℕ) (x : Standing) → ordered p t x (decode z o)
    ≡ refused 6
high-denied z o h p t x =
    dec-both (dec_lt o 128)
    (λ l. dec-both (dec_lt (o - 96) z.items) (λ k. rw (decode-item z o (omega arith) h l k))
    (λ k. rw (decode-behind z o (omega arith) h l (omega arith))))
    (λ l. rw (decode-high z o (omega arith) (omega arith)))
