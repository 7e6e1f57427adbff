-- The order's own contract, by the order byte; refusals 5 and 6 where there is no such thread or order.
use Rattle.lock.proofs.Library.{ℕ, ◌≤◌, ◌<◌, ◌≡◌, refl, ap, ◌∙◌, List, rules, arith}
use Rattle.lock.specs.declared.Sizes.{Sizes}
use Rattle.laws.proofs.Lock.{standing, decode}
use Rattle.cells.specs.View.{phase_at, state_of}
use Rattle.plain_model.specs.Plain.{ordered, plain_step}
use Rattle.plain_calls.specs.View.{plain_of}
use Rattle.plain_calls.proofs.Calls.{stands-own}
use Rattle.plain_engine.proofs.Orders.{step-there, step-far, refuses, low-denied, high-denied}
use Rattle.plain_engine.proofs.Reach.{called}
use Rattle.step.proofs.Orders.{decode-node, decode-far}
use Rattle.plain_engine.proofs.call.Goals as goal

-- thread t is there, and its order is k
obeys : (z : Sizes) (l : List ℕ) (t o : ℕ) {k : ℕ} → z.threads ≤ 64 → t < z.threads → o ≡ k
    → plain_step z (plain_of (state_of l)) (record { thread = t; order = o })
    ≡ ordered (plain_of (state_of l)) t (standing (phase_at l t)) (decode z k)
obeys z l t o few h q =
    step-there z l t o few h
    ∙ ap (λ (n : ℕ). ordered (plain_of (state_of l)) t (standing (phase_at l t)) (decode z n)) q

pub returns-then-z-t : goal.returns-then-z-t
returns-then-z-t c =
    called _ (refuses 5 (omega arith) (stands-own c.requires.stands) (step-far _ _ _ _ c.if-z-t.true) refl)

pub returns-then-z-n : goal.returns-then-z-n
returns-then-z-n c =
    let a = c.args in
    let far = decode-far a.z a.order (omega arith) (omega arith) c.if-z-n.true in
    called _ (refuses 6 (omega arith) (stands-own c.requires.stands)
    (rw (obeys a.z a.l.now a.t a.order c.requires.range.threads c.if-z-t.false refl, far)) refl)

pub returns-in-1 : goal.returns-in-1
returns-in-1 c =
    let a = c.args in
    called _ (rw (obeys a.z a.l.now a.t a.order c.requires.range.threads c.if-z-t.false c.in-1.is) c.write_lock.ensures)

pub returns-in-2 : goal.returns-in-2
returns-in-2 c =
    let a = c.args in
    called _ (rw (obeys a.z a.l.now a.t a.order c.requires.range.threads c.if-z-t.false c.in-2.is) c.unlock.ensures)

pub returns-else-z-n : goal.returns-else-z-n
returns-else-z-n c =
    let a = c.args in
    let node = decode-node a.z a.order (omega arith) (omega arith) c.if-z-n.false in
    called _ (rw (obeys a.z a.l.now a.t a.order c.requires.range.threads c.if-z-t.false refl, node) c.read_lock.ensures)

pub returns-in_default : goal.returns-in_default
returns-in_default c =
    let a = c.args in
    called _
    (refuses 6 (omega arith) (stands-own c.requires.stands)
    (obeys a.z a.l.now a.t a.order c.requires.range.threads c.if-z-t.false refl
    ∙ low-denied a.z a.order (search rules) (search rules) (omega arith) (plain_of (state_of a.l.now)) a.t _) refl)

pub returns-in_default-2 : goal.returns-in_default-2
returns-in_default-2 c =
    let a = c.args in
    called _
    (refuses 6 (omega arith) (stands-own c.requires.stands)
    (obeys a.z a.l.now a.t a.order c.requires.range.threads c.if-z-t.false refl
    ∙ high-denied a.z a.order (omega arith) (plain_of (state_of a.l.now)) a.t _) refl)
