-- A thread's cells and its step: a row that wakes wakes the group in its thread's hand, which is what the thread has
-- seen last; and whether it is able to move, and which order it gets, goes by its program counter.
use Prim.{tt}
use Rattle.lock.proofs.Library.{ℕ, zero, suc, ◌≤◌, ◌<◌, ◌≡◌, refl, sym, ap, ◌∙◌, Bool, not, ◌≢◌, List, arith}
use Rattle.lock.proofs.Library.{ℕ_discrete, eqb, get_or, eq-eqb, ne_eqb}
use Rattle.laws.proofs.Lock.{Phase, Look, Standing, Sizes, standing, op, thread_at, row_op}
use Rattle.lock.proofs.Choice.{clash}
use Rattle.cells.specs.View.{phases, phase_of, node, route, below, seen, pc, phase_at, state_of}
use Rattle.cells.proofs.Parts.{thread-is}
use Rattle.cells.proofs.Standings.{standings, stands, calling-at, asleep-at}
use Rattle.step.proofs.Phases.{every}
use Rattle.dispatch_model.specs.Code.{able_in}
use Rattle.dispatch_model.proofs.Sets.{InHand}
use Rattle.laws.proofs.Orders.{of-phase}

infixr 4 ◌▸◌
-- ---- the group in hand

-- a fact of a phase, and those of the phases behind it
◌▸◌ : {A B : Type 0} → A → B → A × B
◌▸◌ a b = (a, b)

-- of the rows only three wake: readers, a writer, and the readers of a downgrade
at_row : (F c n b v i : ℕ) → InHand v (op F (phase_of i c n b v))
unfolding op
at_row F c n b v i =
    every (λ (p : Phase). InHand v (op F p)) (phases c n b v) i (Look 32)
    (tt ▸ tt ▸ tt ▸ tt ▸ tt ▸ tt ▸ tt ▸ tt ▸ tt ▸ tt ▸ tt ▸ tt ▸ tt ▸ tt ▸ tt ▸ tt ▸ tt ▸ tt ▸ tt ▸ tt
    ▸ tt ▸ tt ▸ tt ▸ tt ▸ tt ▸ tt ▸ tt ▸ tt ▸ tt ▸ tt ▸ tt ▸ tt ▸ tt
    ▸ refl ▸ tt ▸ refl ▸ tt ▸ tt ▸ tt ▸ tt ▸ tt ▸ tt ▸ tt
    ▸ refl ▸ tt ▸ tt ▸ tt ▸ tt ▸ tt ▸ tt ▸ tt) tt

-- a row that begins a call wakes nobody
pub in-hand : (z : Sizes) (l : List ℕ) (t o : ℕ)
    → t < 64 → InHand (seen l t) (row_op z (thread_at (state_of l) t).phase (record { thread = t; order = o }))
in-hand z l t o h =
    rw (thread-is l t h)
    (of-phase z (phase_at l t) (record { thread = t; order = o }) (InHand (seen l t))
    (λ i. at_row z.fan (node l t) (route l t) (below l t) (seen l t) (pc l t)) (λ i w d p k. tt) (λ i. tt)
    (λ n k. tt))

-- ---- able to move, by the program counter

pub able-by : (pc c n b v : ℕ) (w : Bool)
    → able_in (standing (phase_of pc c n b v)) w ≡ able_in (standing (phase_of pc 0 0 0 0)) w
able-by pc c n b v w = ap (λ (x : Standing). able_in x w) (stands pc c n b v)
    ∙ from pc ∙ sym (ap (λ (x : Standing). able_in x w) (stands pc 0 0 0 0))
  where
    from : (pc : ℕ) → able_in (get_or (standings n) pc Standing.Calling) w
        ≡ able_in (get_or (standings 0) pc Standing.Calling) w
    from zero = refl
    from (suc zero) = refl
    from (suc (suc zero)) = refl
    from (suc (suc (suc k))) = refl

-- the first three rows are outside calls
pub outside : (pc c n b v : ℕ) → pc < 3 → standing (phase_of pc c n b v) ≢ Standing.Calling
outside pc c n b v h q = from pc h (sym (stands pc c n b v) ∙ q)
  where
    from : (pc : ℕ) → pc < 3 → get_or (standings n) pc Standing.Calling ≡ Standing.Calling → ⊥
    from zero h e = clash cc
    from (suc zero) h e = clash cc
    from (suc (suc zero)) h e = clash cc
    from (suc (suc (suc k))) h e = omega arith

pub outside-able : (pc : ℕ) (w : Bool) → pc < 3 → w ≡ able_in (standing (phase_of pc 0 0 0 0)) w
outside-able pc w h = from pc h ∙ sym (ap (λ (x : Standing). able_in x w) (stands pc 0 0 0 0))
  where
    from : (pc : ℕ) → pc < 3 → w ≡ able_in (get_or (standings 0) pc Standing.Calling) w
    from zero h = refl
    from (suc zero) h = refl
    from (suc (suc zero)) h = refl
    from (suc (suc (suc k))) h = absurd (omega arith)

-- from 3 on it is in a call, and able, or asleep
pub by-pc : (pc : ℕ) (w : Bool) → 3 ≤ pc → not (eqb pc 49) ≡ able_in (standing (phase_of pc 0 0 0 0)) w
by-pc pc w g = elim (ℕ_discrete pc 49) [
  | yes h ↦ ap not (eq-eqb pc 49 h) ∙ sym (ap (λ (x : Standing). able_in x w) (asleep-at pc 0 0 0 0 h))
  | no h ↦
      ap not (ne_eqb pc 49 h) ∙ sym (ap (λ (x : Standing). able_in x w)
      (calling-at pc 0 0 0 0 (λ e. omega arith) (λ e. omega arith) (λ e. omega arith) h))
]
