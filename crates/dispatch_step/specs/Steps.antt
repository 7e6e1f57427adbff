-- One step of the dispatcher in place: whose it is, the order that it draws, and what the two locks and the sets are
-- after it.
use Rattle.std.specs.Prelude.{ℕ, ◌≤◌, ◌<◌, ◌≡◌, Bool, List, eqb, leb, ltb, length, get_or, set, Result, Ok, Err}
use Rattle.lock.specs.Bound.{steps_before}
use Rattle.std.specs.Prelude.{if◌then◌else◌}
use Rattle.lock.specs.declared.{Sizes.{Sizes}, Entry.{Entry}, Refusal.{Refusal}}
use Rattle.lock.specs.Queue.{only}
use Rattle.lock.specs.Phase.{standing}
use Rattle.cells.specs.View.{phase_of, seen, pc}
use Rattle.pair.specs.Pair.{first}
use Rattle.turn.specs.Turn.{cells_of, Place, Turned}
use Rattle.dispatch_model.specs.Code.{replaced, able_in, only_if}
use Rattle.dispatch_step.specs.declared.Sets.{Sets}
use Rattle.dispatch_step.specs.declared.Step.{Step}

-- ---- the order that is drawn, by the lock l: heads has the place of each thread's next call, later of the one behind

-- inside a call it goes on; outside it begins its next call
abbrev pub drawn_order : List ℕ → ℕ → List ℕ → List ℕ → ℕ
drawn_order l t os heads = if leb 3 (pc l t) then 0 else get_or os (get_or heads t 0) 0

abbrev pub drawn_heads : List ℕ → ℕ → List ℕ → List ℕ → List ℕ
drawn_heads l t later heads = if leb 3 (pc l t) then heads else set heads t (get_or later (get_or heads t 0) 0)

-- thread t may draw: outside a call it wants one
pub record Drawable (l : List ℕ) (t : ℕ) (os later heads : List ℕ) : Type 0 where
  pub there : t < 64
  pub few : length os ≤ 4096
  pub call : pc l t < 3 → get_or heads t 0 < length os

-- ---- the sets after it

-- with order 0 thread t goes on with a call, and wants what it wanted
abbrev pub wanting_after : ℕ → ℕ → ℕ → Bool → ℕ
wanting_after wanting t order more = if eqb order 0 then wanting else replaced wanting (only t) (only_if t more)

-- the others as before, those woken if they want a call, and t itself
abbrev pub able_after : ℕ → ℕ → ℕ → ℕ → Bool → ℕ
able_after able woken wanting t moves = replaced (replaced able woken wanting) (only t) (only_if t moves)

-- the group that a row of this kind woke, which its thread had in hand
abbrev pub woken_by : ℕ → ℕ → ℕ
woken_by kind hand = if eqb kind 9 then hand else 0

-- ---- the step

-- thread t at the sets a made a row of this kind with this order, and the lock was l and is l'; it still
-- wants a call, or does not
abbrev pub sets_after : ℕ → Sets → ℕ → ℕ → Bool → List ℕ → List ℕ → Sets
sets_after t a kind order more l l' =
    record {
      able = able_after a.able (woken_by kind (seen l t))
          (wanting_after a.wanting t order more) t (able_in (standing (phase_of (pc l' t) 0 0 0 0)) more);
      wanting = wanting_after a.wanting t order more;
    }

pub record Steppable (z : Sizes) (os later heads : List ℕ) (ls : List (List ℕ)) (t : ℕ) : Type 0 where
  pub place : Place z ls steps_before
  pub drawable : Drawable (cells_of first ls) t os later heads

-- what the step gives, where thread t drew this order at the sets a, and its row came to m
abbrev pub step_of : ℕ → Sets → ℕ → Bool → List ℕ → List ℕ → Result Entry Refusal → Result Step Refusal
step_of t a order more l l' (Ok e) = Ok (record { order = order; sets = sets_after t a e.kind order more l l' })
step_of t a order more l l' (Err r) = Err r

-- Thread t drew its order at the sets a and made its row: the locks were ls and are ls', the places
-- heads and heads'. A refused row gives no sets: they are those that it got.
pub record Stepped (z : Sizes) (os later heads heads' : List ℕ) (ls ls' : List (List ℕ)) (t : ℕ) (a : Sets)
    (r : Result Step Refusal) : Type 0 where
  pub drew : heads' ≡ drawn_heads (cells_of first ls) t later heads
  pub made : Result Entry Refusal
  pub turned : Turned z (record { thread = t; order = drawn_order (cells_of first ls) t os heads })
      ls ls' made
  pub is : r ≡
      step_of t a (drawn_order (cells_of first ls) t os heads) (ltb (get_or heads' t 0) (length os))
      (cells_of first ls) (cells_of first ls') made
