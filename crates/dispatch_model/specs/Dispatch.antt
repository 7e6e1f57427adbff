-- The dispatcher (document 02, Nine): what each thread wants, whose turn it is, and the steps given. Who gets the next
-- step is a parameter: going round by number is one choice, a list of turns the other.
use Rattle.std.specs.Prelude.{ℕ, zero, suc, List, [], ◌∷◌, eqb, ltb}
use Rattle.std.proofs.Math.Option.{Option, none, some}
use Rattle.std.specs.Prelude.{if◌then◌else◌}
use Rattle.lock.specs.declared.Standing.{Standing}
use Rattle.lock.specs.Phase.{standing}
use Rattle.lock.specs.declared.Sizes.{Sizes}
use Rattle.lock.specs.State.{State, fresh, thread_at, Outcome, taken, refused}
use Rattle.lock.specs.Run.{Row, step}
use Rattle.lock.specs.Demand.{is_by}

-- ---- what each thread wants

-- "each row is a call that its thread wants, in file order": the orders of thread u's rows
abbrev pub wants_of : ℕ → List Row → List ℕ
wants_of u [] = []
wants_of u (r ∷ rs) = if is_by u r then r.order ∷ wants_of u rs else wants_of u rs

-- the calls that each thread still wants
abbrev pub Wants : Type 0
Wants = ℕ → List ℕ

-- thread t still wants os
abbrev pub now_wants : ℕ → List ℕ → Wants → Wants
now_wants t os w u = if eqb u t then os else w u

-- ---- the step of a thread, if it gets one

-- its order, and the calls that it wants after it
pub record Offer : Type 0 where
  pub order : ℕ
  pub later : List ℕ

-- an idle or holding thread begins its next call; without one it is "done with its last call"
abbrev pub begins : List ℕ → Option Offer
begins [] = none
begins (o ∷ os) = some (record { order = o; later = os })

-- "a step to each that is neither asleep nor done with its last call": order 0 inside a call
abbrev pub offered : Standing → List ℕ → Option Offer
offered Standing.Idle os = begins os
offered (Standing.Reading k) os = begins os
offered Standing.Writing os = begins os
offered Standing.Calling os = some (record { order = 0; later = os })
offered Standing.Asleep os = none

unfoldable pub offer : State → Wants → ℕ → Option Offer
unfolding standing
offer s w u = offered (standing (thread_at s u).phase) (w u)

-- ---- whose turn it is

-- "it goes round the threads by number"
abbrev pub behind : ℕ → ℕ → ℕ
behind T t = if eqb (suc t) T then 0 else suc t

-- a thread, and the step that it gets
pub record Turn : Type 0 where
  pub thread : ℕ
  pub gets : Offer

abbrev pub row_of : Turn → Row
row_of v = record { thread = v.thread; order = v.gets.order }

-- thread t gets what it is offered; where that is nothing, the turn passes on
abbrev pub or_else : ℕ → Option Turn → Option Offer → Option Turn
or_else t rest none = rest
or_else t rest (some o) = some (record { thread = t; gets = o })

-- the first thread from t on that gets a step, k threads being asked
unfoldable pub turn : ℕ → (ℕ → Option Offer) → ℕ → ℕ → Option Turn
turn T f zero t = none
turn T f (suc k) t = let rest = turn T f k (behind T t) in or_else t rest (f t)

-- ---- the steps

-- 0 or the refusal that ended it, the steps given, the state after them, and the calls that did not begin
pub record Dispatched : Type 0 where
  pub answer : ℕ
  pub steps : List Row
  pub state : State
  pub wants : Wants

abbrev pub ended : ℕ → State → Wants → Dispatched
ended n s w = record { answer = n; steps = []; state = s; wants = w }

abbrev pub stepped : Row → Dispatched → Dispatched
stepped r d = record { answer = d.answer; steps = r ∷ d.steps; state = d.state; wants = d.wants }

-- the turn is someone's, or nobody's
abbrev pub whose : Dispatched → (Turn → Dispatched) → Option Turn → Dispatched
whose d f none = d
whose d f (some v) = f v

-- "an unsuitable call, 7, when its turn comes": a refused row is no step, and ends it
abbrev pub outcome : Row → (State → Dispatched) → (ℕ → Dispatched) → Outcome → Dispatched
outcome r f g (taken s e) = stepped r (f s)
outcome r f g (refused n) = g n

-- Who gets the next step: by what each thread is offered and by what the chooser keeps, a turn or none; and what it
-- keeps after the step of that turn.
pub record Chooser (C : Type 0) : Type 0 where
  pub choose : (ℕ → Option Offer) → C → Option Turn
  pub after : (ℕ → Option Offer) → C → Turn → C

-- At most k more steps, "after which no turn comes"; the chooser keeps c
unfoldable pub go : {C : Type 0} → Chooser C → Sizes → ℕ → State → Wants → C → Dispatched
unfolding step offer
go ch z zero s w c = ended 0 s w
go ch z (suc k) s w c =
    whose (ended 0 s w)
    (λ v. outcome (row_of v)
    (λ s'. go ch z k s' (now_wants v.thread v.gets.later w) (ch.after (offer s w) c v))
    (λ n. ended n s w)
    (step z s (row_of v)))
    (ch.choose (offer s w) c)

-- "up to 4,096 steps in all"
abbrev pub most : ℕ
most = 4096

-- on a fresh lock, where the chooser begins with c
unfoldable pub dispatch_by : {C : Type 0} → Chooser C → C → Sizes → List Row → Dispatched
dispatch_by ch c z rs = go ch z most fresh (λ u. wants_of u rs) c

-- ---- going round

-- from thread t on, of T threads
abbrev pub round : ℕ → Chooser ℕ
round T = record { choose = λ f t. turn T f T t; after = λ f t v. behind T v.thread }

-- "From thread 0"
abbrev pub dispatch : Sizes → List Row → Dispatched
dispatch z rs = dispatch_by (round z.threads) 0 z rs

-- ---- a list of turns

-- what thread t gets of T threads, if it is one of them
abbrev pub within : ℕ → (ℕ → Option Offer) → ℕ → Option Offer
within T f t = if ltb t T then f t else none

-- a turn whose thread is offered nothing, or is T or more, is passed over
abbrev pub up_to : {A : Type 0} → A → (Offer → A) → Option Offer → A
up_to a g none = a
up_to a g (some o) = g o

-- the first turn that is not passed over, and the turns behind it
unfoldable pub first_turn : ℕ → (ℕ → Option Offer) → List ℕ → Option Turn
first_turn T f [] = none
first_turn T f (t ∷ ts) = up_to (first_turn T f ts) (λ o. some (record { thread = t; gets = o })) (within T f t)

unfoldable pub turns_left : ℕ → (ℕ → Option Offer) → List ℕ → List ℕ
turns_left T f [] = []
turns_left T f (t ∷ ts) = up_to (turns_left T f ts) (λ o. ts) (within T f t)

abbrev pub by_turns : ℕ → Chooser (List ℕ)
by_turns T = record { choose = λ f ts. first_turn T f ts; after = λ f ts v. turns_left T f ts }

-- the wanted calls at these turns
abbrev pub drawn : List ℕ → Sizes → List Row → Dispatched
drawn ts z rs = dispatch_by (by_turns z.threads) ts z rs
