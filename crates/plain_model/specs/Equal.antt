-- Document 02, Four: "Show it equal to the tree: whenever each call in a schedule is run to such an end before another
-- thread moves, both engines give the same standings, queue, open flag and the same yes or no to 'is the root's count
-- zero'. State it over any N and F." The tree is the bench as it runs, on two fresh locks: the first is compared, and
-- the second, for which the plain engine has no orders, stays fresh.
use Rattle.std.specs.Prelude.{ℕ, ◌+◌, ◌≤◌, ◌<◌, ◌≡◌, ◌⊎◌, ◌≢◌, List, [], ◌∷◌, eqb, length}
use Rattle.std.proofs.Math.Option.{none}
use Rattle.std.specs.Prelude.{if◌then◌else◌}
use Rattle.lock.specs.Word.{is_closed, is_zero}
use Rattle.lock.specs.declared.Standing.{Standing}
use Rattle.lock.specs.Phase.{standing}
use Rattle.lock.specs.declared.Sizes.{Sizes}
use Rattle.lock.specs.State.{State, fresh, word_at, thread_at}
use Rattle.lock.specs.Machine.{Row, OutcomeOf, taken, refused}
use Rattle.lock.specs.File.{InRange}
use Rattle.laws.specs.Exclusion.{Resting}
use Rattle.pair.specs.Pair.{Pair, fresh_pair, Note, turn, run}
use Rattle.plain_model.specs.Root.{is_shut}
use Rattle.plain_model.specs.Plain.{Plain, plain_fresh, plain_at, plain_step, plain_run}
use Rattle.plain_model.specs.Alike.{AlikeSheets}

-- ---- the schedules that it is about

-- Document 02, Seven: "whose equality with the tree is from now on over calls with orders it takes": write-lock,
-- unlock, and read-lock by a node that there is
abbrev pub PlainOrder : Sizes → ℕ → Type 0
PlainOrder z o = (o ≡ 1) ⊎ ((o ≡ 2) ⊎ ((64 ≤ o) × (o < 64 + z.nodes)))

-- "before another thread moves": no thread but t is in a call
abbrev pub OthersRest : State → ℕ → Type 0
OthersRest s t = (u : ℕ) → u ≢ t → standing (thread_at s u).phase ≢ Standing.Calling

abbrev pub IfTaken : (Pair → Type 0) → OutcomeOf Pair Note → Type 0
IfTaken P (taken s e) = P s
IfTaken P (refused n) = ⊥

-- "each call in a schedule is run to such an end before another thread moves", from the locks s: each row has order 0
-- or one that the plain engine takes, and is taken, while no other thread than the row's is in a call, and at the end
-- every thread "is idle, holds or sleeps"
unfoldable pub Whole : Sizes → Pair → List Row → Type 0
Whole z s [] = Resting s.one
Whole z s (r ∷ rs) = ((r.order ≡ 0) ⊎ PlainOrder z r.order) × OthersRest s.one r.thread
    × IfTaken (λ s'. Whole z s' rs) (turn z s r)

-- its calls: the rows that begin one
abbrev pub calls : List Row → List Row
calls [] = []
calls (r ∷ rs) = if eqb r.order 0 then calls rs else r ∷ calls rs

-- ---- what both engines give

-- a standing without its ticket: the plain engine has none, and its readers are at `Reading 0`
abbrev pub ticketless : Standing → Standing
ticketless Standing.Idle = Standing.Idle
ticketless (Standing.Reading k) = Standing.Reading 0
ticketless Standing.Writing = Standing.Writing
ticketless Standing.Calling = Standing.Calling
ticketless Standing.Asleep = Standing.Asleep

pub record Same (s : State) (p : Plain) : Type 0 where
  pub standings : (t : ℕ) → standing (plain_at p t).phase ≡ ticketless (standing (thread_at s t).phase)
  pub queue : p.queue ≡ s.queue
  pub flag : is_shut p.root ≡ is_closed (word_at s 0)
  pub zero : eqb p.root.count 0 ≡ is_zero (word_at s 0)
  -- what the plain engine's sheet prints of every run is so in the tree: the mutex is free, and no swap has failed
  pub mutex : s.mutex ≡ none
  pub unfailed : (t : ℕ) → (thread_at s t).failures ≡ 0

-- ---- the claim

pub record Equal (z : Sizes) : Type 0 where
  -- the tree takes such a schedule, and its second lock stays fresh; the plain engine takes its calls; its state and
  -- the first lock's are the same, and so are both sheets but for node lines, tickets and the root's numbers
  pub same : (rs : List Row) → Whole z fresh_pair rs
      → ((run z fresh_pair rs).answer ≡ 0)
      × ((run z fresh_pair rs).state.two ≡ fresh)
      × ((plain_run z plain_fresh (calls rs)).answer ≡ 0)
      × ((plain_run z plain_fresh (calls rs)).taken ≡ length (calls rs))
      × Same (run z fresh_pair rs).state.one (plain_run z plain_fresh (calls rs)).state
      × AlikeSheets z (run z fresh_pair rs).state (plain_run z plain_fresh (calls rs)).state
  -- after it, both engines take the next call of these orders, or refuse it with the same number
  pub next : (rs : List Row) → Whole z fresh_pair rs → (r : Row) → PlainOrder z r.order
      → (run z (run z fresh_pair rs).state (r ∷ [])).answer
      ≡ (plain_run z (plain_run z plain_fresh (calls rs)).state (r ∷ [])).answer
  -- every other order of a thread that there is gets 6 from the plain engine, whatever its state
  pub others : (p : Plain) (r : Row)
      → r.thread < z.threads → (PlainOrder z r.order → ⊥) → plain_step z p r ≡ refused 6
  -- calls that the plain engine takes have such a schedule: each call ends
  pub ends : (cs : List Row)
      → (plain_run z plain_fresh cs).answer ≡ 0 → (rs : List Row) × (calls rs ≡ cs) × Whole z fresh_pair rs

-- "over any N and F"
abbrev pub Equals : Type 0
Equals = (z : Sizes) → InRange z → Equal z
