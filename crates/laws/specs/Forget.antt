-- The lock without its threads' failures: they are counted and shown, and no row goes by them.
use Rattle.std.specs.Prelude.{◌≡◌, map}
use Rattle.lock.specs.declared.Sizes.{Sizes}
use Rattle.lock.specs.declared.Thread.{Thread}
use Rattle.lock.specs.State.{State, with_threads, Outcome, taken, refused}
use Rattle.lock.specs.Run.{Row, step}

abbrev pub forget_thread : Thread → Thread
forget_thread h = record { phase = h.phase; failures = 0 }

-- the state with every thread's failures at 0
abbrev pub forget : State → State
forget s = with_threads s (map forget_thread s.threads)

-- two states are the same but for failures
abbrev pub Alike : State → State → Type 0
Alike s s' = forget s ≡ forget s'

-- an outcome with every thread's failures at 0
abbrev pub forget_after : Outcome → Outcome
forget_after (taken s e) = taken (forget s) e
forget_after (refused n) = refused n

-- Failures do not matter: a row is taken or refused whatever they are, with the same entry or number, and leads to the
-- same state but for them.
abbrev pub FailuresDoNotMatter : Type 0
FailuresDoNotMatter =
    (z : Sizes) (s s' : State) → Alike s s' → (r : Row) → forget_after (step z s r) ≡ forget_after (step z s' r)
