-- The runs of specs/Examples hold of the definitions: each by computing.
use Rattle.lock.proofs.Library.{refl, [], ◌∷◌, arith}
use Rattle.laws.proofs.Lock.{lines}
use Rattle.dispatch_model.specs.Dispatch.{turn, go, dispatch_by, first_turn, turns_left}
use Rattle.dispatch_model.specs.File.{answered_by}
use Rattle.dispatch_model.specs.Claims.{out, reads, writes, either, Whole, write_lock, read_lock, upgrade}
use Rattle.dispatch_model.specs.Claims.{downgrade, unlock_reader, unlock_either}
use Rattle.dispatch_model.specs.Examples.{given, examples, AllGive, drawings, AllDrawn, inputs}
use Rattle.dispatch_model.specs.Examples.{AllAnswered}

pub all_give : AllGive examples
unfolding AllGive examples given go dispatch_by turn lines
all_give = refl

pub all-drawn : AllDrawn drawings
unfolding AllDrawn drawings given go dispatch_by first_turn turns_left lines
all-drawn = refl

pub all-answered : AllAnswered inputs
unfolding AllAnswered inputs answered_by
all-answered = refl

-- write-lock, downgrade, upgrade, unlock, read-lock by node 1, unlock
pub whole-calls : Whole out (1 ∷ 4 ∷ 3 ∷ 2 ∷ 65 ∷ 2 ∷ [])
whole-calls = (
  writes,
  write_lock,
  (
    reads,
    downgrade,
    (either, upgrade, (out, unlock_either, (reads, read_lock 1 (omega arith), (out, unlock_reader, refl)))),
  ),
)
