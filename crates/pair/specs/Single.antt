-- Files whose orders are all below 129 run as on one lock, and the second stays fresh: so every earlier run, the plain
-- engine and the dispatcher keep their meaning.
use Rattle.std.specs.Prelude.{◌≤◌, ◌≡◌, List, map}
use Rattle.std.proofs.Math.Option.{Option, none, some}
use Rattle.lock.specs.declared.Entry.{Entry}
use Rattle.lock.specs.declared.Sizes.{Sizes}
use Rattle.lock.specs.Machine.{Row, ResultOf}
use Rattle.lock.specs.State.{State, fresh}
use Rattle.lock.specs.Run as lock
use Rattle.lock.specs.Demand.{All}
use Rattle.pair.specs.Pair.{first, Pair, fresh_pair, Note, run}

-- a first lock, and a second one that is fresh
abbrev pub beside : State → Pair
beside l = record { one = l; two = fresh }

abbrev pub beside_if : Option State → Option Pair
beside_if none = none
beside_if (some l) = some (beside l)

-- a single lock's result as one of both
abbrev pub note_first : Entry → Note
note_first e = record { side = first; entry = e }

abbrev pub as_pair : lock.Result → ResultOf Pair Note
as_pair r =
    record { answer = r.answer; taken = r.taken; state = beside r.state; entries = map note_first r.entries }

abbrev pub Low : Row → Type 0
Low r = r.order ≤ 128

abbrev pub Single : Type 0
Single = (z : Sizes) (rs : List Row) → All Low rs → run z fresh_pair rs ≡ as_pair (lock.run z fresh rs)
