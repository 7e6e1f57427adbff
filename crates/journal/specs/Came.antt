-- What a row made of any machine, as the code tells of it: S is the machine's state, E what it notes of a row.
use Rattle.std.specs.Prelude.{◌≡◌, Result}
use Rattle.lock.specs.declared.Entry.{Entry}
use Rattle.lock.specs.declared.Refusal.{Refusal}
use Rattle.lock.specs.Machine.{OutcomeOf, state_after, RefusedAsRow}
use Rattle.rows.specs.Outcome.{given, numbered}

-- the outcome q came about: the state s became s', and m tells of it
pub record Came {S E : Type 0} (write : E → Entry) (s s' : S) (m : Result Entry Refusal) (q : OutcomeOf S E) : Type 0 where
  pub left : s' ≡ state_after s q
  pub is : numbered m ≡ given write q
  pub fair : RefusedAsRow q
