-- Late arrivals do occur.
use Rattle.std.specs.Prelude.{◌≡◌, List, [], ◌∷◌, ◌++◌}
use Rattle.lock.specs.Run.{Row}
use Rattle.lock.specs.Examples.{sizes, by, p11}
use Rattle.laws.specs.Late.{entry_at, Closes, Success, Late}

-- P11's thread 1, whose read-lock by node 1 begins in row 3, succeeds in row 15, at a closed root
pub record LateInP11 : Type 0 where
  pub success : Success (sizes 2 1 3) p11 1 1 3 15
  pub late : Late (sizes 2 1 3) p11 1 3 15

-- Thread 1 looks; thread 0 write-locks; a writer queues; thread 0 downgrades, which stores a closed root; thread 1
-- arrives.
abbrev pub stored_shut : List Row
stored_shut = by 1 (65 ∷ 0 ∷ []) ++ by 0
    (1 ∷ 0 ∷ 0 ∷ []) ++ by 2 (1 ∷ 0 ∷ 0 ∷ 0 ∷ 0 ∷ 0 ∷ []) ++ by 0 (4 ∷ 0 ∷ 0 ∷ 0 ∷ 0 ∷ []) ++ by 1 (0 ∷ 0 ∷ 0 ∷ 0 ∷ [])

-- its closing step, row 14, is "A store that opens with arrivals straight into closed"
pub record LateAfterStore : Type 0 where
  pub success : Success (sizes 2 1 3) stored_shut 1 1 0 19
  pub late : Late (sizes 2 1 3) stored_shut 1 0 19
  pub closes : Closes (sizes 2 1 3) stored_shut 14
  pub store : (entry_at (sizes 2 1 3) stored_shut 14).kind ≡ 5
