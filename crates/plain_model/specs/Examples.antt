-- Small runs of the plain engine.
use Rattle.std.specs.Prelude.{ℕ, List, [], ◌∷◌, ◌++◌, take}
use Rattle.lock.specs.declared.Phase.{Phase}
use Rattle.lock.specs.declared.Thread.{Thread}
use Rattle.lock.specs.declared.Phase.TheVariants.{Idle, Asleep, Reading}
use Rattle.lock.specs.declared.Sizes.{Sizes}
use Rattle.lock.specs.Run.{Row}
use Rattle.lock.specs.Text.{text}
use Rattle.lock.specs.Examples.{ExampleOf, AllGive}
use Rattle.plain_model.specs.Root.{shut_at}
use Rattle.plain_model.specs.Plain.{Plain, plain_fresh, PlainResult, plain_run}

abbrev row : ℕ → ℕ → Row
row t o = record { thread = t; order = o }

abbrev at : Phase → Thread
at p = record { phase = p; failures = 0 }

abbrev four : Sizes
four = record { nodes = 2; fan = 1; threads = 4; items = 0 }

-- the answer, the calls taken, and the state, of which four threads are shown
pub record Ending : Type 0 where
  pub answer : ℕ
  pub taken : ℕ
  pub state : Plain

abbrev ending : PlainResult → Ending
ending r =
    record {
      answer = r.answer;
      taken = r.taken;
      state = record { root = r.state.root; queue = r.state.queue; threads = take 4 r.state.threads };
    }

-- thread 0 writes; a reader, a writer and a reader queue; thread 0 unlocks
abbrev calls : List Row
calls = row 0 1 ∷ row 1 64 ∷ row 2 1 ∷ row 3 65 ∷ row 0 2 ∷ []

-- and then one more, which is refused with n
abbrev refusing : Row → ℕ → ExampleOf (List Row) Ending
refusing r n =
    record {
      gets = calls ++ r ∷ [];
      gives =
          record {
            answer = n;
            taken = 5;
            state =
                record {
                  root = shut_at 2;
                  queue = record { readers = 0; writers = 2 ∷ []; waiting = 1 };
                  threads = at Idle ∷ at (Reading 0) ∷ at Asleep ∷ at (Reading 0) ∷ [];
                };
          };
    }

-- an order to a sleeper; order 0; a node that is not there; an unlock by an idle thread; thread T; an upgrade; a
-- downgrade
unfoldable pub examples : List (ExampleOf (List Row) Ending)
examples =
    refusing (row 2 2) 7
    ∷ refusing (row 2 0) 6 ∷ refusing (row 0 66) 6 ∷ refusing (row 0 2) 7 ∷ refusing (row 4 64) 5 ∷ refusing (row 1 3) 6
    ∷ refusing (row 0 4) 6 ∷ []

unfoldable pub AllEnd : List (ExampleOf (List Row) Ending) → Type 0
unfolding plain_run
AllEnd = AllGive (λ (rs : List Row). ending (plain_run four plain_fresh rs))

-- the first list as a file, and its sheet
unfoldable pub file : List ℕ
file = 2 ∷ 1 ∷ 4 ∷ 6 ∷ 0 ∷ 0 ∷ 1 ∷ 2 ∷ 3 ∷ 0 ∷ 2 ∷ 1 ∷ 64 ∷ 1 ∷ 65 ∷ 2 ∷ 2 ∷ []

unfoldable pub file_sheet : List ℕ
unfolding text
file_sheet = text
    "answer 7 at 5\nroot 2 closed\nqueue free 1 1\nthread 0 idle - 0\nthread 1 reading - 0\nthread 2 asleep - 0\nthread 3 reading - 0\n"
