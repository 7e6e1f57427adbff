-- What is claimed of the dispatcher, of every file. A claim speaks of the file's rows, of the steps given and of the
-- answer; the state is the one to which the bench's own definitions bring these steps.
use Rattle.std.specs.Prelude.{ℕ, zero, suc, ◌+◌, ◌*◌, ◌≤◌, ◌<◌, ◌≡◌, ◌⊎◌, ◌≢◌, not, ◌&&◌, List, [], ◌∷◌, ◌++◌, eqb, length, get_or, take, drop}
use Rattle.std.proofs.Math.Option.{some}
use Rattle.std.specs.Prelude.{if◌then◌else◌}
use Rattle.lock.specs.declared.Phase.TheVariants.{Idle}
use Rattle.lock.specs.declared.Standing.{Standing}
use Rattle.lock.specs.Phase.{standing}
use Rattle.lock.specs.declared.Sizes.{Sizes}
use Rattle.lock.specs.State.{State, fresh, thread_at, refused}
use Rattle.lock.specs.Run.{Row, step, run}
use Rattle.lock.specs.File.{sizes_of, rows_of, filed}
use Rattle.lock.specs.Sheet.{answer_line}
use Rattle.pair.specs.Pair.{fresh_pair}
use Rattle.pair.specs.Pair as pair
use Rattle.pair.specs.Single.{as_pair}
use Rattle.pair.specs.Sheet.{sheet}
use Rattle.lock.specs.Demand.{is_by}
use Rattle.laws.specs.Late.{state_at}
use Rattle.laws.specs.Sleeping.{Free}
use Rattle.dispatch_model.specs.Dispatch.{wants_of, drawn}
use Rattle.dispatch_model.specs.File.{early_refusal, first_refusal, Answered, answered, answered_by}
use Rattle.dispatch_model.specs.File.{sheet_text, sheet_by}

-- ---- the calls that a thread began, and those that it did not

-- the orders of thread u's steps that begin a call
abbrev pub begun_by : ℕ → List Row → List ℕ
begun_by u [] = []
begun_by u (r ∷ rs) = if is_by u r && not (eqb r.order 0) then r.order ∷ begun_by u rs else begun_by u rs

-- the calls that thread u wants by the rows rs and has not begun in the steps
abbrev pub unbegun : ℕ → List Row → List Row → List ℕ
unbegun u rs steps = drop (length (begun_by u steps)) (wants_of u rs)

-- "each row is a call that its thread wants, in file order": the calls that a thread began are the first of those that
-- it wants
abbrev pub InOrder : List Row → List Row → Type 0
InOrder rs steps = (u : ℕ) → begun_by u steps ++ unbegun u rs steps ≡ wants_of u rs

-- ---- who is able to move

-- in the state s, with the calls os left, thread u is "asleep" or "done with its last call"
abbrev pub Rests : State → List ℕ → ℕ → Type 0
Rests s os u = (standing (thread_at s u).phase ≡ Standing.Asleep)
    ⊎ ((standing (thread_at s u).phase ≢ Standing.Calling) × (os ≡ []))

-- ---- the round

-- "it goes round the threads by number": from thread a on, u comes before v. Two of these three hold exactly then, also
-- where the round goes on from the last thread to thread 0.
abbrev pub Sooner : ℕ → ℕ → ℕ → Type 0
Sooner a u v = ((a ≤ u) × (u < v)) ⊎ (((u < v) × (v < a)) ⊎ ((v < a) × (a ≤ u)))

-- the thread that got step j
abbrev pub thread_of : List Row → ℕ → ℕ
thread_of steps j = (get_or steps j (record { thread = 0; order = 0 })).thread

-- the thread from which the round goes on after j steps, where it began with thread a: the one behind the last step's
abbrev pub turn_from : ℕ → List Row → ℕ → ℕ
turn_from a steps zero = a
turn_from a steps (suc j) = suc (thread_of steps j)

-- ---- of a file's rows rs and the steps given

module _ (z : Sizes) (rs steps : List Row) where
  -- the state after all steps
  abbrev pub final : State
  final = (run z fresh steps).state

  -- after j steps thread u rests, or is able to move: "neither asleep nor done with its last call"
  abbrev pub RestsAt : ℕ → ℕ → Type 0
  RestsAt j u = Rests (state_at z steps j) (unbegun u rs (take j steps)) u

  abbrev pub Able : ℕ → ℕ → Type 0
  Able j u = RestsAt j u → ⊥

  -- one of the steps from i up to j is thread u's
  pub record Step (i j u : ℕ) : Type 0 where
    pub at : ℕ
    pub from : i ≤ at
    pub before : at < j
    pub own : thread_of steps at ≡ u

  -- "A thread that stays able to move gets a step within any T consecutive steps given, one held up at the mutex
  -- counting."
  abbrev pub Fair : Type 0
  Fair =
      (i u : ℕ) → u < z.threads → i + z.threads ≤ length steps → ((j : ℕ) → i ≤ j → j < i + z.threads → Able j u)
      → Step i (i + z.threads) u

  -- after j steps the turn comes to thread v: whoever the round passes over before it rests
  abbrev pub Comes : ℕ → ℕ → Type 0
  Comes j v = (u : ℕ) → u < z.threads → Sooner (turn_from 0 steps j) u v → RestsAt j u

  -- "From thread 0 it goes round the threads by number and gives a step to each that is neither asleep nor done with
  -- its last call"
  abbrev pub Round : Type 0
  Round = (j : ℕ) → j < length steps → Comes j (thread_of steps j)

  -- after some of the steps from i on, and before step j, thread u rests
  pub record Rested (i j u : ℕ) : Type 0 where
    pub at : ℕ
    pub from : i ≤ at
    pub before : at < j
    pub rests : RestsAt at u

  -- a thread is given one step a round: between two of its steps every other thread gets one, or rests
  abbrev pub Once : Type 0
  Once = (i j u : ℕ) → i < j → j < length steps → thread_of steps j ≡ thread_of steps i
      → u < z.threads → u ≢ thread_of steps i → Step (suc i) j u ⊎ Rested (suc i) (suc j) u

  -- the call `row` is refused: "an unsuitable call, 7, when its turn comes", before 4,096 steps were given
  pub record Unsuitable (row : Row) : Type 0 where
    pub later : List ℕ
    pub few : length steps < 4096
    pub there : row.thread < z.threads
    pub wanted : unbegun row.thread rs steps ≡ row.order ∷ later
    pub refuses : step z final row ≡ refused 7

  -- everybody is "asleep" or "done with its last call"
  abbrev pub AllRest : Type 0
  AllRest = (u : ℕ) → u < z.threads → Rests final (unbegun u rs steps) u

  -- How it ends, by its answer. "a step to each that is neither asleep nor done with its last call, up to 4,096 steps
  -- in all, after which no turn comes"; the call refused is that of a thread to which the turn came
  pub data Ends : ℕ → Type 0 where
    rested : AllRest → Ends 0
    full : length steps ≡ 4096 → Ends 0
    refusing : (row : Row) → Unsuitable row → Comes (length steps) row.thread → Ends 7

  -- ---- turn by turn

  -- After j steps the turns ts are left, and n is the answer: "a turn names a thread; where that thread is able to
  -- move it gets the step, else the turn is passed over, as is a turn of T or more"; until the turns are used up, 4,096
  -- steps were given, or a call is refused at its turn.
  pub data AtTurns : ℕ → ℕ → List ℕ → Type 0 where
    gets : (j n t : ℕ) (ts : List ℕ) → j < length steps → thread_of steps j ≡ t → Able j t → AtTurns (suc j) n ts
        → AtTurns j n (t ∷ ts)
    passed : (j n t : ℕ) (ts : List ℕ) → (z.threads ≤ t) ⊎ RestsAt j t → AtTurns j n ts → AtTurns j n (t ∷ ts)
    used : (j : ℕ) → j ≡ length steps → AtTurns j 0 []
    enough : (j : ℕ) (ts : List ℕ) → j ≡ length steps → length steps ≡ 4096 → AtTurns j 0 ts
    denied : (j : ℕ) (ts : List ℕ) (row : Row) → j ≡ length steps → Unsuitable row → AtTurns j 7 (row.thread ∷ ts)

  -- ---- nobody is stranded

  -- nobody sleeps, holds or is in a call, no call is left, and the lock is as it was made
  pub record Cleared : Type 0 where
    pub done : (u : ℕ) → unbegun u rs steps ≡ []
    pub idle : (u : ℕ) → (thread_at final u).phase ≡ Idle
    pub free : Free final

-- what a thread has between calls; after an upgrade it reads or writes
pub data Hold : Type 0 where
  out reads writes either : Hold

-- the calls that suit it, and what it has after each
pub data Follows : Hold → ℕ → Hold → Type 0 where
  write_lock : Follows out 1 writes
  read_lock : (n : ℕ) → n < 32 → Follows out (64 + n) reads
  upgrade : Follows reads 3 either
  downgrade : Follows writes 4 reads
  unlock_reader : Follows reads 2 out
  unlock_writer : Follows writes 2 out
  unlock_either : Follows either 2 out

-- calls that suit one after the other, and leave the thread with nothing
abbrev pub Whole : Hold → List ℕ → Type 0
Whole h [] = h ≡ out
Whole h (o ∷ os) = (k : Hold) × Follows h o k × Whole k os

-- the last call of a thread, if it wants any, is an unlock
abbrev pub Released : List ℕ → Type 0
Released [] = Unit {0}
Released (o ∷ []) = o ≡ 2
Released (o ∷ p ∷ os) = Released (p ∷ os)

-- ---- what comes back, of the answer a

-- the bench takes the steps given, all of them, and comes to the dispatcher's state
pub record Replays (z : Sizes) (a : Answered) : Type 0 where
  pub few : length a.steps ≤ 4096
  pub answer : (run z fresh a.steps).answer ≡ 0
  pub taken : (run z fresh a.steps).taken ≡ length a.steps
  pub state : a.state ≡ some (run z fresh a.steps).state
  -- on two locks too, of which the second stays fresh
  pub both : pair.run z fresh_pair a.steps ≡ as_pair (run z fresh a.steps)

-- "the bench's sheet of it is the same but for the refusal number": of the file b, for every journal in which the bench
-- takes the schedule
pub record SameSheet (b text : List ℕ) (a : Answered) : Type 0 where
  pub lines : List ℕ
  pub own : text ≡ answer_line a.answer (length a.steps) ++ lines
  pub bench :
      (j : ℕ) → 2 * length a.steps ≤ j
      → sheet (filed (sizes_of b) a.steps) j ≡ answer_line 0 (length a.steps) ++ lines

-- of rows that pass 5 and 6
pub record Dispatches (z : Sizes) (rs : List Row) (a : Answered) : Type 0 where
  pub round : Round z rs a.steps
  pub once : Once z rs a.steps
  pub fair : Fair z rs a.steps
  pub in_order : InOrder rs a.steps
  pub ends : Ends z rs a.steps a.answer
  -- where each thread's calls are whole, none is refused; unless the steps run out, nobody is stranded
  pub served : ((u : ℕ) → Whole out (wants_of u rs)) → a.answer ≡ 0
  pub cleared : ((u : ℕ) → Whole out (wants_of u rs)) → length a.steps < 4096 → Cleared z rs a.steps
  -- and so where each thread's last call is an unlock and no call was refused, whole or not
  pub unstranded : ((u : ℕ) → Released (wants_of u rs))
      → a.answer ≡ 0 → length a.steps < 4096 → Cleared z rs a.steps

-- All of it, of the file b dispatched with a schedule's buffer of m bytes and a sheet's of n: after "1 to 4 and 9"
-- nothing comes back.
pub record Promises (b : List ℕ) (m n : ℕ) : Type 0 where
  pub replays : early_refusal b m n ≡ 0 → Replays (sizes_of b) (answered b m n)
  pub same_sheet : early_refusal b m n ≡ 0 → SameSheet b (sheet_text b m n) (answered b m n)
  pub dispatches : early_refusal b m n ≡ 0
      → first_refusal (sizes_of b) (rows_of b) ≡ 0 → Dispatches (sizes_of b) (rows_of b) (answered b m n)

-- ---- by a list of turns

-- of rows that pass 5 and 6
pub record Draws (ts : List ℕ) (z : Sizes) (rs : List Row) (a : Answered) : Type 0 where
  pub at_turns : AtTurns z rs a.steps 0 a.answer ts
  pub in_order : InOrder rs a.steps
  pub served : ((u : ℕ) → Whole out (wants_of u rs)) → a.answer ≡ 0
  -- where the turns went on until everybody rests, nobody is stranded
  pub cleared : ((u : ℕ) → Whole out (wants_of u rs)) → AllRest z rs a.steps → Cleared z rs a.steps
  pub unstranded : ((u : ℕ) → Released (wants_of u rs)) → AllRest z rs a.steps → Cleared z rs a.steps

-- All of it, of the file b at the turns ts, with a schedule's buffer of m bytes and a sheet's of n
pub record DrawPromises (ts b : List ℕ) (m n : ℕ) : Type 0 where
  pub replays : early_refusal b m n ≡ 0 → Replays (sizes_of b) (answered_by (drawn ts) b m n)
  pub same_sheet : early_refusal b m n ≡ 0 → SameSheet b (sheet_by (drawn ts) b m n) (answered_by (drawn ts) b m n)
  pub draws : early_refusal b m n ≡ 0
      → first_refusal (sizes_of b) (rows_of b) ≡ 0 → Draws ts (sizes_of b) (rows_of b) (answered_by (drawn ts) b m n)
