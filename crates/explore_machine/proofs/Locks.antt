-- Two locks: no row goes by failures; schedules in lock order make no row that is out of it; being stuck does not go by
-- failures either.
use Rattle.lock.proofs.Library.{ℕ, suc, ◌<◌, ◌≡◌, refl, sym, ap, ◌∙◌, Bool, true, false, ◌&&◌}
use Rattle.lock.proofs.Library.{List, [], ◌∷◌, Option, none, some, arith, take}
use Rattle.lock.proofs.Choice.{clash, if-both, not-both}
use Rattle.laws.proofs.Lock.{Entry, held_up, Phase, Idle, standing, Sizes, Row, OutcomeOf, taken, refused, follow, runs}
use Rattle.laws.proofs.Lock.{Op, begin, read, ask, swap, stay, store, lock, release, join, next, take_readers, wake, note}
use Rattle.laws.proofs.Lock.{refuse, State, Outcome, thread_at, word_at, same, asked_as, locks, perform, row_op, step}
use Rattle.std.specs.Prelude.{if◌then◌else◌}
use Rattle.laws.specs.{Forget.{forget, Alike, forget_after}, Late.row_at}
use Rattle.laws.proofs.Forget.{phase-same, failures-do-not-matter}
use Rattle.pair.specs.Pair.{Side, first, second, Pair, lock_of, fresh_pair, side_of, own_row, barred, Note, turned}
use Rattle.pair.specs.Pair.{turn, run}
use Rattle.pair.proofs.Apart.{by_side}
use Rattle.progress.specs.{LockOrder.{asks_for}, Deadlock.{Blocked, Stuck}}
use Rattle.explore_machine.specs.Closed.{forgetting, Forgets, Closed}
use Rattle.explore_machine.specs.Locks.{forget_pair, out_of_order, turn_in, two_locks, Kept, CompleteIn}
use Rattle.explore_machine.specs.Locks.{NeverStuck}
use Rattle.explore_machine.proofs.Closed.{complete}

-- ---- no row goes by failures

phase-alike : (s s' : State) → Alike s s' → (t : ℕ) → (thread_at s t).phase ≡ (thread_at s' t).phase
phase-alike s s' e t = sym (phase-same s t) ∙ ap (λ (u : State). (thread_at u t).phase) e ∙ phase-same s' t

module _ (z : Sizes) (s s' : Pair) (e : forget_pair s ≡ forget_pair s') (r : Row) where
  one : Alike s.one s'.one
  one = ap (λ (u : Pair). u.one) e

  two : Alike s.two s'.two
  two = ap (λ (u : Pair). u.two) e

  first-phase : (thread_at s.one r.thread).phase ≡ (thread_at s'.one r.thread).phase
  first-phase = phase-alike s.one s'.one one r.thread

  second-phase : (thread_at s.two r.thread).phase ≡ (thread_at s'.two r.thread).phase
  second-phase = phase-alike s.two s'.two two r.thread

  side_same : side_of s r ≡ side_of s' r
  side_same = rw second-phase

  barred-same : (x : Side) → barred s x r ≡ barred s' x r
  barred-same first = rw second-phase
  barred-same second = rw first-phase

  order_same : out_of_order z s r ≡ out_of_order z s' r
  order_same = rw (side_same, second-phase)

  turned_same : (x : Side) (b : Bool) (u v : Outcome) → forget_after u ≡ forget_after v
      → forgetting forget_pair (turned s x b u) ≡ forgetting forget_pair (turned s' x b v)
  turned_same x true (taken l c) (taken l' c') q = refl
  turned_same first false (taken l c) (taken l' c') q =
      let f : forget l ≡ forget l' = cc in
      let g : c ≡ c' = cc in
      rw (f, g, two)
  turned_same second false (taken l c) (taken l' c') q =
      let f : forget l ≡ forget l' = cc in
      let g : c ≡ c' = cc in
      rw (f, g, one)
  turned_same x b (taken l c) (refused n) q = clash cc
  turned_same x b (refused n) (taken l c) q = clash cc
  turned_same x b (refused n) (refused n') q = let f : n ≡ n' = cc in rw f

  step_same : (x : Side) → forget_after (step z (lock_of x s) (own_row r)) ≡ forget_after (step z (lock_of x s') (own_row r))
  step_same first = failures-do-not-matter z s.one s'.one one (own_row r)
  step_same second = failures-do-not-matter z s.two s'.two two (own_row r)

  turn-same : forgetting forget_pair (turn z s r) ≡ forgetting forget_pair (turn z s' r)
  turn-same =
      let x = side_of s' r in
      let b = barred s' x r in
      rw (by_side z s r x b side_same (barred-same x), by_side z s' r x b refl refl)
      (turned_same x b (step z (lock_of x s) (own_row r)) (step z (lock_of x s') (own_row r)) (step_same x))

pub forgets-two : (o : Bool) (z : Sizes) → Forgets (two_locks o z)
forgets-two o z s s' e r =
    rw (order_same z s s' e r) (by (o && out_of_order z s' r))
  where
    by : (b : Bool) → forgetting forget_pair (if b then refused 7 else turn z s r)
        ≡ forgetting forget_pair (if b then refused 7 else turn z s' r)
    by true = refl
    by false = turn-same z s s' e r

-- ---- schedules in lock order

module _ (o : Bool) (z : Sizes) where
  -- what `LockOrder` says, from any state
  abbrev KeptFrom : Pair → List Row → Type 0
  KeptFrom s rs =
      o ≡ true → (i : ℕ) → i < (run z s rs).taken
      → asks_for z first (run z s (take i rs)).state (row_at z rs i) ≡ true
      → (thread_at (run z s (take i rs)).state.two (row_at z rs i).thread).phase ≡ Idle

  both : (a b : Bool) → (a && b) ≡ true → (a ≡ true) × (b ≡ true)
  both true b e = (refl, e)
  both false b e = clash cc

  same_from : (s : Pair) (rs : List Row) → KeptFrom s rs → (runs (turn_in o z) s rs).state ≡ (run z s rs).state
  unfolding run runs standing
  same_from s [] h = refl
  same_from s (r ∷ rs) h = from (turn z s r) refl (o && out_of_order z s r) refl (λ s'. same_from s' rs)
    where
      from : (x : OutcomeOf Pair Note) → turn z s r ≡ x → (b : Bool) → (o && out_of_order z s r) ≡ b
          → ((s' : Pair) → KeptFrom s' rs → (runs (turn_in o z) s' rs).state ≡ (run z s' rs).state)
          → (follow s (λ s'. runs (turn_in o z) s' rs) (if b then refused 7 else x)).state
          ≡ (follow s (λ s'. run z s' rs) x).state
      from (refused n) q true p k = refl
      from (refused n) q false p k = refl
      from (taken s' e) q false p k = k s' (λ w i l a. rw q at (h w (suc i) (rw q (omega arith)) (rw q a)))
      from (taken s' e) q true p k =
          let w = both o (out_of_order z s r) p in
          let a = both (asks_for z first s r) _ w.1 in
          let i = h w.0 0 (rw q (omega arith)) a.0 in
          not-both false (rw i at a.1) refl

  pub same-run : (rs : List Row) → Kept o z rs → (runs (turn_in o z) fresh_pair rs).state ≡ (run z fresh_pair rs).state
  same-run rs h = same_from fresh_pair rs h

-- ---- being stuck does not go by failures

-- a row that is held up changes nothing
abbrev Holds : State → Outcome → Type 0
Holds s (taken s' e) = e.kind ≡ 4 → (s' ≡ s) × (e ≡ held_up)
Holds s (refused n) = Unit {0}

locks-hold : (s : State) (t : ℕ) (p : Phase) (m : Option ℕ) → Holds s (locks s t p m)
locks-hold s t p none = λ q. absurd (omega arith)
locks-hold s t p (some u) = λ q. (refl, refl)

asked-holds : {A : Type 0} (k : Option Phase) → (asked_as k).kind ≡ 4 → A
asked-holds none q = absurd (omega arith)
asked-holds (some p) q = absurd (omega arith)

perform-holds : (z : Sizes) (s : State) (t : ℕ) (o : Op) → Holds s (perform z s t o)
unfolding perform
perform-holds z s t (begin p) = λ q. absurd (omega arith)
perform-holds z s t (read w k) = λ q. absurd (omega arith)
perform-holds z s t (ask k p) = λ q. asked-holds (k (word_at s 0)) q
perform-holds z s t (swap w old new p back) =
    if-both (Holds s) (same (word_at s w) old) (λ e q. absurd (omega arith)) (λ e q. absurd (omega arith))
perform-holds z s t stay = λ q. (refl, refl)
perform-holds z s t (store f p) = λ q. absurd (omega arith)
perform-holds z s t (lock p) = locks-hold s t p s.mutex
perform-holds z s t (release p) = λ q. absurd (omega arith)
perform-holds z s t (join e p) = λ q. absurd (omega arith)
perform-holds z s t (next last k) = λ q. absurd (omega arith)
perform-holds z s t (take_readers k) = λ q. absurd (omega arith)
perform-holds z s t (wake g p) = λ q. absurd (omega arith)
perform-holds z s t note = λ q. absurd (omega arith)
perform-holds z s t (refuse n) = tt

step-holds : (z : Sizes) (s : State) (r : Row) → Holds s (step z s r)
unfolding step
step-holds z s r = perform-holds z s r.thread (row_op z (thread_at s r.thread).phase r)

-- of two locks
abbrev pub HoldsBoth : Pair → OutcomeOf Pair Note → Type 0
HoldsBoth s (taken s' m) = m.entry.kind ≡ 4 → (s' ≡ s) × (m.entry ≡ held_up)
HoldsBoth s (refused n) = Unit {0}

pub turn_holds : (z : Sizes) (s : Pair) (r : Row) → HoldsBoth s (turn z s r)
unfolding turn
turn_holds z s r = by (side_of s r) (barred s (side_of s r) r) (step z (lock_of (side_of s r) s) (own_row r))
    (step-holds z (lock_of (side_of s r) s) (own_row r))
  where
    by : (x : Side) (b : Bool) (u : Outcome) → Holds (lock_of x s) u → HoldsBoth s (turned s x b u)
    by x true (taken l e) h = tt
    by first false (taken l e) h =
        λ q. (ap (λ (u : State). record { one = u; two = s.two }) (h q).0, (h q).1)
    by second false (taken l e) h =
        λ q. (ap (λ (u : State). record { one = s.one; two = u }) (h q).0, (h q).1)
    by x b (refused n) h = tt

pub stuck-blind : (z : Sizes) (s s' : Pair) → forget_pair s ≡ forget_pair s' → Stuck z s → Stuck z s'
stuck-blind z s s' e k r =
    by (turn z s r) (turn z s' r) (turn-same z s s' e r) (k r) (turn_holds z s' r)
  where
    by : (u v : OutcomeOf Pair Note) → forgetting forget_pair u ≡ forgetting forget_pair v
        → Blocked s u → HoldsBoth s' v → Blocked s' v
    by (taken a m) (taken b m') q i h =
        let f : m ≡ m' = cc in
        h (ap (λ (n : Note). n.entry.kind) (sym f) ∙ ap (λ (x : Entry). x.kind) i.1)
    by (refused n) (taken b m') q i h = clash cc
    by u (refused n) q i h = tt

-- ---- complete

module _ (o : Bool) (z : Sizes) {f : ℕ → Pair} {d : ℕ → ℕ} {n : ℕ} (c : Closed (two_locks o z) f d n) where
  pub complete-in : CompleteIn o z f d n
  complete-in rs h = rw (← same-run o z rs h) (complete (forgets-two o z) c rs)

  pub never_stuck : NeverStuck o z f n
  never_stuck nobody rs h k =
      let p = complete-in rs h in
      nobody p.place p.within (stuck-blind z _ _ (sym p.alike) k)
