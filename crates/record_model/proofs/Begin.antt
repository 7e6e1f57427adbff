-- Where a record may begin. Failures do not matter to a row of two locks, so they do not to holding rows; and where
-- every thread is idle, a lock that rows led to is the fresh one but for them.
use Rattle.lock.proofs.Library.{◌≡◌, refl, sym, ap, subst, ◌∙◌, Bool, true, false, List, [], ◌∷◌, ℕ, zero, suc, map}
use Rattle.lock.proofs.Library.{replicate, length, length-map, length-replicate, eqb, ltb, ext_get_or, List·getD-map}
use Rattle.lock.proofs.Choice.{clash}
use Rattle.std.specs.Prelude.{if◌then◌else◌}
use Rattle.lock.specs.{declared.{Entry.Entry, Phase.{Phase, TheVariants.Idle}, Sizes.Sizes}}
use Rattle.lock.specs.{Word.opened, Phase.standing, File.InRange, Machine.Row}
use Rattle.lock.specs.{Machine.{OutcomeOf, taken, refused}, State.{State, fresh, fresh_thread, thread_at, Outcome}}
use Rattle.lock.specs.Run as lock
use Rattle.laws.specs.{Forget.{forget_thread, forget, forget_after}, Sleeping.Free}
use Rattle.laws.proofs.{Forget.{phase-same, forgotten}, Runs.{held, same_at}, Role.Inv}
use Rattle.pair.specs.Pair.{Side, first, second, other, lock_of, Pair, fresh_pair, Note, written, engaged, busy, side_of}
use Rattle.pair.specs.{Pair.{own_row, barred, turned, turn, run}, Apart.own_rows}
use Rattle.pair.proofs.{Apart.separate, Locking.locks-at}
use Rattle.record_model.specs.Record.{Recorded, Holding, hold, held_by, found, judged, value_in, told_after}
use Rattle.record_model.specs.Record.{told_only}
use Rattle.record_model.specs.Begin.{NobodyIn, forget_both, SameVerdict, MayBegin}
use Rattle.record_model.proofs.Pieces.{told-apart}

-- ---- a row of two locks

abbrev forget_turn : OutcomeOf Pair Note → OutcomeOf Pair Note
forget_turn (taken s m) = taken (forget_both s) m
forget_turn (refused n) = refused n

turned_same : (s : Pair) (x : Side) (b : Bool) (o : Outcome)
    → forget_turn (turned s x b o) ≡ turned (forget_both s) x b (forget_after o)
turned_same s first false (taken l e) = refl
turned_same s second false (taken l e) = refl
turned_same s x true (taken l e) = refl
turned_same s x b (refused n) = refl

lock-same : (x : Side) (s : Pair) → lock_of x (forget_both s) ≡ forget (lock_of x s)
lock-same first s = refl
lock-same second s = refl

module _ (z : Sizes) (r : Row) where
  -- the row as it goes without failures
  plain : Pair → OutcomeOf Pair Note
  plain s =
      let x = side_of s r in turned s x (barred s x r) (forget_after (lock.step z (lock_of x s) (own_row r)))

  busy-same : (s : State) (t : ℕ) → busy (forget s) t ≡ busy s t
  busy-same s t = ap (λ p. engaged (standing p)) (phase-same s t)

  side_same : (s : Pair) → side_of (forget_both s) r ≡ side_of s r
  side_same s =
      ap (λ b. if eqb r.order 0 then (if b then second else first) else if ltb 128 r.order then second else first)
      (busy-same s.two r.thread)

  at_side : (s : Pair) (x : Side)
      → turned (forget_both s) x (barred (forget_both s) x r)
      (forget_after (lock.step z (lock_of x (forget_both s)) (own_row r)))
      ≡ turned (forget_both s) x (barred s x r) (forget_after (lock.step z (lock_of x s) (own_row r)))
  at_side s x =
      rw (
        lock-same (other x) s,
        lock-same x s,
        busy-same (lock_of (other x) s) r.thread,
        forgotten z (lock_of x s) (own_row r),
      )

  plainly : (s : Pair) → forget_turn (turn z s r) ≡ plain (forget_both s)
  unfolding turn plain
  plainly s =
      turned_same s (side_of s r) (barred s (side_of s r) r) (lock.step z (lock_of (side_of s r) s) (own_row r))
      ∙ sym (at_side s (side_of s r))
      ∙ ap (λ x. turned (forget_both s) x (barred (forget_both s) x r)
      (forget_after (lock.step z (lock_of x (forget_both s)) (own_row r)))) (sym (side_same s))

  turn-same : (s s' : Pair) → forget_both s ≡ forget_both s' → forget_turn (turn z s r) ≡ forget_turn (turn z s' r)
  turn-same s s' e = plainly s ∙ ap plain e ∙ sym (plainly s')

-- ---- rows of a record

module _ (s s' : Pair) (e : forget_both s ≡ forget_both s') where
  judged-same : (d : ℕ) (a : Entry) (v : ℕ) (g g' : Holding) → SameVerdict g g'
      → SameVerdict (judged d s a v g) (judged d s' a v g')
  judged-same zero a v g g' h = record { told = ap (told_after 1) h.told; state = h.state }
  judged-same (suc d) a v g g' h = record { told = refl; state = e }

  row_same : (r : Recorded) (f : Pair → Holding)
      → ((t t' : Pair) → forget_both t ≡ forget_both t' → SameVerdict (f t) (f t'))
      → (o o' : OutcomeOf Pair Note) → forget_turn o ≡ forget_turn o' → SameVerdict (held_by s r f o) (held_by s' r f o')
  row_same r f h (refused n) (refused n') q =
      let k : n ≡ n' = cc in record { told = ap told_only k; state = e }
  row_same r f h (refused n) (taken t' m') q = clash cc
  row_same r f h (taken t m) (refused n') q = clash cc
  row_same r f h (taken t m) (taken t' m') q =
      let p : forget_both t ≡ forget_both t' = cc in
      let k : m ≡ m' = cc in
      let v : value_in t (written m).word ≡ value_in t' (written m).word = ap (λ x. value_in x (written m).word) p in
      subst (λ x. SameVerdict (held_by s r f (taken t m)) (held_by s' r f (taken t' x))) k
      (subst (λ x. SameVerdict (held_by s r f (taken t m)) (found s' r (written m) x (f t'))) v
      (judged-same (told-apart r t m) (written m) (value_in t (written m).word) (f t) (f t') (h t t' p)))

hold-same : (z : Sizes) (rs : List Recorded) (s s' : Pair) → forget_both s ≡ forget_both s'
    → SameVerdict (hold z s rs) (hold z s' rs)
unfolding hold
hold-same z [] s s' e = record { told = refl; state = e }
hold-same z (r ∷ rs) s s' e =
    row_same s s' e r (λ t. hold z t rs) (hold-same z rs) (turn z s r.row) (turn z s' r.row)
    (turn-same z r.row s s' e)

-- ---- every thread idle

free-fresh : (s : State) → length s.words ≡ 32 → length s.threads ≡ 64 → Free s
    → ((t : ℕ) → (thread_at s t).phase ≡ Idle) → forget s ≡ fresh
free-fresh s words threads f idle =
    let ws : s.words ≡ replicate 32 (opened 0 0) =
    ext_get_or (opened 0 0) s.words (replicate 32 (opened 0 0)) (words ∙ sym (length-replicate 32 (opened 0 0)))
    (λ w l. f.words w ∙ sym (same_at 32 w (opened 0 0))) in
    let hs : map forget_thread s.threads ≡ replicate 64 fresh_thread =
    ext_get_or fresh_thread (map forget_thread s.threads) (replicate 64 fresh_thread)
    (length-map s.threads forget_thread ∙ threads ∙ sym (length-replicate 64 fresh_thread))
    (λ t l. List·getD-map forget_thread s.threads t fresh_thread
    ∙ ap (λ (p : Phase). record { phase = p; failures = 0 }) (idle t) ∙ sym (same_at 64 t fresh_thread)) in
    rw (ws, f.mutex, f.queue, hs)

made_at : (z : Sizes) → InRange z → (rs : List Row) → NobodyIn (run z fresh_pair rs).state → (x : Side)
    → forget (lock_of x (run z fresh_pair rs).state) ≡ fresh
made_at z range rs idle x =
    let own = own_rows x rs (run z fresh_pair rs).entries in
    let same = ap (λ (r : lock.Result). r.state) (separate z x rs).alone in
    let inv = subst (Inv z) same (held z range own).inv in
    free-fresh _ inv.words inv.threads ((locks-at z range x rs).remembers.free (idle x)) (idle x)

pub may-begin : MayBegin
may-begin z range rs idle =
    let s = (run z fresh_pair rs).state in
    let made : forget_both s ≡ fresh_pair = rw (made_at z range rs idle first, made_at z range rs idle second) in
    let none : forget_both fresh_pair ≡ fresh_pair = refl in
    record { made = made; same = λ rec. hold-same z rec s fresh_pair (made ∙ sym none) }
