-- Failures do not matter: each operation on a state, and on the state without failures, by cases.
use Rattle.lock.proofs.Library.{ℕ, zero, suc, ◌/◌, ◌%◌, ◌≡◌, refl, sym, ap, ap₂, ◌∙◌, Bool, true, false, none, some}
use Rattle.lock.proofs.Library.{List, [], ◌∷◌, map, Option, eqb, get_or, set, List·getD-map}
use Rattle.std.specs.Prelude.{if◌then◌else◌}
use Rattle.lock.specs.{declared.{Sizes.Sizes, Thread.Thread, Word.Word, Phase.Phase, Entry.Entry}}
use Rattle.lock.specs.{Word.same, Queue.Waiters}
use Rattle.lock.specs.Call.{Op, begin, read, ask, swap, stay, store, lock, release, join, next, take_readers, wake, note}
use Rattle.lock.specs.Call.{refuse, op}
use Rattle.lock.specs.State.{State, fresh_thread, word_at, thread_at, Outcome, taken, with_threads, goes, woken}
use Rattle.lock.specs.{State.{holding, locks, perform}, Journal.sleepers_woken}
use Rattle.lock.specs.Run.{Row, row_op, step}
use Rattle.laws.specs.Forget.{forget_thread, forget, forget_after, FailuresDoNotMatter}

-- ---- lists of threads

forget-twice : (hs : List Thread) → map forget_thread (map forget_thread hs) ≡ map forget_thread hs
forget-twice [] = refl
forget-twice (h ∷ hs) = ap (λ (x : List Thread). forget_thread h ∷ x) (forget-twice hs)

forget-set : (hs : List Thread) (t : ℕ) (p : Phase) (a b : ℕ)
    → map forget_thread (set (map forget_thread hs) t (record { phase = p; failures = a }))
    ≡ map forget_thread (set hs t (record { phase = p; failures = b }))
forget-set [] t p a b = refl
forget-set (h ∷ hs) zero p a b = ap (λ (x : List Thread). record { phase = p; failures = 0 } ∷ x) (forget-twice hs)
forget-set (h ∷ hs) (suc t) p a b = ap (λ (x : List Thread). forget_thread h ∷ x) (forget-set hs t p a b)

-- thread by thread, woken or not
forget-woken : (p : Phase) (b : ℕ) (hs : List Thread)
    → woken p b (map forget_thread hs) ≡ map forget_thread (woken p b hs)
forget-woken p b [] = refl
forget-woken p b (h ∷ hs) =
    ap₂ (λ (x : Thread) (xs : List Thread). x ∷ xs) (from (eqb (b % 2) 1)) (forget-woken p (b / 2) hs)
  where
    from : (w : Bool) → (if w then record { phase = p; failures = 0 } else forget_thread h)
        ≡ forget_thread (if w then record { phase = p; failures = h.failures } else h)
    from true = refl
    from false = refl

-- ---- a state whose threads go on

-- what was set anew, and thread t went on to the phase p with some count of failures
abbrev moved : List Word → Option ℕ → Waiters → List Thread → ℕ → Phase → ℕ → State
moved ws m q hs t p f =
    record { words = ws; mutex = m; queue = q; threads = set hs t (record { phase = p; failures = f }) }

move : (ws : List Word) (m : Option ℕ) (q : Waiters) (hs : List Thread) (t : ℕ) (p : Phase) (a b : ℕ)
    → forget (moved ws m q (map forget_thread hs) t p a) ≡ forget (moved ws m q hs t p b)
move ws m q hs t p a b =
    ap (λ (x : List Thread). record { words = ws; mutex = m; queue = q; threads = x }) (forget-set hs t p a b)

still : (s : State) → forget (forget s) ≡ forget s
still s = ap (λ (x : List Thread). record { words = s.words; mutex = s.mutex; queue = s.queue; threads = x })
    (forget-twice s.threads)

pub phase-same : (s : State) (t : ℕ) → (thread_at (forget s) t).phase ≡ (thread_at s t).phase
phase-same s t = ap (λ (h : Thread). h.phase) (List·getD-map forget_thread s.threads t fresh_thread)

-- ---- one operation

taken_as : {s s' : State} (e : Entry) → s ≡ s' → ◌≡◌ {A = Outcome} (taken s e) (taken s' e)
taken_as e q = ap (λ (s : State). taken s e) q

lock-same : (s : State) (t : ℕ) (p : Phase) (m : Option ℕ)
    → forget_after (locks (forget s) t p m) ≡ forget_after (locks s t p m)
lock-same s t p none = taken_as _ (move s.words (some t) s.queue s.threads t p _ _)
lock-same s t p (some u) = taken_as _ (still s)

chosen : (b : Bool) (x y x' y' : Outcome) → forget_after x ≡ forget_after x' → forget_after y ≡ forget_after y'
    → forget_after (if b then x else y) ≡ forget_after (if b then x' else y')
chosen true x y x' y' p q = p
chosen false x y x' y' p q = q

module _ (z : Sizes) (s : State) (t : ℕ) where
  goes_same : (ws : List Word) (m : Option ℕ) (q : Waiters) (p : Phase) (a b : ℕ) (e : Entry)
      → ◌≡◌ {A = Outcome} (taken (forget (moved ws m q (map forget_thread s.threads) t p a)) e)
      (taken (forget (moved ws m q s.threads t p b)) e)
  goes_same ws m q p a b e = taken_as e (move ws m q s.threads t p a b)

  -- those of the set b go on to the phase q, and then t to the phase p
  wake-same : (q : Phase) (b : ℕ) (p : Phase) (e : Entry)
      → ◌≡◌ {A = Outcome} (forget_after (taken (goes (with_threads (forget s) (woken q b (forget s).threads)) t p) e))
      (forget_after (taken (goes (with_threads s (woken q b s.threads)) t p) e))
  wake-same q b p e =
      rw (forget-woken q b s.threads)
      (taken_as e (move s.words s.mutex s.queue (woken q b s.threads) t p
      (get_or (map forget_thread (woken q b s.threads)) t fresh_thread).failures
      (get_or (woken q b s.threads) t fresh_thread).failures))

  perform-same : (o : Op) → forget_after (perform z (forget s) t o) ≡ forget_after (perform z s t o)
  unfolding perform op
  perform-same (begin p) = goes_same _ _ _ p _ _ _
  perform-same (read w k) = goes_same _ _ _ _ _ _ _
  perform-same (ask k p) = goes_same _ _ _ _ _ _ _
  perform-same (swap w old new p back) =
      chosen (same (word_at s w) old) _ _ _ _ (goes_same _ _ _ p _ _ _) (goes_same _ _ _ _ _ _ _)
  perform-same stay = taken_as _ (still s)
  perform-same (store f p) = goes_same _ _ _ _ _ _ _
  perform-same (lock p) = lock-same s t p s.mutex
  perform-same (release p) = goes_same _ _ _ _ _ _ _
  perform-same (join e p) = goes_same _ _ _ _ _ _ _
  perform-same (next last k) = goes_same _ _ _ _ _ _ _
  perform-same (take_readers k) = goes_same _ _ _ _ _ _ _
  perform-same (wake g p) =
      wake-same (holding g) g.members p sleepers_woken
  perform-same note = taken_as _ (still s)
  perform-same (refuse n) = refl

-- ---- one row

pub forgotten : (z : Sizes) (s : State) (r : Row) → forget_after (step z (forget s) r) ≡ forget_after (step z s r)
unfolding step
forgotten z s r =
    perform-same z s r.thread (row_op z (thread_at (forget s) r.thread).phase r)
    ∙ ap (λ (p : Phase). forget_after (perform z s r.thread (row_op z p r))) (phase-same s r.thread)

pub failures-do-not-matter : FailuresDoNotMatter
failures-do-not-matter z s s' e r =
    sym (forgotten z s r) ∙ ap (λ (x : State). forget_after (step z x r)) e ∙ forgotten z s' r
