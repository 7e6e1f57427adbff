-- The mutex has its owner's number: the thread of that number is inside it.
use Rattle.lock.proofs.Library.{ℕ, ◌+◌, ◌≤◌, ◌<◌, ◌≡◌, refl, sym, subst, ap, ◌∙◌, ◌≢◌, Option, none, some, arith}
use Rattle.lock.proofs.Library.{ℕ_discrete, dec_lt, length, List·getD-eq-default}
use Rattle.lock.proofs.Choice.{clash, if-both}
use Rattle.laws.proofs.Lock.{same, Group, is_writer, Entry, Phase, Thread, Sizes, Op, begin, read, ask, swap, stay, note}
use Rattle.laws.proofs.Lock.{store, lock, release, join, next, take_readers, wake, refuse, State, fresh_thread, word_at}
use Rattle.laws.proofs.Lock.{thread_at, holding, Outcome, taken, refused, locks, perform, Row, row_op, step}
use Rattle.laws.proofs.{Cases.dec-both, Sum.sum-some, Facts.tot-two, Facts.taken-le, Staying.others-stay, Aside.Aside}
use Rattle.laws.proofs.Role.{Role, known, place, role, tot-mem, is_taken, role_at, Inv}

abbrev pub Owner : Sizes → State → Type 0
Owner z s = (u : ℕ) → s.mutex ≡ some u → 0 < (role_at z s u).inmutex

-- a row of thread t leaves the mutex, takes it for t, or gives it back
data Passes (s : State) (t : ℕ) (s' : State) : Type 0 where
  stays : s'.mutex ≡ s.mutex → Passes s t s'
  takes : s.mutex ≡ none → s'.mutex ≡ some t → Passes s t s'
  gives : s'.mutex ≡ none → Passes s t s'

abbrev PassesAfter : State → ℕ → Outcome → Type 0
PassesAfter s t (taken s' e) = Passes s t s'
PassesAfter s t (refused n) = Unit {0}

module _ (z : Sizes) (s : State) (t : ℕ) where
  lock-passes : (p : Phase) (m : Option ℕ) → s.mutex ≡ m → PassesAfter s t (locks s t p m)
  lock-passes p none e = takes e refl
  lock-passes p (some u) e = stays refl

  passes : (o : Op) → PassesAfter s t (perform z s t o)
  unfolding perform
  passes (begin p) = stays refl
  passes (read w k) = stays refl
  passes (ask k p) = stays refl
  passes (swap w old new p back) =
      if-both (PassesAfter s t) (same (word_at s w) old) (λ q. stays refl) (λ q. stays refl)
  passes stay = stays refl
  passes note = stays refl
  passes (store f p) = stays refl
  passes (lock p) = lock-passes p s.mutex refl
  passes (release p) = gives refl
  passes (join e p) = stays refl
  passes (next last k) = stays refl
  passes (take_readers k) = stays refl
  passes (wake g p) = stays refl
  passes (refuse n) = tt

row-passes : (z : Sizes) (s : State) (r : Row) (s' : State) (e : Entry) → step z s r ≡ taken s' e
    → Passes s r.thread s'
unfolding step
row-passes z s r s' e q =
    subst (PassesAfter s r.thread) q (passes z s r.thread (row_op z (thread_at s r.thread).phase r))

-- who has the mutex does not sleep
awake : (z : Sizes) (s : State) (u : ℕ) → 0 < (role_at z s u).inmutex → (role_at z s u).sleeps ≡ 0
awake z s u h =
    dec-both (dec_lt 0 (role_at z s u).sleeps)
    (λ a. let k = (known (place z (thread_at s u).phase)).sleeps a in
    absurd (omega (arith, ap (λ (r : Role). r.inmutex) k)))
    (λ a. omega arith)

-- who holds is not inside
holder-out : (z : Sizes) (g : Group) → (role z (holding g)).inmutex ≡ 0
unfolding place
holder-out z g = if-both (λ (p : Phase). (role z p).inmutex ≡ 0) (is_writer g) (λ e. refl) (λ e. refl)

-- two threads are not inside at once
inside-once : (z : Sizes) (s : State) (t v : ℕ) → Inv z s → t < 64 → v ≢ t
    → (role_at z s t).inmutex + (role_at z s v).inmutex ≤ is_taken s.mutex
unfolding place
inside-once z s t v inv l n =
    let i : t < length s.threads = omega (arith, inv.threads) in
    dec-both (dec_lt v (length s.threads))
    (λ a. omega (arith, tot-two z (λ r. r.inmutex) refl s.threads t v i a (λ e. n (sym e)), inv.mutex))
    (λ a. rw (List·getD-eq-default s.threads fresh_thread {n = v} (omega arith))
    (omega (arith, tot-mem z (λ r. r.inmutex) s.threads t i, inv.mutex)))

module _ (z : Sizes) (s : State) (r : Row) (s' : State) (e : Entry) (inv : Inv z s) (inv' : Inv z s')
    (l : r.thread < 64) (q : step z s r ≡ taken s' e) where
  abbrev t : ℕ
  t = r.thread

  -- Somebody is inside where the mutex is taken, and nobody but t comes to be so: if nobody else has it, nobody else
  -- will.
  pub own-mutex : is_taken s.mutex ≤ (role_at z s t).inmutex → is_taken s'.mutex ≤ (role_at z s' t).inmutex
  own-mutex m =
      dec-both (dec_lt 0 (is_taken s'.mutex))
      (λ a. let (v, i) = sum-some (λ j (x : Thread). (role z x.phase).inmutex) 0 s'.threads fresh_thread
      (omega (arith, inv'.mutex)) in
      dec-both (ℕ_discrete v t)
      (λ d. omega (arith, taken-le s'.mutex, subst (λ (u : ℕ). 0 < (role_at z s' u).inmutex) d i))
      (λ n. absurd (omega (arith, i, out v n))))
      (λ a. omega arith)
    where
      out : (v : ℕ) → v ≢ t → (role_at z s' v).inmutex ≡ 0
      out v n =
          others-stay (λ (p : Phase). (role z p).inmutex ≡ 0) (holder-out z) z s r v s' e n
          (omega (arith, inside-once z s t v inv l n)) q

  pub owner-step : Owner z s → Aside z s t (taken s' e) → Owner z s'
  owner-step k a u h = from (row-passes z s r s' e q)
    where
      mine : u ≡ t → is_taken s.mutex ≤ (role_at z s t).inmutex → 0 < (role_at z s' u).inmutex
      mine d m = rw d (omega (arith, own-mutex m, ap is_taken h))

      from : Passes s t s' → 0 < (role_at z s' u).inmutex
      from (stays m) =
          let i = k u (sym m ∙ h) in
          dec-both (ℕ_discrete u t)
          (λ d. mine d (omega (arith, taken-le s.mutex, subst (λ (v : ℕ). 0 < (role_at z s v).inmutex) d i)))
          (λ n. subst (λ (x : Thread). 0 < (role z x.phase).inmutex) (sym (a u n (awake z s u i))) i)
      from (takes m n) = mine (cc) (omega (arith, ap is_taken m))
      from (gives n) = clash cc
