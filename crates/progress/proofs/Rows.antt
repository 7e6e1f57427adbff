-- A row of a thread that is in a call, whoever else is in one: it is taken, comes nearer to the call's end, and adds
-- nothing to the measure of the others. Those whom it wakes slept before and hold now, which is the same measure.
use Rattle.lock.proofs.Library.{ℕ, suc, ◌+◌, ◌*◌, ◌/◌, ◌%◌, ◌≤◌, ◌<◌, ◌≡◌, refl, subst, ap, ◌∙◌, true, false, List, []}
use Rattle.lock.proofs.Library.{◌∷◌, Option, none, some, le_refl, arith, ℕ_discrete, length, get_or, set, get_or-set_same}
use Rattle.lock.proofs.Library.{lt-ltb, eq-eqb, ne_eqb}
use Rattle.lock.proofs.{Choice.if-both, Row.woken-length}
use Rattle.laws.proofs.Lock.{Word, same, is_closed, Group, Waiters, is_writer, next_group, Phase, Standing, standing}
use Rattle.laws.proofs.Lock.{Thread, Sizes, Op, begin, read, ask, swap, stay, note, store, lock, release, join, next}
use Rattle.laws.proofs.Lock.{take_readers, wake, refuse, op, obey, State, fresh_thread, word_at, thread_at, with_threads}
use Rattle.laws.proofs.Lock.{goes, holding, woken, Outcome, taken, refused, granted, locks, perform, row_op, step}
use Rattle.laws.proofs.{Cases.dec-both, Sum.sum_at, Sum.sum-set, Sum.bit_at, Wake.woken-out, Perform.Keeps, Calls.calls}
use Rattle.laws.proofs.Role.{Role, handing, role, tot-mem, is_taken, role_at, sums, Inv}
use Rattle.laws.specs.Restoring.{row}
use Rattle.progress.proofs.Measure.{rows_to_go, fails_next, rows_to_end, ends_idle, measure, sleeper-stays-on}
use Rattle.progress.proofs.Nearer.{Nears, Onward, onward}

abbrev pub phase_of : State → ℕ → Phase
phase_of s t = (thread_at s t).phase

-- the sum over all threads, which are numbered from i on
abbrev pub measures_from : Sizes → ℕ → List Thread → ℕ
measures_from z i hs = sum_at (λ j (h : Thread). measure z h.phase) i hs

abbrev pub measures : Sizes → State → ℕ
measures z s = measures_from z 0 s.threads

-- a wake to the phase q adds nothing, where q has no more than each of the woken
woken-measures : (z : Sizes) (q : Phase) (i b : ℕ) (hs : List Thread)
    → ((u : ℕ) → 0 < bit_at b u → measure z q ≤ measure z (get_or hs u fresh_thread).phase)
    → measures_from z i (woken q b hs) ≤ measures_from z i hs
woken-measures z q i b [] a = le_refl 0
woken-measures z q i b (h ∷ hs) a =
    let r = woken-measures z q (suc i) (b / 2) hs (λ u. a (suc u)) in
    dec-both (ℕ_discrete (b % 2) 1) (λ k. rw (eq-eqb (b % 2) 1 k) (omega (arith, a 0 (omega arith))))
    (λ k. rw (ne_eqb (b % 2) 1 k) (omega arith))

-- who comes to hold owes an unlock
holder-measure : (z : Sizes) (g : Group) → measure z (holding g) ≡ 2 * z.nodes + 6
unfolding ends_idle standing
holder-measure z g =
    if-both (λ (p : Phase). measure z p ≡ 2 * z.nodes + 6) (is_writer g) (λ e. omega arith) (λ e. omega arith)

-- and so does who sleeps
sleeper-measure : (z : Sizes) (p : Phase) → 0 < (role z p).sleeps → 2 * z.nodes + 6 ≤ measure z p
sleeper-measure z p h = rw (sleeper-stays-on z p h) (omega arith)

-- ---- one row

pub record Advances (z : Sizes) (s : State) (t : ℕ) (s' : State) : Type 0 where
  pub less : rows_to_end z s'.words (phase_of s' t) < rows_to_end z s.words (phase_of s t)
  pub keeps : ends_idle (phase_of s t) ≡ true → ends_idle (phase_of s' t) ≡ true
  pub measured : measures z s' + measure z (phase_of s t) ≤ measures z s + measure z (phase_of s' t)

abbrev pub AdvancesAfter : Sizes → State → ℕ → Outcome → Type 0
AdvancesAfter z s t (taken s' e) = Advances z s t s'
AdvancesAfter z s t (refused n) = ⊥

module _ (z : Sizes) (s : State) (t : ℕ) (inv : Inv z s) (l : t < 64)
    (m : is_taken s.mutex ≤ (role_at z s t).inmutex) where
  in-threads : t < length s.threads
  in-threads = omega (arith, inv.threads)

  abbrev here : Phase
  here = phase_of s t

  -- t goes on to p among the threads hs, of which the others have no more to do than before
  got : (ws : List Word) (o : Option ℕ) (q : Waiters) (hs : List Thread) (p : Phase) (f : ℕ)
      → length hs ≡ length s.threads → get_or hs t fresh_thread ≡ thread_at s t
      → measures_from z 0 hs ≤ measures z s → rows_to_end z ws p < rows_to_end z s.words here
      → (ends_idle here ≡ true → ends_idle p ≡ true)
      → Advances z s t
      (record { words = ws; mutex = o; queue = q; threads = set hs t (record { phase = p; failures = f }) })
  got ws o q hs p f n same-there fewer h k =
      record { less = rw (at, phase_of) h; keeps = rw (at, phase_of) k; measured = rw (at, phase_of) most }
    where
      h' : Thread
      h' = record { phase = p; failures = f }

      in-hs : t < length hs
      in-hs = omega (arith, in-threads)

      at : get_or (set hs t h') t fresh_thread ≡ h'
      at = get_or-set_same hs t h' fresh_thread in-hs

      most : measures_from z 0 (set hs t h') + measure z here ≤ measures z s + measure z p
      most =
          omega (
            arith,
            sum-set (λ j (h : Thread). measure z h.phase) 0 hs t h' fresh_thread in-hs,
            ap (λ (h : Thread). measure z h.phase) same-there,
          )

  to : (ws : List Word) (o : Option ℕ) (q : Waiters) (p : Phase) (f : ℕ)
      → Nears z ws (rows_to_go (is_closed (word_at s 0)) here) (ends_idle here) p
      → Advances z s t
      (record { words = ws; mutex = o; queue = q; threads = set s.threads t (record { phase = p; failures = f }) })
  to ws o q p f h = got ws o q s.threads p f refl refl (le_refl _) (omega (arith, h.less)) h.keeps

  locks-on : (p : Phase) (o : Option ℕ) → is_taken o ≤ 0
      → Nears z s.words (rows_to_go (is_closed (word_at s 0)) here) (ends_idle here) p
      → AdvancesAfter z s t (locks s t p o)
  locks-on p none i h = to s.words (some t) s.queue p _ h
  locks-on p (some u) i h = absurd (omega arith)

  wakes-on : (g : Group) (x : ℕ) (p : Phase) → role_at z s t ≡ handing 0 x g
      → Nears z s.words (rows_to_go (is_closed (word_at s 0)) here) (ends_idle here) p
      → Advances z s t (goes (with_threads s (woken (holding g) g.members s.threads)) t p)
  wakes-on g x p e h =
      got s.words s.mutex s.queue hs p (get_or hs t fresh_thread).failures
      (woken-length (holding g) g.members s.threads)
      (woken-out (holding g) g.members s.threads t
      (omega (arith, inv.handed t, mine t, ap (λ (r : Role). r.sleeps) e)))
      (woken-measures z (holding g) 0 g.members s.threads
      (λ u k. omega (arith, holder-measure z g, sleeper-measure z (phase_of s u) (asleep u k))))
      (omega (arith, h.less)) h.keeps
    where
      hs : List Thread
      hs = woken (holding g) g.members s.threads

      mine : (u : ℕ) → bit_at g.members u ≤ sums z s (λ r. bit_at r.hand u)
      mine u =
          subst (λ (r : Role). bit_at r.hand u ≤ sums z s (λ r. bit_at r.hand u)) e
          (tot-mem z (λ r. bit_at r.hand u) s.threads t in-threads)

      asleep : (u : ℕ) → 0 < bit_at g.members u → 0 < (role_at z s u).sleeps
      asleep u k = omega (arith, inv.handed u, mine u)

  -- a failed swap was counted as one that will fail
  miss-fails : (w : ℕ) (old new : Word) (p back : Phase) → op z.fan here ≡ swap w old new p back
      → same (word_at s w) old ≡ false
      → rows_to_end z s.words here ≡ rows_to_go (is_closed (word_at s 0)) here + 1
  miss-fails w old new p back e q =
      ap (λ (o : Op). rows_to_go (is_closed (word_at s 0)) here + fails_next s.words o) e ∙ rw q

  does : (o : Op) → op z.fan here ≡ o → Keeps z s t (role_at z s t) o
      → Onward z s (rows_to_go (is_closed (word_at s 0)) here) (ends_idle here) o → AdvancesAfter z s t (perform z s t o)
  unfolding perform
  does (begin p) e k a = absurd a
  does (read w r) e k a = to _ _ _ (r (word_at s w)) _ a
  does (ask r p) e k a = to _ _ _ (granted p (r (word_at s 0))) _ a
  does (swap w old new p back) e k a =
      if-both (AdvancesAfter z s t) (same (word_at s w) old) (λ q. to _ _ _ p _ a.0)
      (λ q. let b = a.1 q in
      got _ _ _ s.threads _ _ refl refl (le_refl _)
      (omega (arith, b.less, miss-fails w old new p back e q)) b.keeps)
  does stay e k a = absurd a
  does note e k a = absurd a
  does (store f p) e k a = to _ _ _ p _ a
  does (lock p) e k a = locks-on p s.mutex (omega (arith, k.1)) a
  does (release p) e k a = to _ _ _ p _ a
  does (join x p) e k a = to _ _ _ p _ a
  does (next last r) e k a = to _ _ _ (r (next_group last s.queue)) _ a
  does (take_readers r) e k a = to _ _ _ (r s.queue.readers) _ a
  does (wake g p) e k a = wakes-on g k.own p k.before a
  does (refuse n) e k a = absurd a

  pub goes_on : t < z.threads → standing here ≡ Standing.Calling → AdvancesAfter z s t (step z s (row t 0))
  unfolding step row_op obey
  goes_on there c =
      rw (lt-ltb t z.threads there)
      (does (op z.fan here) refl (calls z s t inv l here refl) (onward z inv.sizes s here c (inv.right t)).1)
