-- Deadlock freedom. Who has the mutex, or where nobody has it anyone in a call, goes on alone to its call's end; where
-- nobody is in a call someone holds, and unlocks. Each time the measure falls by as many as there are rows at least,
-- and where it is 0 everybody is idle.
use Rattle.lock.proofs.Library.{ℕ, ◌+◌, ◌*◌, ◌≤◌, ◌<◌, ◌≡◌, refl, sym, subst, ap, ◌≢◌, ◌⊎◌, inl, inr, Bool, true, false}
use Rattle.lock.proofs.Library.{List, [], ◌∷◌, ◌++◌, Option, none, some, arith, dec_lt, eqb, length, take}
use Rattle.lock.{proofs.Library.List·getD-eq-default, proofs.Library.lt-ltb, proofs.Choice.clash, proofs.Choice.if-both}
use Rattle.laws.proofs.Lock.{call_begun, Phase, Idle, Writing, Reading, UnlockTake, Standing, standing, Thread, Sizes}
use Rattle.laws.proofs.Lock.{departs, obey, State, fresh, fresh_thread, thread_at, goes, taken, perform, Row, row_op, step}
use Rattle.laws.{proofs.Lock.run, proofs.Lock.InRange, proofs.Sum.sum_at, proofs.Sum.sum-set, proofs.Sum.sum-mem}
use Rattle.laws.{proofs.Sum.sum-some, proofs.Seen.by-seen, specs.Exclusion.Resting, specs.Exclusion.Reads}
use Rattle.laws.{specs.Exclusion.Writes, proofs.Cases.dec-both, proofs.Role.is_taken, proofs.Role.role_at}
use Rattle.laws.{proofs.Sleeping.remembers-of, specs.Late.state_at, specs.Restoring.row, specs.Sleeping.Free}
use Rattle.progress.specs.Progress.{EndsAlone, enough_rows, DeadlockFree, ProgressOf, ProgressOfEach}
use Rattle.progress.proofs.Kept.{Kept, KeptAfter, kept_step, kept-after, here, on, AnyRow, begins, leads-orders}
use Rattle.progress.proofs.Kept.{leads-run, Reaches, Falls, reaches}
use Rattle.progress.proofs.Alone.{calling?, calling-busy, calls, calls-so, rest-free, measure-idle, idle-measure}
use Rattle.progress.proofs.{Measure.ends_idle, Measure.measure, Alone.measures-most, Alone.call-falls, Alone.over}
use Rattle.progress.proofs.{Ran.Ran, Ran.ran-behind, Rows.phase_of, Rows.measures}

-- ---- who moves next

module _ (z : Sizes) (s : State) (kept : Kept z s) where
  -- who is not idle is one of the T threads
  present : (t : ℕ) → phase_of s t ≢ Idle → t < z.threads
  present t h = dec-both (dec_lt t z.threads) (λ a. a) (λ a. absurd (h (kept.absent t (omega arith))))

  in_list : (t : ℕ) → t < z.threads → t < length s.threads
  in_list t h = omega (arith, kept.inv.threads, kept.inv.sizes.threads)

  caller-present : (t : ℕ) → standing (phase_of s t) ≡ Standing.Calling → t < z.threads
  caller-present t c = present t (calling-busy (phase_of s t) c)

  -- ---- the claims of one state

  taker : (t : ℕ) → (s.mutex ≡ none) ⊎ (s.mutex ≡ some t) → is_taken s.mutex ≤ (role_at z s t).inmutex
  taker t (inl e) = omega (arith, ap is_taken e)
  taker t (inr e) = omega (arith, ap is_taken e, kept.owner t e)

  call-over : (t : ℕ) → standing (phase_of s t) ≡ Standing.Calling → (s.mutex ≡ none) ⊎ (s.mutex ≡ some t)
      → EndsAlone z s t
  call-over t c m = over z t (caller-present t c) s kept c (taker t m)

  pub owner-calls : (t : ℕ) → s.mutex ≡ some t → standing (phase_of s t) ≡ Standing.Calling
  owner-calls t e =
      dec-both (calling? (standing (phase_of s t))) (λ c. c)
      (λ c. absurd (omega (arith, kept.owner t e, rest-free z (phase_of s t) c)))

  -- ---- somebody is in a call: who has the mutex, or anyone where nobody has it, ends its own

  callers : ℕ
  callers = sum_at (λ j (h : Thread). calls (standing h.phase)) 0 s.threads

  call_ends : (b : Bool) → 0 < callers → Falls z (AnyRow b) (measures z) (Kept z) s
  unfolding callers
  call_ends b h = from s.mutex refl
    where
      ends : (t : ℕ) → standing (phase_of s t) ≡ Standing.Calling → (s.mutex ≡ none) ⊎ (s.mutex ≡ some t)
          → Falls z (AnyRow b) (measures z) (Kept z) s
      ends t c m = call-falls z t (caller-present t c) s kept c (taker t m) b

      from : (o : Option ℕ) → s.mutex ≡ o → Falls z (AnyRow b) (measures z) (Kept z) s
      from none e =
          let (t, k) = sum-some (λ j (h : Thread). calls (standing h.phase)) 0 s.threads fresh_thread h in
          ends t (calls-so (standing (phase_of s t)) k) (inl e)
      from (some t) e = ends t (owner-calls t e) (inr e)

  -- ---- nobody is in a call: somebody holds, and unlocks

  resting : callers ≡ 0 → Resting s
  unfolding callers
  resting h t c =
      omega (
        arith,
        sum-mem (λ j (h : Thread). calls (standing h.phase)) 0 s.threads t fresh_thread
            (in_list t (caller-present t c)),
        ap calls c,
      )

  abbrev Unlocks : Type 0
  Unlocks = Falls z (AnyRow true) (measures z) (Kept z) s

  begun : (t : ℕ) (p : Phase) → phase_of s t ≢ Idle → step z s (row t 2) ≡ taken (goes s t p) call_begun
      → measure z p < measure z (phase_of s t) → Unlocks
  begun t p n q h = (
    record {
      rows = row t 2 ∷ [];
      state = goes s t p;
      leads = on (begins t refl n) q here;
      holds = subst (KeptAfter z) q (kept_step z s (row t 2) kept);
      few =
          omega (
            arith,
            sum-set (λ j (h : Thread). measure z h.phase) 0 s.threads t
                (record { phase = p; failures = (thread_at s t).failures }) fresh_thread (in_list t (present t n)),
          );
    },
    omega arith,
  )

  unlock-reader : (t k : ℕ) → phase_of s t ≡ Reading k → Unlocks
  unfolding ends_idle standing step row_op obey perform
  unlock-reader t k e =
      let n : phase_of s t ≢ Idle = λ q. clash cc in
      begun t (departs k) n (rw (lt-ltb t z.threads (present t n), e))
      (rw e
      (if-both (λ (p : Phase). measure z p < 2 * z.nodes + 6 + 0) (eqb k 0) (λ q. omega arith) (λ q. omega arith)))

  unlock-writer : (t : ℕ) → phase_of s t ≡ Writing → Unlocks
  unfolding ends_idle standing step row_op obey perform
  unlock-writer t e =
      let n : phase_of s t ≢ Idle = λ q. clash cc in
      begun t UnlockTake n (rw (lt-ltb t z.threads (present t n), e)) (rw e (omega arith))

  holder : Resting s → (t : ℕ) → 0 < measure z (phase_of s t) → Unlocks
  unfolding ends_idle standing
  holder rest t h =
      by-seen (λ (p : Phase). phase_of s t ≡ p → standing p ≢ Standing.Calling → 0 < measure z p → Unlocks)
      (λ e n k. absurd (omega arith)) (λ e n k. unlock-writer t e)
      (λ e n k. sleeper ((remembers-of z s kept.inv kept.quiet).held rest t e)) (λ i e n k. unlock-reader t i e)
      (λ p i c e n k. absurd (n i)) (phase_of s t) refl (rest t) h
    where
      sleeper : Reads s ⊎ Writes s → Unlocks
      sleeper (inl r) = unlock-reader r.thread r.ticket r.reads
      sleeper (inr w) = unlock-writer w.thread w.writes

  falls : 0 < measures z s → Unlocks
  falls h =
      dec-both (dec_lt 0 callers) (λ a. call_ends true a)
      (λ a. let (t, k) = sum-some (λ j (h : Thread). measure z h.phase) 0 s.threads fresh_thread h in
      holder (resting (omega arith)) t k)

-- ---- until a state is reached

-- by going on with calls alone, one in which nobody is in a call
pub comes-to-rest : (z : Sizes) (s : State) → Kept z s
    → Reaches z (AnyRow false) (measures z) (λ s'. Kept z s' × Resting s') s
comes-to-rest z =
    reaches (λ s kept. dec-both (dec_lt 0 (callers z s kept)) (λ a. inr (call_ends z s kept false a))
    (λ a. inl (resting z s kept (omega arith))))

-- with unlocks too, one in which everybody is idle
abbrev pub AllIdle : State → Type 0
AllIdle s = (t : ℕ) → phase_of s t ≡ Idle

all-idle : (z : Sizes) (s : State) → measures z s ≡ 0 → AllIdle s
all-idle z s h t =
    dec-both (dec_lt t (length s.threads))
    (λ a. measure-idle z (phase_of s t)
    (omega (arith, sum-mem (λ j (h : Thread). measure z h.phase) 0 s.threads t fresh_thread a)))
    (λ a. ap (λ (x : Thread). x.phase) (List·getD-eq-default s.threads fresh_thread {n = t} (omega arith)))

pub comes-free : (z : Sizes) (s : State) → Kept z s
    → Reaches z (AnyRow true) (measures z) (λ s'. Kept z s' × AllIdle s') s
comes-free z =
    reaches (λ s kept. dec-both (dec_lt 0 (measures z s)) (λ a. inr (falls z s kept a))
    (λ a. inl (all-idle z s (omega arith))))

-- where everybody is idle the lock is as it was made
pub free-lock : (z : Sizes) (s : State) → Kept z s → AllIdle s → Free s
free-lock z s kept = (remembers-of z s kept.inv kept.quiet).free

-- the bound on the rows
pub measures-enough : (z : Sizes) (s : State) → Kept z s → measures z s ≤ enough_rows z
measures-enough z s kept =
    measures-most z kept.inv.sizes.nodes_least 0 z.threads s.threads
    (λ u n. idle-measure z (phase_of s u) (kept.absent u n))

deadlock-free : (z : Sizes) → InRange z → (rs : List Row) → DeadlockFree z rs
unfolding run
deadlock-free z h rs =
    record {
      more = c.rows;
      orders = leads-orders c.leads;
      few = omega (arith, c.few, measures-enough z s kept);
      frees =
          record {
            answer = r.answer;
            taken = r.taken;
            idle = λ t. subst (λ (x : State). phase_of x t ≡ Idle) (sym r.state) (c.holds.1 t);
            free = subst Free (sym r.state) (free-lock z c.state c.holds.0 c.holds.1);
          };
    }
  where
    s : State
    s = (run z fresh rs).state

    kept : Kept z s
    kept = kept-after z h rs

    c : Reaches z (AnyRow true) (measures z) (λ s'. Kept z s' × AllIdle s') s
    c = comes-free z s kept

    r : Ran (run z fresh (take (run z fresh rs).taken rs ++ c.rows))
        (length (take (run z fresh rs).taken rs ++ c.rows)) c.state
    r = ran-behind (step z) fresh c.state rs c.rows (leads-run c.leads)

pub progress : ProgressOf
progress z h rs =
    record {
      ends = λ i t. call-over z (state_at z rs i) (kept-after z h (take i rs)) t;
      owner = λ i t. owner-calls z (state_at z rs i) (kept-after z h (take i rs)) t;
      deadlock_free = deadlock-free z h rs;
    }

-- at each lock of two, by its own rows
pub progress-pair-each : ProgressOfEach
progress-pair-each z h x rs = progress z h _
