-- What a thread will have when its call ends, by its phase, and how the queue and the hands agree with that: a queued
-- reader will read, a queued writer will write.
use Rattle.lock.proofs.Library.{ℕ, zero, suc, ◌%◌, ◌/◌, ◌≤◌, ◌<◌, ◌≡◌, refl, sym, subst, ap, ◌∙◌, ◌≢◌, ◌⊎◌, inl, inr}
use Rattle.lock.proofs.Library.{Bool, true, false, List, [], ◌∷◌, Option, none, some, arith, ℕ_discrete, eqb, get_or}
use Rattle.lock.proofs.Library.{eqb-true, lt-ltb}
use Rattle.std.specs.Prelude.{if◌then◌else◌}
use Rattle.laws.proofs.Lock.{Word, opened, closed, is_closed, is_zero, is_sole, same, down, down_direct}
use Rattle.laws.proofs.Lock.{Group, is_writer, readers, only, Waiters, joined, next_group, left, longest, behind_longest}
use Rattle.laws.proofs.Lock.{without_readers, Then, Leaving, Upgrading, Inside, Phase, Standing, standing, Thread, Sizes}
use Rattle.laws.proofs.Lock.{Op, next, looked, climbed, arrived, ended, write_looked, write_found, unlock_got}
use Rattle.laws.proofs.Lock.{upgrade_found, op, obey, State, fresh_thread, word_at, thread_at, holding, woken, Outcome}
use Rattle.laws.proofs.Lock.{taken, refused, granted, with_threads, row_op, step}
use Rattle.lock.specs.Queue.{readers_leave}
use Rattle.lock.proofs.Choice.{clash, if-both}
use Rattle.laws.proofs.Made.{others-length, Becomes, Made, still, goes, denied, made}
use Rattle.lock.proofs.Row.{at_set}
use Rattle.laws.proofs.Sum.{bit_at, at_other, bit-or, bit-pow, bit-zero}
use Rattle.laws.proofs.Role.{numbers_of, Inv}
use Rattle.laws.proofs.Facts.{numbers-behind}
use Rattle.dispatch_model.specs.Claims.{Hold, out, reads, writes, either}

-- ---- what each phase comes to

-- between calls
abbrev pub Between : Hold → Phase → Type 0
Between out p = p ≡ Phase.Idle
Between reads p = (k : ℕ) × (p ≡ Phase.Reading k)
Between writes p = p ≡ Phase.Writing
Between either p = ((k : ℕ) × (p ≡ Phase.Reading k)) ⊎ (p ≡ Phase.Writing)

-- a fact of a thread between calls: it is idle, reads or writes
pub between : (P : Phase → Type 0) → P Phase.Idle → ((k : ℕ) → P (Phase.Reading k)) → P Phase.Writing
    → (h : Hold) (p : Phase) → Between h p → P p
between P i r w out p b = subst P (sym b) i
between P i r w reads p b = subst P (sym b.1) (r b.0)
between P i r w writes p b = subst P (sym b) w
between P i r w either p (inl b) = subst P (sym b.1) (r b.0)
between P i r w either p (inr b) = subst P (sym b) w

-- a writer or a reader who joins
abbrev pub joined_as : Bool → Hold
joined_as true = writes
joined_as false = reads

abbrev aim_then : Then → Hold
aim_then Leaving = out
aim_then Upgrading = either
aim_then (Inside n c) = reads

-- inside a call, without a group in hand
pub data Calls : Hold → Phase → Type 0 where
  look : (n : ℕ) → Calls reads (Phase.Look n)
  enter : (v : Word) → Calls reads (Phase.Enter v)
  climb : (c n : ℕ) → Calls reads (Phase.Climb c n)
  climb_swap : (c n : ℕ) (v : Word) → Calls reads (Phase.ClimbSwap c n v)
  descend : (c n : ℕ) → Calls reads (Phase.Descend c n)
  again : (c n : ℕ) → Calls reads (Phase.Again c n)
  again_swap : (c n : ℕ) (v : Word) → Calls reads (Phase.AgainSwap c n v)
  depart : (d : ℕ) (k : Then) → Calls (aim_then k) (Phase.Depart d k)
  depart_swap : (d : ℕ) (k : Then) (v : Word) → Calls (aim_then k) (Phase.DepartSwap d k v)
  leave : Calls out Phase.Leave
  leave_swap : (v : Word) → Calls out (Phase.LeaveSwap v)
  queue_take : (n : ℕ) → Calls reads (Phase.QueueTake n)
  queue_read : (n : ℕ) → Calls reads (Phase.QueueRead n)
  queue_back : (n : ℕ) → Calls reads (Phase.QueueBack n)
  queue_join : Calls reads Phase.QueueJoin
  sleepy : (e : Bool) → Calls (joined_as e) Phase.Sleep
  write_look : Calls writes Phase.WriteLook
  write_enter : Calls writes Phase.WriteEnter
  write_take : Calls writes Phase.WriteTake
  write_read : Calls writes Phase.WriteRead
  write_close : (v : Word) → Calls writes (Phase.WriteClose v)
  write_hold : Calls writes Phase.WriteHold
  write_join : Calls writes Phase.WriteJoin
  unlock_take : Calls out Phase.UnlockTake
  unlock_next : Calls out Phase.UnlockNext
  unlock_open : Calls out Phase.UnlockOpen
  unlock_end : Calls out Phase.UnlockEnd
  last_take : Calls out Phase.LastTake
  last_next : Calls out Phase.LastNext
  upgrade_trade : (n : ℕ) → Calls either (Phase.UpgradeTrade n)
  upgrade_enter : (n : ℕ) (v : Word) → Calls either (Phase.UpgradeEnter n v)
  upgrade_look : Calls either Phase.UpgradeLook
  upgrade_swap : (v : Word) → Calls either (Phase.UpgradeSwap v)
  downgrade_take : Calls reads Phase.DowngradeTake
  downgrade_next : Calls reads Phase.DowngradeNext

module _ (hs : ℕ → Hold) where
  -- the members of a group will have what its wake gives them
  abbrev pub Meant : Group → Type 0
  Meant g = (u : ℕ) → 0 < bit_at g.members u → hs u ≡ joined_as (is_writer g)

  abbrev MeantIf : Option Group → Type 0
  MeantIf none = Unit {0}
  MeantIf (some g) = Meant g

  -- with a group in hand
  pub data Carries : Hold → Phase → Type 0 where
    unlock_store : (b : ℕ) → Meant (readers b) → Carries out (Phase.UnlockStore b)
    hand_release : (g : Group) → Meant g → Carries out (Phase.HandRelease g)
    hand_wake : (g : Group) → Meant g → Carries out (Phase.HandWake g)
    downgrade_store : (b : ℕ) → Meant (readers b) → Carries reads (Phase.DowngradeStore b)
    downgrade_release : (b : ℕ) → Meant (readers b) → Carries reads (Phase.DowngradeRelease b)
    downgrade_wake : (b : ℕ) → Meant (readers b) → Carries reads (Phase.DowngradeWake b)

  pub data Toward (h : Hold) (p : Phase) : Type 0 where
    rest : Between h p → Toward h p
    sleep : (e : Bool) → h ≡ joined_as e → p ≡ Phase.Asleep → Toward h p
    call : standing p ≡ Standing.Calling → Calls h p → Toward h p
    carry : standing p ≡ Standing.Calling → Carries h p → Toward h p

  -- outside a call, and not asleep, it is between calls
  pub is-between : (h : Hold) (p : Phase) → standing p ≢ Standing.Calling → standing p ≢ Standing.Asleep → Toward h p
      → Between h p
  unfolding standing
  is-between h p n m (rest b) = b
  is-between h p n m (sleep e a b) = absurd (m (ap standing b))
  is-between h p n m (call c k) = absurd (n c)
  is-between h p n m (carry c k) = absurd (n c)

  -- ---- what follows each row

  looked-to : (n : ℕ) (v : Word) → Toward reads (looked n v)
  unfolding standing
  looked-to n v =
      if-both (Toward reads) (is_closed v) (λ e. call refl (queue_take n))
      (λ e. if-both (Toward reads) (eqb n 0) (λ e. call refl (enter v)) (λ e. call refl (climb n n)))

  climbed-to : (F c n : ℕ) (v : Word) → Toward reads (climbed F c n v)
  unfolding standing
  climbed-to F c n v =
      if-both (Toward reads) (eqb c 0)
      (λ e. if-both (Toward reads)
      (same v (closed 0 0)) (λ e. call refl (queue_take n)) (λ e. call refl (climb_swap c n v)))
      (λ e. if-both (Toward reads)
      (same v (opened 0 0)) (λ e. call refl (climb _ n)) (λ e. call refl (climb_swap c n v)))

  arrived-to : (F c n : ℕ) → Toward reads (arrived F c n)
  unfolding standing
  arrived-to F c n = if-both (Toward reads) (eqb c n) (λ e. rest (n, refl)) (λ e. call refl (descend _ n))

  ended_to : (F : ℕ) (k : Then) (last : Bool) → Toward (aim_then k) (ended F k last)
  unfolding standing
  ended_to F Leaving true = call refl last_take
  ended_to F Leaving false = rest refl
  ended_to F Upgrading last = call refl upgrade_look
  ended_to F (Inside n c) last = arrived-to F c n

  write-looked-to : (v : Word) → Toward writes (write_looked v)
  unfolding standing
  write-looked-to v =
      if-both (Toward writes) (same v (opened 0 0)) (λ e. call refl write_enter) (λ e. call refl write_take)

  write-found-to : (v : Word) → Toward writes (write_found v)
  unfolding standing
  write-found-to v = if-both (Toward writes) (is_closed v) (λ e. call refl write_join) (λ e. call refl (write_close v))

  got-to : (g : Option Group) → MeantIf g → Toward out (unlock_got g)
  unfolding standing
  got-to none m = call refl unlock_open
  got-to (some g) m =
      if-both (Toward out) (is_writer g)
      (λ e. carry refl (hand_release g m)) (λ e. carry refl (unlock_store g.members (λ u k. m u k ∙ ap joined_as e)))

  upgrade-to : (v : Word) → Toward either (granted (Phase.Reading 0) (upgrade_found v))
  unfolding standing
  upgrade-to v = if-both (λ (o : Option Phase). Toward either (granted (Phase.Reading 0) o))
      (is_sole v) (λ e. call refl (upgrade_swap v)) (λ e. rest (inl (0, refl)))

  -- ---- the state fits what each thread will have

  pub record Queued (q : Waiters) : Type 0 where
    pub readers : (u : ℕ) → 0 < bit_at q.readers u → hs u ≡ reads
    pub writers : (u : ℕ) → 0 < numbers_of u q.writers → hs u ≡ writes

  pub record Fit (s : State) : Type 0 where
    pub toward : (u : ℕ) → Toward (hs u) (thread_at s u).phase
    pub queued : Queued s.queue

  abbrev pub FitAfter : Outcome → Type 0
  FitAfter (taken s e) = Fit s
  FitAfter (refused n) = Unit {0}

  -- counted by g are those counted by f, and t
  with-one : (f g : ℕ → ℕ) (t : ℕ) (h : Hold) → hs t ≡ h → ((u : ℕ) → u ≢ t → g u ≤ f u)
      → ((u : ℕ) → 0 < f u → hs u ≡ h) → (u : ℕ) → 0 < g u → hs u ≡ h
  with-one f g t h e l a u k = elim (ℕ_discrete u t) [ yes i ↦ ap hs i ∙ e | no n ↦ a u (omega (arith, l u n)) ]

  joined-fits : (e : Bool) (t : ℕ) (q : Waiters) → hs t ≡ joined_as e → Queued q → Queued (joined e t q)
  joined-fits true t q h a =
      record {
        readers = a.readers;
        writers = with-one (λ u. numbers_of u q.writers) _ t writes h
            (λ u n. omega (arith, numbers-behind u t q.writers, at_other t u n)) a.writers;
      }
  joined-fits false t q h a =
      record {
        readers = with-one (λ u. bit_at q.readers u) _ t reads h
            (λ u n. omega (arith, bit-or u q.readers (only t), bit-pow t u, at_other t u n)) a.readers;
        writers = a.writers;
      }

  swept : (q : Waiters) → Queued q → Queued (without_readers q)
  swept q a = record { readers = λ u k. absurd (omega (arith, bit-zero u)); writers = a.writers }

  behind-fits : (ws : List ℕ)
      → ((u : ℕ) → 0 < numbers_of u ws → hs u ≡ writes) → (u : ℕ) → 0 < numbers_of u (behind_longest ws) → hs u ≡ writes
  behind-fits [] a u k = a u k
  behind-fits (w ∷ ws) a u k = a u (omega arith)

  longest-meant : (ws : List ℕ) → ((u : ℕ) → 0 < numbers_of u ws → hs u ≡ writes) → MeantIf (longest ws)
  longest-meant [] a = tt
  longest-meant (w ∷ ws) a = λ u k. a u (omega arith)

  left-fits : (last : Bool) (q : Waiters) → Queued q → Queued (left last q)
  left-fits last q a =
      if-both Queued (readers_leave last q.readers) (λ e. swept q a)
      (λ e. record { readers = a.readers; writers = behind-fits q.writers a.writers })

  next-meant : (last : Bool) (q : Waiters) → Queued q → MeantIf (next_group last q)
  next-meant last q a =
      if-both MeantIf (readers_leave last q.readers) (λ e. a.readers) (λ e. longest-meant q.writers a.writers)

  holding-to : (g : Group) (u : ℕ) → hs u ≡ joined_as (is_writer g) → Toward (hs u) (holding g)
  holding-to g u e = subst (λ (h : Hold). Toward h (holding g)) (sym e) (from (is_writer g))
    where
      from : (b : Bool) → Toward (joined_as b) (if b then Phase.Writing else Phase.Reading 0)
      from true = rest refl
      from false = rest (0, refl)

  woken-to : (g : Group) (b : ℕ) (ths : List Thread) (u : ℕ) (h : Hold)
      → (0 < bit_at b u → Toward h (holding g)) → Toward h (get_or ths u fresh_thread).phase
      → Toward h (get_or (woken (holding g) b ths) u fresh_thread).phase
  woken-to g b [] u h f k = k
  woken-to g b (x ∷ ths) zero h f k = if-both (λ (y : Thread). Toward h y.phase)
      (eqb (b % 2) 1) (λ e. f (omega (arith, eqb-true (b % 2) 1 e))) (λ e. k)
  woken-to g b (x ∷ ths) (suc u) h f k = woken-to g (b / 2) ths u h f k

  -- ---- the row of a thread that goes on: the others and the queue fit, and it goes on toward what it will have

  module _ (z : Sizes) (s : State) (t : ℕ) (inv : Inv z s) (l : t < 64) (fit : Fit s) where
    abbrev Leads : Hold → Op → Type 0
    Leads h = Becomes z s t (λ e s₁ p. Fit s₁ × Toward h p)

    -- the queue becomes q, and no other thread is touched
    leaves : {h : Hold} {ws : List Word} {m : Option ℕ} {q : Waiters} {p : Phase} → Queued q → Toward h p
        → Fit (record { words = ws; mutex = m; queue = q; threads = s.threads }) × Toward h p
    leaves b a = (record { toward = fit.toward; queued = b }, a)

    kept : {h : Hold} {ws : List Word} {m : Option ℕ} {p : Phase} → Toward h p
        → Fit (record { words = ws; mutex = m; queue = s.queue; threads = s.threads }) × Toward h p
    kept a = leaves fit.queued a

    hands : (last : Bool) → Leads out (next last unlock_got)
    hands last =
        leaves (left-fits last s.queue fit.queued)
        (got-to (next_group last s.queue) (next-meant last s.queue fit.queued))

    wakes : (g : Group) → Meant g → Fit (with_threads s (woken (holding g) g.members s.threads))
    wakes g m =
        record {
          toward = λ u. woken-to g g.members s.threads u (hs u) (λ k. holding-to g u (m u k)) (fit.toward u);
          queued = fit.queued;
        }

    leads : (h : Hold) (p : Phase) → hs t ≡ h → Calls h p → Leads h (op z.fan p)
    unfolding op standing
    leads h p o (look n) = kept (looked-to n (word_at s 0))
    leads h p o (enter v) = (λ e. kept (rest (0, refl)), λ e. kept (looked-to 0 (word_at s 0)))
    leads h p o (climb c n) = kept (climbed-to z.fan c n (word_at s c))
    leads h p o (climb_swap c n v) =
        (λ e. kept (arrived-to z.fan c n), λ e. kept (climbed-to z.fan c n (word_at s c)))
    leads h p o (descend c n) = (λ e. kept (arrived-to z.fan c n), λ e. kept (call refl (again_swap c n _)))
    leads h p o (again c n) = kept (call refl (again_swap c n _))
    leads h p o (again_swap c n v) = (
      λ e. kept (if-both (Toward reads) (is_zero v) (λ e. arrived-to z.fan c n)
          (λ e. call refl (depart _ (Inside n c)))),
      λ e. kept (call refl (again_swap c n _)),
    )
    leads h p o (depart d k) = kept (call refl (depart_swap d k _))
    leads h p o (depart_swap d k v) = (
      λ e. kept (if-both (Toward (aim_then k)) (eqb d 0) (λ e. ended_to z.fan k (same (down v) (closed 0 0)))
          (λ e. if-both (Toward (aim_then k)) (is_zero (down v)) (λ e. call refl (depart _ k))
          (λ e. ended_to z.fan k false))),
      λ e. kept (call refl (depart_swap d k _)),
    )
    leads h p o leave = kept (call refl (leave_swap _))
    leads h p o (leave_swap v) =
        (λ e. kept (ended_to z.fan Leaving (same (down_direct v) (closed 0 0))), λ e. kept (call refl (leave_swap _)))
    leads h p o (queue_take n) = λ e. kept (call refl (queue_read n))
    leads h p o (queue_read n) =
        kept (if-both (Toward reads) (is_closed (word_at s 0)) (λ e. call refl queue_join) (λ e. call refl (queue_back n)))
    leads h p o (queue_back n) = kept (call refl (look n))
    leads h p o queue_join = leaves (joined-fits false t s.queue o fit.queued) (call refl (sleepy false))
    leads h p o (sleepy e) = kept (sleep e refl refl)
    leads h p o write_look = kept (write-looked-to (word_at s 0))
    leads h p o write_enter = (λ e. kept (rest refl), λ e. kept (write-looked-to (word_at s 0)))
    leads h p o write_take = λ e. kept (call refl write_read)
    leads h p o write_read = kept (write-found-to (word_at s 0))
    leads h p o (write_close v) = (
      λ e. kept (if-both (Toward writes) (is_zero v) (λ e. call refl write_hold) (λ e. call refl write_join)),
      λ e. kept (write-found-to (word_at s 0)),
    )
    leads h p o write_hold = kept (rest refl)
    leads h p o write_join = leaves (joined-fits true t s.queue o fit.queued) (call refl (sleepy true))
    leads h p o unlock_take = λ e. kept (call refl unlock_next)
    leads h p o unlock_next = hands false
    leads h p o unlock_open = kept (call refl unlock_end)
    leads h p o unlock_end = kept (rest refl)
    leads h p o last_take = λ e. kept (call refl last_next)
    leads h p o last_next = hands true
    leads h p o (upgrade_trade n) = kept (call refl (upgrade_enter n _))
    leads h p o (upgrade_enter n v) =
        (λ e. kept (call refl (depart n Upgrading)), λ e. kept (call refl (upgrade_enter n _)))
    leads h p o upgrade_look = kept (upgrade-to (word_at s 0))
    leads h p o (upgrade_swap v) = (λ e. kept (rest (inr refl)), λ e. kept (upgrade-to (word_at s 0)))
    leads h p o downgrade_take = λ e. kept (call refl downgrade_next)
    leads h p o downgrade_next =
        leaves (swept s.queue fit.queued) (carry refl (downgrade_store _ fit.queued.readers))

    leads-hand : (h : Hold) (p : Phase) → Carries h p → Leads h (op z.fan p)
    unfolding op standing
    leads-hand h p (unlock_store b m) = kept (carry refl (hand_release (readers b) m))
    leads-hand h p (hand_release g m) = kept (carry refl (hand_wake g m))
    leads-hand h p (hand_wake g m) = (wakes g m, rest refl)
    leads-hand h p (downgrade_store b m) = kept (carry refl (downgrade_release b m))
    leads-hand h p (downgrade_release b m) =
        kept (if-both (Toward reads) (eqb b 0) (λ e. rest (0, refl)) (λ e. carry refl (downgrade_wake b m)))
    leads-hand h p (downgrade_wake b m) = (wakes (readers b) m, rest (0, refl))

    leads-on : (p : Phase) → standing p ≡ Standing.Calling → Toward (hs t) p → Leads (hs t) (op z.fan p)
    unfolding standing
    leads-on p c (rest b) = absurd (between (λ (q : Phase). standing q ≢ Standing.Calling)
        (λ e. clash cc) (λ k e. clash cc) (λ e. clash cc) (hs t) p b c)
    leads-on p c (sleep e a b) = let k = sym (ap standing b) ∙ c in clash cc
    leads-on p c (call i k) = leads (hs t) p refl k
    leads-on p c (carry i k) = leads-hand (hs t) p k

    made-fit : {o : Op} {x : Outcome} → Leads (hs t) o → Made z s t (λ e s₁ p. Fit s₁ × Toward (hs t) p) o x
        → FitAfter x
    made-fit a (still e i) = fit
    made-fit a (goes e ws m q ths p f j d k) =
        let (others, own) = k a in
        record {
          toward =
              λ u. at_set (λ (x : Thread). Toward (hs u) x.phase) ths t u _
              (omega (arith, inv.threads, others-length j))
              (λ e. subst (λ (x : ℕ). Toward (hs x) p) (sym e) own) (λ n. others.toward u);
          queued = others.queued;
        }
    made-fit a (denied n) = tt

    pub goes_on : (o : ℕ) → o ≡ 0 → t < z.threads → standing (thread_at s t).phase ≡ Standing.Calling
        → FitAfter (step z s (record { thread = t; order = o }))
    unfolding step row_op obey
    goes_on o e k c =
        let p = (thread_at s t).phase in
        rw (e, lt-ltb t z.threads k) (made-fit (leads-on p c (fit.toward t))
        (made z s t (λ e s₁ p. Fit s₁ × Toward (hs t) p) (op z.fan p)))
