-- Who is not acquiring a lock comes to do so by its own read-lock or write-lock alone: the phases of an unlock, an
-- upgrade and a downgrade lead to no phase of a lock call and to no sleep, and other threads' rows at most make it
-- hold.
use Rattle.lock.proofs.Library.{ℕ, ◌≡◌, refl, subst, ap, ◌≢◌, Bool, true, false, List, Option, none, some, eqb}
use Rattle.lock.proofs.Choice.{if-both, not-both}
use Rattle.laws.proofs.Lock.{Word, closed, is_zero, is_sole, same, down, down_direct, Group, is_writer, next_group, Entry}
use Rattle.laws.proofs.Lock.{Then, Leaving, Upgrading, Inside, Phase, Standing, standing, Sizes, op, ended, departed}
use Rattle.laws.proofs.Lock.{unlock_got, upgrade_found, Order, decode, State, word_at, holding, taken, granted, Row, step}
use Rattle.laws.proofs.{Seen.by-seen, Made.Becomes, Staying.Stays, Staying.others-stay, Staying.phase-stays}
use Rattle.laws.proofs.Orders.{Starts, writes, reads, leaves, departs, unlocks, upgrades, trades, lowers}
use Rattle.pair.specs.Pair.{engaged}
use Rattle.progress.specs.LockOrder.{is_lock_call, acquires}
use Rattle.progress.proofs.Rows.{phase_of}
use Rattle.progress.proofs.Kept.{Kept, KeptAfter, kept_step, Leads, here, on, AnyRow, goes_on, begins}

-- ---- of one phase

-- the thread is not acquiring the lock
abbrev pub NonAcquiring : Phase → Type 0
NonAcquiring p = acquires p ≡ false

-- by its own phase the thread is acquiring the lock
never : {A : Type 0} → true ≡ false → A
never e = not-both true refl e

holding-not : (g : Group) → NonAcquiring (holding g)
unfolding acquires
holding-not g = if-both NonAcquiring (is_writer g) (λ e. refl) (λ e. refl)

-- who is idle or holds is not
pub rests-not : (p : Phase) → engaged (standing p) ≡ false → NonAcquiring p
unfolding acquires standing
rests-not =
    by-seen (λ (p : Phase). engaged (standing p) ≡ false → NonAcquiring p) (λ h. refl) (λ h. refl) never (λ k h. refl)
    (λ p e c h. not-both (engaged (standing p)) (ap engaged e) h)

-- who is neither in a call nor acquiring the lock is free for a call of the other
pub not-rests : (p : Phase) → standing p ≢ Standing.Calling → NonAcquiring p → engaged (standing p) ≡ false
unfolding acquires standing
not-rests =
    by-seen (λ (p : Phase). standing p ≢ Standing.Calling → NonAcquiring p → engaged (standing p) ≡ false)
    (λ n h. refl) (λ n h. refl) (λ n. never) (λ k n h. refl) (λ p e c n h. absurd (n e))

-- ---- the calls

module _ (z : Sizes) where
  abbrev F : ℕ
  F = z.fan

  left_not : (last : Bool) → NonAcquiring (ended F Leaving last)
  unfolding acquires
  left_not last = if-both NonAcquiring last (λ e. refl) (λ e. refl)

  -- on to a parent, or the departure is over
  departed-not : (k : Then) → ((d : ℕ) → NonAcquiring (Phase.Depart d k))
      → ((last : Bool) → NonAcquiring (ended F k last)) → (d : ℕ) (v : Word) → NonAcquiring (departed F d k v)
  departed-not k h g d v =
      if-both NonAcquiring (eqb d 0) (λ e. g (same v (closed 0 0)))
      (λ e. if-both NonAcquiring (is_zero v) (λ q. h _) (λ q. g false))

  got-not : (g : Option Group) → NonAcquiring (unlock_got g)
  unfolding acquires
  got-not none = refl
  got-not (some g) = if-both NonAcquiring (is_writer g) (λ e. refl) (λ e. refl)

  asked-not : (v : Word) → NonAcquiring (granted (Phase.Reading 0) (upgrade_found v))
  unfolding acquires
  asked-not v =
      if-both (λ (o : Option Phase). NonAcquiring (granted (Phase.Reading 0) o)) (is_sole v) (λ e. refl) (λ e. refl)

  -- an unlock, an upgrade or a downgrade stays one to its end
  goes-on-not : (s : State) (t : ℕ) (p : Phase) → NonAcquiring p → Becomes z s t (λ e s₁. NonAcquiring) (op F p)
  unfolding op acquires
  goes-on-not s t Phase.Idle h = tt
  goes-on-not s t Phase.Writing h = tt
  goes-on-not s t Phase.Asleep h = tt
  goes-on-not s t (Phase.Reading k) h = tt
  goes-on-not s t (Phase.Look n) h = never h
  goes-on-not s t (Phase.Enter v) h = never h
  goes-on-not s t (Phase.Climb c n) h = never h
  goes-on-not s t (Phase.ClimbSwap c n v) h = never h
  goes-on-not s t (Phase.Descend c n) h = never h
  goes-on-not s t (Phase.Again c n) h = never h
  goes-on-not s t (Phase.AgainSwap c n v) h = never h
  goes-on-not s t (Phase.Depart d Leaving) h = refl
  goes-on-not s t (Phase.Depart d Upgrading) h = refl
  goes-on-not s t (Phase.Depart d (Inside n c)) h = never h
  goes-on-not s t (Phase.DepartSwap d Leaving v) h =
      (λ e. departed-not Leaving (λ d. refl) left_not d (down v), λ e. refl)
  goes-on-not s t (Phase.DepartSwap d Upgrading v) h =
      (λ e. departed-not Upgrading (λ d. refl) (λ last. refl) d (down v), λ e. refl)
  goes-on-not s t (Phase.DepartSwap d (Inside n c) v) h = never h
  goes-on-not s t Phase.Leave h = refl
  goes-on-not s t (Phase.LeaveSwap v) h = (λ e. left_not (same (down_direct v) (closed 0 0)), λ e. refl)
  goes-on-not s t (Phase.QueueTake n) h = never h
  goes-on-not s t (Phase.QueueRead n) h = never h
  goes-on-not s t (Phase.QueueBack n) h = never h
  goes-on-not s t Phase.QueueJoin h = never h
  goes-on-not s t Phase.Sleep h = never h
  goes-on-not s t Phase.WriteLook h = never h
  goes-on-not s t Phase.WriteEnter h = never h
  goes-on-not s t Phase.WriteTake h = never h
  goes-on-not s t Phase.WriteRead h = never h
  goes-on-not s t (Phase.WriteClose v) h = never h
  goes-on-not s t Phase.WriteHold h = never h
  goes-on-not s t Phase.WriteJoin h = never h
  goes-on-not s t Phase.UnlockTake h = λ e. refl
  goes-on-not s t Phase.UnlockNext h = got-not (next_group false s.queue)
  goes-on-not s t Phase.UnlockOpen h = refl
  goes-on-not s t Phase.UnlockEnd h = refl
  goes-on-not s t (Phase.UnlockStore b) h = refl
  goes-on-not s t Phase.LastTake h = λ e. refl
  goes-on-not s t Phase.LastNext h = got-not (next_group true s.queue)
  goes-on-not s t (Phase.HandRelease g) h = refl
  goes-on-not s t (Phase.HandWake g) h = refl
  goes-on-not s t (Phase.UpgradeTrade n) h = refl
  goes-on-not s t (Phase.UpgradeEnter n v) h = (λ e. refl, λ e. refl)
  goes-on-not s t Phase.UpgradeLook h = asked-not (word_at s 0)
  goes-on-not s t (Phase.UpgradeSwap v) h = (λ e. refl, λ e. asked-not (word_at s 0))
  goes-on-not s t Phase.DowngradeTake h = λ e. refl
  goes-on-not s t Phase.DowngradeNext h = refl
  goes-on-not s t (Phase.DowngradeStore b) h = refl
  goes-on-not s t (Phase.DowngradeRelease b) h = if-both NonAcquiring (eqb b 0) (λ e. refl) (λ e. refl)
  goes-on-not s t (Phase.DowngradeWake b) h = refl

  -- ---- the orders

  starts-not : {o : ℕ} {w : Order} {p p' : Phase} → is_lock_call (some w) ≡ false → Starts z o w p p' → NonAcquiring p'
  unfolding acquires
  starts-not a (writes e) = never a
  starts-not a (reads n e l) = never a
  starts-not a (leaves e) = refl
  starts-not a (departs k e) = refl
  starts-not a (unlocks e) = refl
  starts-not a (upgrades e) = refl
  starts-not a (trades k e) = refl
  starts-not a (lowers e) = refl

  -- ---- one row

  -- a row of another thread
  pub other-not : (s : State) (r : Row) (u : ℕ) (s' : State) (e : Entry) → u ≢ r.thread → NonAcquiring (phase_of s u)
      → step z s r ≡ taken s' e → NonAcquiring (phase_of s' u)
  other-not = others-stay NonAcquiring holding-not z

  -- any row that is no read-lock and no write-lock
  pub step-not : (s : State) (r : Row) (s' : State) (e : Entry) → Kept z s → is_lock_call (decode z r.order) ≡ false
      → step z s r ≡ taken s' e → (u : ℕ) → NonAcquiring (phase_of s u) → NonAcquiring (phase_of s' u)
  step-not s r s' e kept a q u h =
      subst (Stays NonAcquiring holding-not u) q
      (phase-stays NonAcquiring holding-not z s r u kept.inv (λ i. goes-on-not s r.thread _)
      (λ i k w p' d. starts-not (subst (λ (x : Option Order). is_lock_call x ≡ false) d a)) h)

  -- ---- rows that are all taken

  any-not : {b : Bool} {s : State} {r : Row} → AnyRow b s r → is_lock_call (decode z r.order) ≡ false
  any-not (goes_on t c) = refl
  any-not (begins t e n) = refl

  pub leads-not : {b : Bool} {s s' : State} {rs : List Row} → Kept z s → Leads z (AnyRow b) s rs s' → (u : ℕ)
      → NonAcquiring (phase_of s u) → NonAcquiring (phase_of s' u)
  leads-not kept here u h = h
  leads-not kept (on {s} {s'} {r} {e} a q k) u h =
      leads-not (subst (KeptAfter z) q (kept_step z s r kept)) k u (step-not s r s' e kept (any-not a) q u h)
