-- While the root is open nobody waits in the queue: who joins has found the root closed under the mutex, and who opens
-- it has emptied the queue under the mutex.
use Rattle.laws.proofs.Lock.{ℕ, ◌+◌, ◌<◌, ◌≡◌, refl, sym, subst, ap, ◌∙◌, ◌≢◌, Bool, true, false, List, []}
use Rattle.laws.proofs.Lock.{◌∷◌, Option, arith, ℕ_discrete, eqb, length, get_or, set, get_or-set_same}
use Rattle.laws.proofs.Lock.{get_or-set_other, ltb-false, if-both, not-both, at_set, dec-both, Word, opened}
use Rattle.laws.proofs.Lock.{closed, is_closed, is_zero, same, down, down_direct, Group, is_writer, size}
use Rattle.laws.proofs.Lock.{Waiters, next_group, left, writer_queued, Then, Leaving, Upgrading, Inside, Phase}
use Rattle.laws.proofs.Lock.{Thread, Sizes, Op, looked, climbed, arrived, ended, unlock_got, stored, op, Order}
use Rattle.laws.proofs.Lock.{State, fresh, fresh_thread, word_at, thread_at, holding, Outcome, taken, refused, Row}
use Rattle.laws.proofs.Lock.{step, run, InRange, note}
use Rattle.lock.proofs.Machine as machine
use Rattle.laws.proofs.Role.{Role, place, role, Right, Named, role_at, Inv, moves}
use Rattle.laws.proofs.Facts.{zero-closed}
use Rattle.laws.proofs.Seen.{Watched, free, shut_seen, emptied, swept, watch}
use Rattle.laws.proofs.Made.{Becomes, Others, stayed}
use Rattle.laws.proofs.Perform.{Safe, owned, no_other}
use Rattle.laws.proofs.Calls.{last-writer}
use Rattle.laws.proofs.Orders.{Starts, row_makes}
use Rattle.laws.proofs.Runs.{steps, same_at, fresh-inv}
use Rattle.laws.proofs.Staying.{others-kept}
use Rattle.laws.proofs.Next.{looked-each, climbed-each, arrived-each, departed-each, upgraded-each, unlock-each}
use Rattle.laws.proofs.Next.{last-each}

-- ---- what a thread with the mutex has found

pub record Nobody (q : Waiters) : Type 0 where
  pub readers : q.readers ≡ 0
  pub writers : q.writers ≡ []
  pub waiting : q.waiting ≡ 0

abbrev pub Sees : {p : Phase} → Word → Waiters → Watched p → Type 0
Sees v q (free h) = Unit {0}
Sees v q (shut_seen h) = is_closed v ≡ true
Sees v q (emptied h) = Nobody q
Sees v q (swept h) = q.readers ≡ 0

abbrev pub At : Sizes → Word → Waiters → Phase → Type 0
At z v q p = Sees v q (watch p)

-- it still holds where the root stays closed and the queue the same; without the mutex there is nothing to show
sees-kept : {p : Phase} (w : Watched p) (v v' : Word) (q : Waiters) → (is_closed v ≡ true → is_closed v' ≡ true)
    → Sees v q w → Sees v' q w
sees-kept (free m) v v' q k h = tt
sees-kept (shut_seen m) v v' q k h = k h
sees-kept (emptied m) v v' q k h = h
sees-kept (swept m) v v' q k h = h

sees-free : {p : Phase} (z : Sizes) (w : Watched p) (v : Word) (q : Waiters) → (role z p).inmutex ≡ 0 → Sees v q w
sees-free z (free m) v q h = tt
sees-free z (shut_seen m) v q h = absurd (omega (arith, m z))
sees-free z (emptied m) v q h = absurd (omega (arith, (m z).0))
sees-free z (swept m) v q h = absurd (omega (arith, (m z).0))

-- a writer about to join shows that the root is closed
pub joins-shut : {p : Phase} (z : Sizes) (w : Watched p) (v : Word) (q : Waiters) → 0 < (role z p).joins → Sees v q w
    → is_closed v ≡ true
joins-shut z (free m) v q h a = absurd (omega (arith, m z))
joins-shut z (shut_seen m) v q h a = a
joins-shut z (emptied m) v q h a = absurd (omega (arith, (m z).1))
joins-shut z (swept m) v q h a = absurd (omega (arith, (m z).1))

pub record Quiet (z : Sizes) (s : State) : Type 0 where
  pub empty : is_closed (word_at s 0) ≡ false → Nobody s.queue
  pub sees : (u : ℕ) → At z (word_at s 0) s.queue (thread_at s u).phase

-- ---- what follows each row: only the joins and the stores have something to show

module _ (z : Sizes) (v : Word) (q : Waiters) where
  abbrev Ok : Phase → Type 0
  Ok p = At z v q p

  looked-ok : (n : ℕ) (u : Word) → Ok (looked n u)
  unfolding watch
  looked-ok n u = looked-each Ok n u (λ e. tt) (λ e k. tt) (λ e k. tt)

  climbed-ok : (F c n : ℕ) (u : Word) → Ok (climbed F c n u)
  unfolding watch
  climbed-ok F c n u = climbed-each Ok F c n u (λ e. tt) (λ e k. tt) (λ e. tt) (λ e k. tt)

  arrived-ok : (F c n : ℕ) → Ok (arrived F c n)
  unfolding watch
  arrived-ok F c n = arrived-each Ok F c n (λ e. tt) (λ e. tt)

  ended-ok : (F : ℕ) (k : Then) (last : Bool) → Ok (ended F k last)
  unfolding watch
  ended-ok F Leaving last = if-both Ok last (λ e. tt) (λ e. tt)
  ended-ok F Upgrading last = tt
  ended-ok F (Inside n c) last = arrived-ok F c n

-- no writer is queued
no-writers : (ws : List ℕ) → length ws ≡ 0 → ws ≡ []
no-writers [] h = refl
no-writers (w ∷ ws) h = absurd (omega arith)

-- a store that opens finds no writer, and has taken the readers
stored_ok : (n : ℕ) (q : Waiters) → Named q → q.readers ≡ 0 → is_closed (stored n (writer_queued q)) ≡ false → Nobody q
stored_ok n q a e =
    if-both (λ (v : Word). is_closed v ≡ false → Nobody q) (writer_queued q) (λ h k. not-both _ refl k)
    (λ h k. let i : q.waiting ≡ 0 = omega (arith, ltb-false 0 q.waiting h) in
    record { readers = e; writers = no-writers q.writers (omega (arith, a.tally)); waiting = i })

-- what a leaving writer finds
unlock-got-ok : (z : Sizes) (v : Word) (q : Waiters) → Named q → At z v (left false q) (unlock_got (next_group false q))
unfolding watch
unlock-got-ok z v q a =
    unlock-each (At z v) q (λ h. refl) (λ e. last-each (At z v) q
    (λ i. record { readers = e; writers = refl; waiting = omega (arith, a.tally, ap length i) }) (λ w ws i. tt))

-- the last reader finds a writer
last-got-ok : (z : Sizes) (v : Word) (q : Waiters)
    → 0 < length q.writers → At z v (left true q) (unlock_got (next_group true q))
unfolding watch
last-got-ok z v q h = last-each (At z v) q (λ i. absurd (omega (arith, ap length i))) (λ w ws i. tt)

-- ---- what each operation has to show

-- thread t goes on to p, with the root v and the queue q
record Fits (z : Sizes) (s : State) (t : ℕ) (v : Word) (q : Waiters) (p : Phase) : Type 0 where
  empty : is_closed v ≡ false → Nobody q
  own : At z v q p
  others : (u : ℕ) → u ≢ t → At z v q (thread_at s u).phase

abbrev Quietly : Sizes → State → ℕ → Op → Type 0
Quietly z s t = Becomes z s t (λ e s₁ p. Fits z s t (word_at s₁ 0) s₁.queue p)

-- ---- what is shown is enough

abbrev pub QuietAfter : Sizes → Outcome → Type 0
QuietAfter z (taken s e) = Quiet z s
QuietAfter z (refused n) = Unit {0}

-- what is not open is closed
kept : (v u : Word) → (is_closed u ≡ false → is_closed v ≡ false) → is_closed v ≡ true → is_closed u ≡ true
kept v u f h = from (is_closed u) refl
  where
    from : (b : Bool) → is_closed u ≡ b → b ≡ true
    from true e = refl
    from false e = not-both (is_closed v) h (f e)

holding-sees : (z : Sizes) (v : Word) (q : Waiters) (g : Group) → At z v q (holding g)
unfolding watch
holding-sees z v q g = if-both (At z v q) (is_writer g) (λ e. tt) (λ e. tt)

-- root and queue as they were
calm : {z : Sizes} {s : State} {t : ℕ} {p : Phase} → Quiet z s → At z (word_at s 0) s.queue p
    → Fits z s t (word_at s 0) s.queue p
calm quiet a = record { empty = quiet.empty; own = a; others = λ u n. quiet.sees u }

-- t goes on to p among the threads of hs
moved : (z : Sizes) (s : State) (t : ℕ) {o : Op} (ws : List Word) (m : Option ℕ) (q : Waiters) (hs : List Thread)
    (p : Phase) (f : ℕ) → t < length hs → Others s o hs → Fits z s t (get_or ws 0 (opened 0 0)) q p
    → Quiet z (moves t ws m q hs p f)
moved z s t ws m q hs p f l i k =
    record {
      empty = k.empty;
      sees =
          λ u. at_set (λ (x : Thread). At z (get_or ws 0 (opened 0 0)) q x.phase) hs t u _ l (λ e. k.own)
          (λ n. others-kept (At z (get_or ws 0 (opened 0 0)) q) (holding-sees z (get_or ws 0 (opened 0 0)) q) u i (k.others u n));
    }

module _ (z : Sizes) (s : State) (t : ℕ) (inv : Inv z s) (l : t < 64) (quiet : Quiet z s) where
  -- t has the mutex
  alone : (v : Word) (q : Waiters) {p : Phase} → (role_at z s t).inmutex ≡ 1 → (is_closed v ≡ false → Nobody q)
      → At z v q p → Fits z s t v q p
  alone v q h e a =
      let f = no_other z s t inv l refl h in
      record { empty = e; own = a; others = λ u n. sees-free z (watch (thread_at s u).phase) v q (f u n) }

  -- the root is closed, so who is in the queue matters not
  changed : (q : Waiters) {p : Phase} → (role_at z s t).inmutex ≡ 1 → is_closed (word_at s 0) ≡ true
      → At z (word_at s 0) q p → Fits z s t (word_at s 0) q p
  changed q h c a = alone (word_at s 0) q h (λ e. not-both (is_closed (word_at s 0)) c e) a

  stores : (v : Word) {p : Phase} → (role_at z s t).inmutex ≡ 1 → (is_closed v ≡ false → Nobody s.queue)
      → At z v s.queue p → Fits z s t (get_or (set s.words 0 v) 0 (opened 0 0)) s.queue p
  stores v h e a = rw (get_or-set_same s.words 0 v (opened 0 0) (omega (arith, inv.words))) (alone v s.queue h e a)

  swapped : (w : ℕ) (old new : Word) {p : Phase} → word_at s w ≡ old → (is_closed new ≡ false → is_closed old ≡ false)
      → ((v : Word) → (w ≡ 0 → v ≡ new) → At z v s.queue p)
      → Fits z s t (get_or (set s.words w new) 0 (opened 0 0)) s.queue p
  swapped w old new q k a =
      record {
        empty = λ h. quiet.empty (opens h);
        own = a after same-root;
        others =
            λ u n. sees-kept (watch (thread_at s u).phase) (word_at s 0) after s.queue
            (kept (word_at s 0) after opens) (quiet.sees u);
      }
    where
      after : Word
      after = get_or (set s.words w new) 0 (opened 0 0)

      same-root : w ≡ 0 → after ≡ new
      same-root e = rw e (get_or-set_same s.words 0 new (opened 0 0) (omega (arith, inv.words)))

      opens : is_closed after ≡ false → is_closed (word_at s 0) ≡ false
      opens h =
          dec-both (ℕ_discrete 0 w)
          (λ e. let i = subst (λ (v : Word). is_closed v ≡ false) (same-root (sym e)) h in
          subst (λ (v : Word). is_closed v ≡ false) (sym (subst (λ (x : ℕ). word_at s x ≡ old) (sym e) q)) (k i))
          (λ e. subst (λ (v : Word). is_closed v ≡ false) (get_or-set_other s.words w 0 new (opened 0 0) e) h)

  -- ---- every row of a call

  calls : (p : Phase) → (thread_at s t).phase ≡ p → Quietly z s t (op z.fan p)
  unfolding op place watch
  calls p i =
      from p (ap (role z) i) (subst (Right z) i (inv.right t)) (subst (At z (word_at s 0) s.queue) i (quiet.sees t))
    where
      F : ℕ
      F = z.fan

      v : Word
      v = word_at s 0

      q : Waiters
      q = s.queue

      mine : {r : Role} → role_at z s t ≡ r → r.inmutex ≡ 1 → (role_at z s t).inmutex ≡ 1
      mine e h = ap (λ (r : Role). r.inmutex) e ∙ h

      -- an owner of the root has it closed
      shut-root : (p : Phase) → role_at z s t ≡ role z p → (role z p).own ≡ 1 → is_closed v ≡ true
      shut-root p e o = rw (zero-closed v (owned z s t inv l e o))

      from : (p : Phase) → role_at z s t ≡ role z p → Right z p → At z (word_at s 0) s.queue p
          → Quietly z s t (op z.fan p)
      from Phase.Idle e r a = tt
      from Phase.Writing e r a = tt
      from Phase.Asleep e r a = tt
      from (Phase.Reading k) e r a = tt
      from (Phase.Look n) e r a = calm quiet (looked-ok z v q n v)
      from (Phase.Enter u) e r a = (λ i. swapped 0 u _ i (λ h. h) (λ w i. tt), λ i. calm quiet (looked-ok z v q 0 v))
      from (Phase.Climb c n) e r a = calm quiet (climbed-ok z v q F c n (word_at s c))
      from (Phase.ClimbSwap c n u) e r a = (
        λ i. swapped c u _ i (λ h. h) (λ w i. arrived-ok z w q F c n),
        λ i. calm quiet (climbed-ok z v q F c n (word_at s c)),
      )
      from (Phase.Descend c n) e r a =
          (λ i. swapped c (opened 0 0) _ i (λ h. h) (λ w i. arrived-ok z w q F c n), λ i. calm quiet tt)
      from (Phase.Again c n) e r a = calm quiet tt
      from (Phase.AgainSwap c n u) e r a = (
        λ i. swapped c u _ i (λ h. h) (λ w i. if-both (At z w q) (is_zero u) (λ e. arrived-ok z w q F c n) (λ e. tt)),
        λ i. calm quiet tt,
      )
      from (Phase.Depart d k) e r a = calm quiet tt
      from (Phase.DepartSwap d k u) e r a = (
        λ i. swapped d u _ i (λ h. h)
            (λ w i. departed-each (At z w q) F d k (down u) (λ e. ended-ok z w q F k _) (λ e i. tt)
            (λ e i. ended-ok z w q F k false)),
        λ i. calm quiet tt,
      )
      from Phase.Leave e r a = calm quiet tt
      from (Phase.LeaveSwap u) e r a = (
        λ i. swapped 0 u _ i (λ h. h) (λ w i. ended-ok z w q F Leaving (same (down_direct u) (closed 0 0))),
        λ i. calm quiet tt,
      )
      from (Phase.QueueTake n) e r a = λ i. calm quiet tt
      from (Phase.QueueRead n) e r a = calm quiet (if-both (At z v q) (is_closed v) (λ e. e) (λ e. tt))
      from (Phase.QueueBack n) e r a = calm quiet tt
      from Phase.QueueJoin e r a = changed _ (mine e refl) a tt
      from Phase.Sleep e r a = calm quiet tt
      from Phase.WriteLook e r a = calm quiet (if-both (At z v q) (same v (opened 0 0)) (λ e. tt) (λ e. tt))
      from Phase.WriteEnter e r a = (
        λ i. swapped 0 (opened 0 0) _ i (λ h. refl) (λ w i. tt),
        λ i. calm quiet (if-both (At z v q) (same v (opened 0 0)) (λ e. tt) (λ e. tt)),
      )
      from Phase.WriteTake e r a = λ i. calm quiet tt
      from Phase.WriteRead e r a = calm quiet (if-both (At z v q) (is_closed v) (λ e. e) (λ e. tt))
      from (Phase.WriteClose u) e r a = (
        λ i. swapped 0 u _ i (λ h. not-both _ refl h)
            (λ w i. if-both (At z w q) (is_zero u) (λ e. tt) (λ e. ap is_closed (i refl))),
        λ i. calm quiet (if-both (At z v q) (is_closed v) (λ e. e) (λ e. tt)),
      )
      from Phase.WriteHold e r a = calm quiet tt
      from Phase.WriteJoin e r a = changed _ (mine e refl) a tt
      from Phase.UnlockTake e r a = λ i. calm quiet tt
      from Phase.UnlockNext e r a =
          changed _ (mine e refl) (shut-root Phase.UnlockNext e refl) (unlock-got-ok z v q inv.named)
      from Phase.UnlockOpen e r a = stores _ (mine e refl) (λ h. a) tt
      from Phase.UnlockEnd e r a = calm quiet tt
      from (Phase.UnlockStore b) e r a = stores _ (mine e refl) (stored_ok (size b) q inv.named a) tt
      from Phase.LastTake e r a = λ i. calm quiet tt
      from Phase.LastNext e r a =
          changed _ (mine e refl) (shut-root Phase.LastNext e refl) (last-got-ok z v q (last-writer z s t inv l e))
      from (Phase.HandRelease g) e r a = calm quiet tt
      from (Phase.HandWake g) e r a = calm quiet tt
      from (Phase.UpgradeTrade n) e r a = calm quiet tt
      from (Phase.UpgradeEnter n u) e r a = (λ i. swapped 0 u _ i (λ h. h) (λ w i. tt), λ i. calm quiet tt)
      from Phase.UpgradeLook e r a = calm quiet (upgraded-each (At z v q) v (λ e. tt) tt)
      from (Phase.UpgradeSwap u) e r a = (
        λ i. swapped 0 u _ i (λ h. not-both true refl h) (λ w i. tt),
        λ i. calm quiet (upgraded-each (At z v q) v (λ e. tt) tt),
      )
      from Phase.DowngradeTake e r a = λ i. calm quiet tt
      from Phase.DowngradeNext e r a = changed _ (mine e refl) (shut-root Phase.DowngradeNext e refl) refl
      from (Phase.DowngradeStore b) e r a = stores _ (mine e refl) (stored_ok (1 + size b) q inv.named a) tt
      from (Phase.DowngradeRelease b) e r a = calm quiet (if-both (At z v q) (eqb b 0) (λ e. tt) (λ e. tt))
      from (Phase.DowngradeWake b) e r a = calm quiet tt

-- ---- all rows

-- who begins a call has found nothing yet
starts-ok : {z : Sizes} {o : ℕ} {w : Order} {p p' : Phase} (v : Word) (q : Waiters) → Starts z o w p p' → At z v q p'
unfolding watch
starts-ok v q (Starts.writes e) = tt
starts-ok v q (Starts.reads n e l) = tt
starts-ok v q (Starts.leaves e) = tt
starts-ok v q (Starts.departs k e) = tt
starts-ok v q (Starts.unlocks e) = tt
starts-ok v q (Starts.upgrades e) = tt
starts-ok v q (Starts.trades k e) = tt
starts-ok v q (Starts.lowers e) = tt

pub quiet_step : (z : Sizes) (s : State) (r : Row) → Inv z s → Quiet z s → QuietAfter z (step z s r)
quiet_step z s r inv quiet =
    row_makes z s r inv (λ e s₁ p. Fits z s t (word_at s₁ 0) s₁.queue p) (QuietAfter z) (λ e i. quiet) (λ n. tt)
    (λ o e ws m q hs p f l i n k. moved z s t ws m q hs p f l i k)
    (λ w p' q k l. moved z s t {o = note} s.words s.mutex s.queue s.threads p' _ l stayed
    (calm quiet (starts-ok (word_at s 0) s.queue k)))
    (λ l. calls z s t inv l quiet _ refl)
  where
    t : ℕ
    t = r.thread

-- with the invariant, after any rows
quiet-run : (z : Sizes) (s : State) (rs : List Row) → Inv z s → Quiet z s → Quiet z (run z s rs).state
unfolding run
quiet-run z s rs inv quiet =
    (machine.kept Both machine.Any machine.Any (step z)
    (λ s r h. from (step z s r) (steps z s r h.0) (quiet_step z s r h.0 h.1)) s rs (inv, quiet)).state.1
  where
    Both : State → Type 0
    Both s = Inv z s × Quiet z s

    from : (o : Outcome) → Safe z o → QuietAfter z o → machine.Keeps Both machine.Any machine.Any o
    from (taken s' e) i h = ((i, h), tt)
    from (refused n) i h = tt

fresh-quiet : (z : Sizes) → Quiet z fresh
unfolding watch
fresh-quiet z = record {
  empty = λ e. record { readers = refl; writers = refl; waiting = refl };
  sees =
      λ u. subst (λ (x : Thread). At z (word_at fresh 0) fresh.queue x.phase) (sym (same_at 64 u fresh_thread)) tt;
}

-- after any rows
pub held-quiet : (z : Sizes) → InRange z → (rs : List Row) → Quiet z (run z fresh rs).state
held-quiet z h rs = quiet-run z fresh rs (fresh-inv z h) (fresh-quiet z)
