-- Every operation keeps to its thread's memory.
use Rattle.lock.proofs.Library.{ℕ, ◌≤◌, zero-le, ◌≡◌, refl, Bool, false, Option, none, some, le_refl, arith, eqb}
use Rattle.lock.proofs.{Library.eqb-false, Choice.if-both, Path.{parent-le, on-start, below_top}, Memory.Memory}
use Rattle.lock.proofs.Memory.{nothing, zeros, expects, during, memory, stale, Fits, After, forget, remember}
use Rattle.lock.proofs.Memory.{remember-same, stay-below, climb-on, arrive, zeros-off}
use Rattle.lock.specs.{Word.{Word, opened, closed, is_closed, is_zero, is_sole, same, down, down_direct}, Tree.parent}
use Rattle.lock.specs.{Queue.{Group, is_writer}, Phase.{Then, Leaving, Upgrading, Inside, Phase, Idle, Writing}}
use Rattle.lock.specs.Phase.{Asleep, Reading, Look, Enter, Climb, ClimbSwap, Descend, Again, AgainSwap, Depart}
use Rattle.lock.specs.Phase.{DepartSwap, Leave, LeaveSwap, QueueTake, QueueRead, QueueBack, QueueJoin, Sleep}
use Rattle.lock.specs.Phase.{WriteLook, WriteEnter, WriteTake, WriteRead, WriteClose, WriteHold, WriteJoin}
use Rattle.lock.specs.Phase.{UnlockTake, UnlockNext, UnlockOpen, UnlockEnd, UnlockStore, LastTake, LastNext}
use Rattle.lock.specs.Phase.{HandRelease, HandWake, UpgradeTrade, UpgradeEnter, UpgradeLook, UpgradeSwap}
use Rattle.lock.specs.Phase.{DowngradeTake, DowngradeNext, DowngradeStore, DowngradeRelease, DowngradeWake}
use Rattle.lock.specs.Call.{Op, begin, read, ask, swap, stay, store, lock, release, join, next, take_readers, wake}
use Rattle.lock.specs.Call.{note, refuse, looked, climbed, settled, ended, departed, write_looked, write_found}
use Rattle.lock.specs.{Call.{unlock_got, upgrade_found, op}, State.{Sizes, granted, retried}}

-- ---- what each operation of a thread with the memory m has to show

-- a phase that remembers nothing
abbrev pub Blank : Phase → Type 0
Blank p = memory p ≡ nothing

-- the phase p may follow the memory m, once the word w was seen to have v
abbrev pub Leads : ℕ → Memory → ℕ → Word → Phase → Type 0
Leads F m w v p = After F m w v (memory p)

-- A swap is from what is remembered, over the memory of the read before it, which has nothing of the word.
pub record Swaps (z : Sizes) (m : Memory) (w : ℕ) (old : Word) (p back : Phase) : Type 0 where
  pub expected : m ≡ expects w old (memory back)
  pub done : (v : Word) → Leads z.fan (memory back) w v p
  pub failed : (v : Word) → Leads z.fan (memory back) w v (retried z back v)

abbrev pub Good : Sizes → Memory → Op → Type 0
Good z m (begin p) = Blank p
Good z m (read w k) = (v : Word) → Leads z.fan m w v (k v)
Good z m (ask k p) = (v : Word) → Leads z.fan m 0 v (granted p (k v))
Good z m (swap w old new p back) = Swaps z m w old p back
Good z m stay = Unit {0}
Good z m (store f p) = Blank p
Good z m (lock p) = Blank p
Good z m (release p) = Blank p
Good z m (join e p) = Blank p
Good z m (next last k) = (g : Option Group) → Blank (k g)
Good z m (take_readers k) = (b : ℕ) → Blank (k b)
Good z m (wake g p) = Blank p
Good z m note = Unit {0}
Good z m (refuse n) = Unit {0}

-- ---- what follows each kind of row

module _ (F : ℕ) where
  looked-after : (n : ℕ) (v : Word) → Leads F nothing 0 v (looked n v)
  unfolding memory Fits
  looked-after n v =
      if-both (Leads F nothing 0 v) (is_closed v) (λ e. forget F _ 0 v)
      (λ e. if-both (Leads F nothing 0 v) (eqb n 0) (λ q. remember F nothing 0 v tt) (λ q. start))
    where
      none_below : (x : ℕ) (u : Word) → stale F (zeros n n n) x u ≡ 0
      none_below x u = zeros-off F n n n x u (λ b. let h = below_top n F n n x b in omega arith)

      start : After F nothing 0 v (zeros n n n)
      start =
          record { at = none_below 0 v; off = λ x u h. rw (none_below x u) zero-le; fit = (on-start F n, le_refl n) }

  climbed-after : (c n : ℕ) (v : Word) → Fits F (zeros n c c) → Leads F (zeros n c c) c v (climbed F c n v)
  unfolding memory
  climbed-after c n v f =
      if-both (Leads F (zeros n c c) c v) (eqb c 0)
      (λ q. if-both (Leads F (zeros n c c) c v) (same v (closed 0 0)) (λ e. forget F _ c v) (λ e. remember F _ c v f))
      (λ q. if-both (Leads F (zeros n c c) c v)
      (same v (opened 0 0)) (λ e. climb-on F n c v (eqb-false c 0 q) e f) (λ e. remember F _ c v f))

  settled-after : (c n : ℕ) (old v : Word) → Fits F (zeros n c c) → Leads F (zeros n c c) c v (settled F c n old)
  unfolding memory
  settled-after c n old v f =
      if-both (Leads F (zeros n c c) c v)
      (is_zero old) (λ e. arrive F n c c v f) (λ e. stay-below F n c c (parent F c) v f (parent-le F c))

  ended-after : (d : ℕ) (k : Then) (last : Bool) (v : Word)
      → Fits F (during k d) → Leads F (during k d) d v (ended F k last)
  unfolding memory
  ended-after d Leaving last v f = if-both (Leads F nothing d v) last (λ e. forget F _ d v) (λ e. forget F _ d v)
  ended-after d Upgrading last v f = forget F _ d v
  ended-after d (Inside n c) last v f = arrive F n c d v f

  parent-after : (d : ℕ) (k : Then) (v : Word) → Fits F (during k d) → After F (during k d) d v (during k (parent F d))
  unfolding Fits
  parent-after d Leaving v f = forget F _ d v
  parent-after d Upgrading v f = forget F _ d v
  parent-after d (Inside n c) v f =
      stay-below F n c d (parent F d) v f (let h : d ≤ c = f.1 in omega (arith, parent-le F d))

  departed-after : (d : ℕ) (k : Then) (new v : Word)
      → Fits F (during k d) → Leads F (during k d) d v (departed F d k new)
  unfolding memory
  departed-after d k new v f =
      if-both (Leads F (during k d) d v) (eqb d 0) (λ e. ended-after d k _ v f)
      (λ e. if-both (Leads F (during k d) d v)
      (is_zero new) (λ q. parent-after d k v f) (λ q. ended-after d k false v f))

  -- granted or denied
  upgrade-after : (v : Word) → Leads F nothing 0 v (granted (Reading 0) (upgrade_found v))
  unfolding memory Fits
  upgrade-after v =
      if-both (λ (o : Option Phase). Leads F nothing 0 v (granted (Reading 0) o))
      (is_sole v) (λ e. remember F _ 0 v tt) (λ e. forget F _ 0 v)

  write-looked-after : (v : Word) → Leads F nothing 0 v (write_looked v)
  unfolding memory Fits
  write-looked-after v = if-both (Leads F nothing 0 v)
      (same v (opened 0 0)) (λ e. remember-same F _ 0 v (opened 0 0) e tt) (λ e. forget F _ 0 v)

  write-found-after : (v : Word) → Leads F nothing 0 v (write_found v)
  unfolding memory Fits
  write-found-after v = if-both (Leads F nothing 0 v) (is_closed v) (λ e. forget F _ 0 v) (λ e. remember F _ 0 v tt)

-- A swap from what is remembered. A failure is the read before it over again, so the law of that read, a, is all it
-- needs.
swaps : (z : Sizes) (w : ℕ) (old : Word) (p back : Phase) → ((v : Word) → Leads z.fan (memory back) w v p)
    → ((v : Word) → Leads z.fan (memory back) w v (retried z back v))
    → Swaps z (expects w old (memory back)) w old p back
swaps z w old p back d a = record { expected = refl; done = d; failed = a }

-- what is left of the queue's groups: no hand-over remembers a word
unlock-got : (g : Option Group) → Blank (unlock_got g)
unfolding memory
unlock-got none = refl
unlock-got (some g) = if-both Blank (is_writer g) (λ e. refl) (λ e. refl)

-- ---- every row

pub good : (z : Sizes) (p : Phase) → Fits z.fan (memory p) → Good z (memory p) (op z.fan p)
unfolding op memory Fits
good z Idle f = tt
good z Writing f = tt
good z Asleep f = tt
good z (Reading k) f = tt
good z (Look n) f = λ v. looked-after z.fan n v
good z (Enter v) f = swaps z 0 v _ (Look 0) (λ u. forget _ _ 0 u) (looked-after _ 0)
good z (Climb c n) f = λ v. climbed-after z.fan c n v f
good z (ClimbSwap c n v) f = swaps z c v _ (Climb c n) (λ u. arrive _ n c c u f) (λ u. climbed-after _ c n u f)
good z (Descend c n) f = swaps z c (opened 0 0) _ (Again c n) (λ u. arrive _ n c c u f) (λ u. remember _ _ c u f)
good z (Again c n) f = λ v. remember _ _ c v f
good z (AgainSwap c n v) f = swaps z c v _ (Again c n) (λ u. settled-after _ c n v u f) (λ u. remember _ _ c u f)
good z (Depart d k) f = λ v. remember _ _ d v f
good z (DepartSwap d k v) f =
    swaps z d v _ (Depart d k) (λ u. departed-after _ d k (down v) u f) (λ u. remember _ _ d u f)
good z Leave f = λ v. remember _ _ 0 v f
good z (LeaveSwap v) f =
    swaps z 0 v _ Leave (λ u. ended-after _ 0 Leaving (same (down_direct v) (closed 0 0)) u tt) (λ u. remember _ _ 0 u f)
good z (QueueTake n) f = refl
good z (QueueRead n) f =
    λ v. if-both (Leads z.fan nothing 0 v) (is_closed v) (λ e. forget _ _ 0 v) (λ e. forget _ _ 0 v)
good z (QueueBack n) f = refl
good z QueueJoin f = refl
good z Sleep f = refl
good z WriteLook f = write-looked-after _
good z WriteEnter f = swaps z 0 (opened 0 0) _ WriteLook (λ u. forget _ _ 0 u) (write-looked-after _)
good z WriteTake f = refl
good z WriteRead f = write-found-after _
good z (WriteClose v) f =
    swaps z 0 v _ WriteRead (λ u. if-both (Leads z.fan nothing 0 u)
    (is_zero v) (λ e. forget _ _ 0 u) (λ e. forget _ _ 0 u)) (write-found-after _)
good z WriteHold f = refl
good z WriteJoin f = refl
good z UnlockTake f = refl
good z UnlockNext f = unlock-got
good z UnlockOpen f = refl
good z UnlockEnd f = refl
good z (UnlockStore b) f = refl
good z LastTake f = refl
good z LastNext f = unlock-got
good z (HandRelease g) f = refl
good z (HandWake g) f = refl
good z (UpgradeTrade n) f = λ v. remember _ _ 0 v f
good z (UpgradeEnter n v) f = swaps z 0 v _ (UpgradeTrade n) (λ u. forget _ _ 0 u) (λ u. remember _ _ 0 u f)
good z UpgradeLook f = upgrade-after _
good z (UpgradeSwap v) f = swaps z 0 v _ UpgradeLook (λ u. forget _ _ 0 u) (upgrade-after _)
good z DowngradeTake f = refl
good z DowngradeNext f = λ b. refl
good z (DowngradeStore b) f = refl
good z (DowngradeRelease b) f = if-both Blank (eqb b 0) (λ e. refl) (λ e. refl)
good z (DowngradeWake b) f = refl
