-- What a phase shows: what its standing tells of it, how far it is in a read-lock, what it has found under the mutex,
-- and whether it counts for exclusion.
use Rattle.laws.proofs.Lock.{ℕ, zero, suc, ◌<◌, ◌≡◌, refl, sym, subst, ◌≢◌, ◌⊎◌, inl, inr, Option, le_refl}
use Rattle.laws.proofs.Lock.{arith, eqb, clash, if-both, Part, as_nobody, as_reader, as_writer, counts_as, Holder}
use Rattle.std.specs.Prelude.{if◌then◌else◌}
use Rattle.laws.proofs.Lock.{Word, is_zero, is_sole, down, Then, Leaving, Upgrading, Inside, Phase}
use Rattle.laws.proofs.Lock.{Standing, standing, Sizes, op, upgrade_found, State, word_at, granted}
use Rattle.laws.proofs.Sum.{at_self}
use Rattle.laws.proofs.Role.{place, role}
use Rattle.laws.proofs.Made.{Becomes}
pub use Rattle.laws.proofs.Made.{Steps}

-- what every phase of a call has
abbrev pub InCall : Phase → Type 0
InCall p = ((F : ℕ) → Steps (op F p)) × ((z : Sizes) → (role z p).sleeps ≡ 0)

pub data Seen : Phase → Standing → Type 0 where
  idle : Seen Phase.Idle Standing.Idle
  writing : Seen Phase.Writing Standing.Writing
  asleep : Seen Phase.Asleep Standing.Asleep
  reading : (k : ℕ) → Seen (Phase.Reading k) (Standing.Reading k)
  calling : {p : Phase} → InCall p → Seen p Standing.Calling

-- How far a phase is in a read-lock. Apart from one, or in one that waits, by no route any more; in a read-lock by n:
-- before its last look; past it, in the tree; past its success at n.
pub data Stage : Type 0 where
  apart : Stage
  looking climbing after : ℕ → Stage

-- c was swapped on the way to n
abbrev pub reached : ℕ → ℕ → Stage
reached c n = if eqb c n then after n else climbing n

abbrev pub stage_then : Then → Stage
stage_then Leaving = apart
stage_then Upgrading = apart
stage_then (Inside n c) = reached c n

abbrev pub ticketed : ℕ → Stage
ticketed zero = apart
ticketed (suc k) = after (suc k)

-- what a thread with the mutex has found: nothing; the root closed; nobody in the queue; no readers there. A writer who
-- is about to join has found the root closed.
pub data Watched (p : Phase) : Type 0 where
  free : ((z : Sizes) → (role z p).joins ≡ 0) → Watched p
  shut_seen : ((z : Sizes) → (role z p).inmutex ≡ 1) → Watched p
  emptied swept : ((z : Sizes) → ((role z p).inmutex ≡ 1) × ((role z p).joins ≡ 0)) → Watched p

pub reads-joins : (z : Sizes) (k : ℕ) → (role z (Phase.Reading k)).joins ≡ 0
unfolding place
reads-joins z zero = refl
reads-joins z (suc k) = refl

-- ---- what counts for exclusion

pub reads : as_reader ≢ as_nobody
reads q = clash cc

pub writes : as_writer ≢ as_nobody
writes q = clash cc

abbrev pub Shows : Sizes → Phase → Part → Type 0
Shows z p as_nobody = Unit {0}
Shows z p as_reader = (0 < (role z p).direct) ⊎ ((c : ℕ) × (0 < (role z p).owes c))
Shows z p as_writer = (role z p).own ≡ 1

-- a phase that counts shows in its thread's role, and its rows lead to such phases alone
pub record Counted (p : Phase) : Type 0 where
  pub shows : (z : Sizes) → Shows z p (counts_as p)
  pub keeps : Holder p → (z : Sizes) (s : State) (t : ℕ) → Becomes z s t (λ e s₁. Holder) (op z.fan p)

pub nobody : {p : Phase} → counts_as p ≡ as_nobody → Counted p
nobody {p} e = record { shows = λ z. subst (Shows z p) (sym e) tt; keeps = λ h. absurd (h e) }

pub counts : {p : Phase} → ((z : Sizes) → Shows z p (counts_as p))
    → ((z : Sizes) (s : State) (t : ℕ) → Becomes z s t (λ e s₁. Holder) (op z.fan p)) → Counted p
counts a b = record { shows = a; keeps = λ h. b }

pub reading-counted : (k : ℕ) → Counted (Phase.Reading k)
unfolding place op counts_as
reading-counted zero = counts (λ z. inl (le_refl 1)) (λ z s t. tt)
reading-counted (suc k) = counts (λ z. inr (suc k, omega (arith, at_self (suc k)))) (λ z s t. tt)

pub depart-counted : (d : ℕ) (k : Then) → Counted (Phase.Depart d k)
unfolding place op counts_as
depart-counted d Leaving = nobody refl
depart-counted d Upgrading = counts (λ z. inl (le_refl 1)) (λ z s t. reads)
depart-counted d (Inside n c) = nobody refl

pub swap-counted : (d : ℕ) (k : Then) (v : Word) → Counted (Phase.DepartSwap d k v)
unfolding place op counts_as
swap-counted d Leaving v = nobody refl
swap-counted d Upgrading v =
    counts (λ z. inl (le_refl 1)) (λ z s t. (
      λ e. if-both Holder (eqb d 0) (λ e. reads)
          (λ e. if-both Holder (is_zero (down v)) (λ q. reads) (λ q. reads)),
      λ e. reads,
    ))
swap-counted d (Inside n c) v = nobody refl

pub upgrade-holds : (v : Word) → Holder (granted (Phase.Reading 0) (upgrade_found v))
unfolding counts_as
upgrade-holds v =
    if-both (λ (o : Option Phase). Holder (granted (Phase.Reading 0) o)) (is_sole v) (λ e. reads) (λ e. reads)

-- ---- the table

pub record Shown (p : Phase) : Type 0 where
  pub seen : Seen p (standing p)
  pub stage : Stage
  pub watch : Watched p
  pub counted : Counted p

abbrev row : {p : Phase} → Seen p (standing p) → Stage → Watched p → Counted p → Shown p
row a b c d = record { seen = a; stage = b; watch = c; counted = d }

unfoldable pub shown : (p : Phase) → Shown p
unfolding standing op place counts_as
shown Phase.Idle = row idle apart (free (λ z. refl)) (nobody refl)
shown Phase.Writing = row writing apart (free (λ z. refl)) (counts (λ z. refl) (λ z s t. tt))
shown Phase.Asleep = row asleep apart (free (λ z. refl)) (nobody refl)
shown (Phase.Reading k) = row (reading k) (ticketed k) (free (λ z. reads-joins z k)) (reading-counted k)
shown (Phase.Look n) = row (calling (λ F. tt, λ z. refl)) (looking n) (free (λ z. refl)) (nobody refl)
shown (Phase.Enter v) = row (calling (λ F. tt, λ z. refl)) (looking 0) (free (λ z. refl)) (nobody refl)
shown (Phase.Climb c n) = row (calling (λ F. tt, λ z. refl)) (climbing n) (free (λ z. refl)) (nobody refl)
shown (Phase.ClimbSwap c n v) = row (calling (λ F. tt, λ z. refl)) (climbing n) (free (λ z. refl)) (nobody refl)
shown (Phase.Descend c n) = row (calling (λ F. tt, λ z. refl)) (climbing n) (free (λ z. refl)) (nobody refl)
shown (Phase.Again c n) = row (calling (λ F. tt, λ z. refl)) (climbing n) (free (λ z. refl)) (nobody refl)
shown (Phase.AgainSwap c n v) = row (calling (λ F. tt, λ z. refl)) (climbing n) (free (λ z. refl)) (nobody refl)
shown (Phase.Depart d k) = row (calling (λ F. tt, λ z. refl)) (stage_then k) (free (λ z. refl)) (depart-counted d k)
shown (Phase.DepartSwap d k v) =
    row (calling (λ F. tt, λ z. refl)) (stage_then k) (free (λ z. refl)) (swap-counted d k v)
shown Phase.Leave = row (calling (λ F. tt, λ z. refl)) apart (free (λ z. refl)) (nobody refl)
shown (Phase.LeaveSwap v) = row (calling (λ F. tt, λ z. refl)) apart (free (λ z. refl)) (nobody refl)
shown (Phase.QueueTake n) = row (calling (λ F. tt, λ z. refl)) (looking n) (free (λ z. refl)) (nobody refl)
shown (Phase.QueueRead n) = row (calling (λ F. tt, λ z. refl)) (looking n) (free (λ z. refl)) (nobody refl)
shown (Phase.QueueBack n) = row (calling (λ F. tt, λ z. refl)) (looking n) (free (λ z. refl)) (nobody refl)
shown Phase.QueueJoin = row (calling (λ F. tt, λ z. refl)) apart (shut_seen (λ z. refl)) (nobody refl)
shown Phase.Sleep = row (calling (λ F. tt, λ z. refl)) apart (free (λ z. refl)) (nobody refl)
shown Phase.WriteLook = row (calling (λ F. tt, λ z. refl)) apart (free (λ z. refl)) (nobody refl)
shown Phase.WriteEnter = row (calling (λ F. tt, λ z. refl)) apart (free (λ z. refl)) (nobody refl)
shown Phase.WriteTake = row (calling (λ F. tt, λ z. refl)) apart (free (λ z. refl)) (nobody refl)
shown Phase.WriteRead = row (calling (λ F. tt, λ z. refl)) apart (free (λ z. refl)) (nobody refl)
shown (Phase.WriteClose v) = row (calling (λ F. tt, λ z. refl)) apart (free (λ z. refl)) (nobody refl)
shown Phase.WriteHold = row (calling (λ F. tt, λ z. refl)) apart (free (λ z. refl)) (nobody refl)
shown Phase.WriteJoin = row (calling (λ F. tt, λ z. refl)) apart (shut_seen (λ z. refl)) (nobody refl)
shown Phase.UnlockTake = row (calling (λ F. tt, λ z. refl)) apart (free (λ z. refl)) (nobody refl)
shown Phase.UnlockNext = row (calling (λ F. tt, λ z. refl)) apart (free (λ z. refl)) (nobody refl)
shown Phase.UnlockOpen = row (calling (λ F. tt, λ z. refl)) apart (emptied (λ z. (refl, refl))) (nobody refl)
shown Phase.UnlockEnd = row (calling (λ F. tt, λ z. refl)) apart (free (λ z. refl)) (nobody refl)
shown (Phase.UnlockStore b) = row (calling (λ F. tt, λ z. refl)) apart (swept (λ z. (refl, refl))) (nobody refl)
shown Phase.LastTake = row (calling (λ F. tt, λ z. refl)) apart (free (λ z. refl)) (nobody refl)
shown Phase.LastNext = row (calling (λ F. tt, λ z. refl)) apart (free (λ z. refl)) (nobody refl)
shown (Phase.HandRelease g) = row (calling (λ F. tt, λ z. refl)) apart (free (λ z. refl)) (nobody refl)
shown (Phase.HandWake g) = row (calling (λ F. tt, λ z. refl)) apart (free (λ z. refl)) (nobody refl)
shown (Phase.UpgradeTrade n) =
    row (calling (λ F. tt, λ z. refl)) apart (free (λ z. refl))
    (counts (λ z. inr (n, omega (arith, at_self n))) (λ z s t. reads))
shown (Phase.UpgradeEnter n v) =
    row (calling (λ F. tt, λ z. refl)) apart (free (λ z. refl))
    (counts (λ z. inr (n, omega (arith, at_self n))) (λ z s t. (λ e. reads, λ e. reads)))
shown Phase.UpgradeLook =
    row (calling (λ F. tt, λ z. refl)) apart (free (λ z. refl))
    (counts (λ z. inl (le_refl 1)) (λ z s t. upgrade-holds (word_at s 0)))
shown (Phase.UpgradeSwap v) =
    row (calling (λ F. tt, λ z. refl)) apart (free (λ z. refl))
    (counts (λ z. inl (le_refl 1)) (λ z s t. (λ e. writes, λ e. upgrade-holds (word_at s 0))))
shown Phase.DowngradeTake =
    row (calling (λ F. tt, λ z. refl)) apart (free (λ z. refl)) (counts (λ z. refl) (λ z s t e. writes))
shown Phase.DowngradeNext =
    row (calling (λ F. tt, λ z. refl)) apart (free (λ z. refl)) (counts (λ z. refl) (λ z s t. writes))
shown (Phase.DowngradeStore b) =
    row (calling (λ F. tt, λ z. refl)) apart (swept (λ z. (refl, refl))) (counts (λ z. refl) (λ z s t. reads))
shown (Phase.DowngradeRelease b) =
    row (calling (λ F. tt, λ z. refl)) apart (free (λ z. refl))
    (counts (λ z. inl (omega arith)) (λ z s t. if-both Holder (eqb b 0) (λ e. reads) (λ e. reads)))
shown (Phase.DowngradeWake b) =
    row (calling (λ F. tt, λ z. refl)) apart (free (λ z. refl)) (counts (λ z. inl (omega arith)) (λ z s t. reads))

pub seen : (p : Phase) → Seen p (standing p)
seen p = (shown p).seen

pub counted : (p : Phase) → Counted p
counted p = (shown p).counted

unfoldable pub stage : Phase → Stage
unfolding shown
stage p = (shown p).stage

unfoldable pub watch : (p : Phase) → Watched p
unfolding shown
watch p = (shown p).watch

-- a fact of every phase: of those at rest each by itself, of those of a call together
pub by-seen : (P : Phase → Type 0) → P Phase.Idle → P Phase.Writing → P Phase.Asleep → ((k : ℕ) → P (Phase.Reading k))
    → ((p : Phase) → standing p ≡ Standing.Calling → InCall p → P p) → (p : Phase) → P p
by-seen P i w a r c p = from p (standing p) refl (seen p)
  where
    from : (p : Phase) (x : Standing) → standing p ≡ x → Seen p x → P p
    from p x e idle = i
    from p x e writing = w
    from p x e asleep = a
    from p x e (reading k) = r k
    from p x e (calling k) = c p e k
