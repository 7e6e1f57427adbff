-- The table of phases by program counter: what holds of each of its entries.
use Rattle.lock.proofs.Library.{ℕ, zero, suc, ◌+◌, ◌-◌, ◌≤◌, ◌<◌, ◌≡◌, refl, ap, subst, ◌∙◌, ◌≢◌, List, [], ◌∷◌, arith}
use Rattle.lock.proofs.Library.{get_or, length, drop, get_or-drop, not-suc-le-zero, le_of_suc-le-suc}
use Rattle.lock.specs.declared.Phase.{Phase}
use Rattle.lock.specs.declared.Phase.TheVariants.{Asleep, Look, QueueTake, WriteTake, UnlockTake, LastTake}
use Rattle.lock.specs.declared.Phase.TheVariants.{DowngradeTake, QueueRead, WriteRead, UnlockNext, LastNext}
use Rattle.lock.specs.declared.Phase.TheVariants.{DowngradeNext}
use Rattle.lock.specs.{declared.{Standing.Standing, Sizes.Sizes}, Phase.standing, Journal.{held_up, call_begun}}
use Rattle.lock.specs.Call.{Op, refuse, op, beginning, unlocking, upgrading, downgrading, booking, begin}
use Rattle.lock.specs.State.{taken, perform, goes}
use Rattle.lock.specs.declared.{Entry.Entry, Refusal.TheVariants.Unsuitable}
use Rattle.std.specs.Prelude.{Ok, Err}
use Rattle.cells.specs.Layout.{IDLE, WRITING, READING, DEPART, OWED, TRADED, QUEUE-READ, QUEUE-TAKE, ASLEEP}
use Rattle.cells.specs.View.{phases, phase_of, pc, node, route, below, seen, phase_at, state_of, Shaped, mutex_at, Leaves}
use Rattle.cells.proofs.Standings.{unless-idle, unless-holding, unless-reading, unless-writing}
use Rattle.rows.specs.Outcome.{Comes, Departs, Wakes}
use Rattle.rows.proofs.Rows.{refuses, locks-held, comes}

-- what holds of each phase of a list, and of the one behind all, holds wherever one looks
abbrev pub Each : (Phase → Type 0) → List Phase → Type 0
Each P [] = Unit {0}
Each P (p ∷ ps) = P p × Each P ps

pub every : (P : Phase → Type 0) (ps : List Phase) (n : ℕ) (d : Phase) → Each P ps → P d → P (get_or ps n d)
every P [] n d a b = b
every P (p ∷ ps) zero d a b = a.0
every P (p ∷ ps) (suc n) d a b = every P ps n d a.1 b

-- and within a list, by its own phases alone
within : (P : Phase → Type 0) (ps : List Phase) (n : ℕ) (d : Phase) → n < length ps → Each P ps → P (get_or ps n d)
within P [] n d h a = absurd (not-suc-le-zero h)
within P (p ∷ ps) zero d h a = a.0
within P (p ∷ ps) (suc n) d h a = within P ps n d (le_of_suc-le-suc h) a.1

-- ---- the last program counters

-- m is none of the n numbers from k on, as a `match` leaves it behind its last arm
abbrev Unlike : ℕ → ℕ → ℕ → Type 0
Unlike k zero m = Unit {0}
Unlike k (suc n) m = Unlike k n m × (m ≡ k + n → ⊥)

pub past : (k n m : ℕ) → k ≤ m → Unlike k n m → k + n ≤ m
past k zero m h u = omega arith
past k (suc n) m h u = let i = past k n m h u.0 in let e : m ≢ k + n = u.1 in omega arith

module _ (k c n b v : ℕ) where
  pub asleep : QUEUE-READ ≤ k → Unlike QUEUE-READ 32 k → k ≤ ASLEEP → phase_of k c n b v ≡ Asleep
  asleep g h m = let e : k ≡ ASLEEP = omega (arith, past QUEUE-READ 32 k g h) in rw e

  -- from program counter QUEUE-TAKE on a thread takes the mutex, or sleeps
  pub late : (P : Phase → Type 0) → QUEUE-TAKE ≤ k → k ≤ ASLEEP → P (QueueTake n) → P WriteTake → P UnlockTake
      → P LastTake → P DowngradeTake → P Asleep → P (phase_of k c n b v)
  late P h m p q r s d t =
      let e : QUEUE-TAKE + (k - QUEUE-TAKE) ≡ k = omega arith in
      let same : get_or (drop QUEUE-TAKE (phases c n b v)) (k - QUEUE-TAKE) (Look 32) ≡ phase_of k c n b v =
      (get_or-drop QUEUE-TAKE (phases c n b v) (k - QUEUE-TAKE) (Look 32) ∙ ap (λ (r : ℕ). phase_of r c n b v) e) in
      subst P same (within P (QueueTake n ∷ WriteTake ∷ UnlockTake ∷ LastTake ∷ DowngradeTake ∷ Asleep ∷ [])
      (k - QUEUE-TAKE) (Look 32) (omega arith) (p, (q, (r, (s, (d, (t, tt)))))))

-- ---- threads that an order does not suit: they are refused with 7, and nothing changes

module _ (z : Sizes) (t : ℕ) {l : List ℕ} (s : Shaped l) where
  pub unsuited : {o : Op} → o ≡ refuse 7 → Comes l l (Err Unsuitable) (perform z (state_of l) t o)
  unfolding perform
  unsuited e = refuses Unsuitable (omega arith) s (rw e)

  -- an order whose operation goes by the thread's standing
  abbrev Unsuited : (Standing → Op) → Type 0
  Unsuited f = Comes l l (Err Unsuitable) (perform z (state_of l) t (f (standing (phase_at l t))))

  abbrev Refuses : (Standing → Op) → Standing → Type 0
  Refuses f x = f x ≡ refuse 7

  pub not-idle : (p : Phase) → pc l t ≢ IDLE → Unsuited (beginning p)
  not-idle p h = unsuited
      (unless-idle (node l t) (route l t) (below l t) (seen l t) (Refuses (beginning p)) (pc l t) h refl refl refl refl)

  pub not-holding : pc l t ≢ WRITING → pc l t ≢ READING → Unsuited unlocking
  not-holding h k = unsuited
      (unless-holding (node l t) (route l t) (below l t) (seen l t) (Refuses unlocking) (pc l t) h k refl refl refl)

  pub not-reading : pc l t ≢ READING → Unsuited upgrading
  not-reading h = unsuited
      (unless-reading (node l t) (route l t) (below l t) (seen l t) (Refuses upgrading) (pc l t) h refl refl refl refl)

  pub not-writing : pc l t ≢ WRITING → Unsuited downgrading
  not-writing h = unsuited
      (unless-writing (node l t) (route l t) (below l t) (seen l t) (Refuses downgrading) (pc l t) h
      refl refl refl refl)

  pub not-booking : pc l t ≢ WRITING → Unsuited booking
  not-booking h = unsuited
      (unless-writing (node l t) (route l t) (below l t) (seen l t) (Refuses booking) (pc l t) h refl refl refl refl)

-- a thread at one of the first three program counters is in no call, and has no row to go on with
pub no-row : (f k c n b v : ℕ) → k ≤ READING → op f (phase_of k c n b v) ≡ refuse 7
unfolding op
no-row f zero c n b v h = refl
no-row f (suc zero) c n b v h = refl
no-row f (suc (suc zero)) c n b v h = refl
no-row f (suc (suc (suc k))) c n b v h = absurd (omega arith)

-- ---- threads that an order suits: they begin the call

pub starts : (z : Sizes) (t : ℕ) {l l' : List ℕ} {d : Entry} {o : Op} {p : Phase} → o ≡ begin p
    → Leaves l' (goes (state_of l) t p) → d ≡ call_begun → Comes l l' (Ok d) (perform z (state_of l) t o)
unfolding perform
starts z t {l} {l'} {d} {o} {p} e h i =
    let begun : perform z (state_of l) t o ≡ taken (goes (state_of l) t p) call_begun = rw e in comes begun h i

-- ---- rows that come in pairs

pub leaving-departs : Departs DEPART
leaving-departs = record { small = omega arith; reads = λ c n b v. refl; swaps = λ c n b v. refl }

pub owed-departs : Departs OWED
owed-departs = record { small = omega arith; reads = λ c n b v. refl; swaps = λ c n b v. refl }

pub traded-departs : Departs TRADED
traded-departs = record { small = omega arith; reads = λ c n b v. refl; swaps = λ c n b v. refl }

pub readers-wake : Wakes READING
readers-wake = λ c b v u. refl

pub writer-wakes : Wakes WRITING
writer-wakes = λ c b v u. refl

-- ---- held up

-- a row that takes the mutex, or sleeps, while another thread has it
pub late-held_up : (z : Sizes) (l : List ℕ) (t c n b v k : ℕ) → QUEUE-TAKE ≤ k → k ≤ ASLEEP → mutex_at l ≢ 64
    → perform z (state_of l) t (op z.fan (phase_of k c n b v)) ≡ taken (state_of l) held_up
unfolding op perform
late-held_up z l t c n b v k h a m =
    late k c n b v (λ (p : Phase). perform z (state_of l) t (op z.fan p) ≡ taken (state_of l) held_up) h a
    (locks-held z l t (QueueRead n) m) (locks-held z l t WriteRead m)
    (locks-held z l t UnlockNext m) (locks-held z l t LastNext m) (locks-held z l t DowngradeNext m) refl
