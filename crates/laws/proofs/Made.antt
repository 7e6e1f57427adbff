-- What an operation makes of the state, by one law: nothing moves, or its thread goes on to a phase, and the others
-- stay or are woken.
use Rattle.laws.proofs.Lock.{ℕ, ◌<◌, ◌≡◌, refl, false, List, Option, none, some, arith, length, if-both}
use Rattle.laws.proofs.Lock.{woken-length, Word, same, Group, Waiters, joined, next_group, left, without_readers}
use Rattle.laws.proofs.Lock.{writer_queued, Entry, call_begun, word_read, swap_done, swap_failed, held_up, plain_store}
use Rattle.laws.proofs.Lock.{mutex_taken, mutex_released, queue_changed, sleepers_woken, booking_taken, Phase, Thread}
use Rattle.laws.proofs.Lock.{Sizes, Op, begin, read, ask, swap, stay, store, lock, release, join, next}
use Rattle.laws.proofs.Lock.{take_readers, wake, note, refuse, op, State, word_at, with_word, with_mutex, with_queue}
use Rattle.laws.proofs.Lock.{with_threads, holding, woken, Outcome, taken, refused, granted, asked_as, retried}
use Rattle.laws.proofs.Lock.{locks, perform}
use Rattle.laws.proofs.Facts.{same-eq}
use Rattle.laws.proofs.Role.{moves}

-- the threads among which the row's own goes on: as they were, or some woken
pub data Others (s : State) : Op → List Thread → Type 0 where
  stayed : {o : Op} → Others s o s.threads
  roused : (g : Group) (p : Phase) → Others s (wake g p) (woken (holding g) g.members s.threads)

pub others-length : {s : State} {o : Op} {hs : List Thread} → Others s o hs → length hs ≡ length s.threads
others-length stayed = refl
others-length {s} (roused g p) = woken-length (holding g) g.members s.threads

-- an operation of a call: it begins none, is not refused, and is held up at the mutex alone
abbrev pub Steps : Op → Type 0
Steps (begin p) = ⊥
Steps (read w k) = Unit {0}
Steps (ask k p) = Unit {0}
Steps (swap w old new p back) = Unit {0}
Steps stay = ⊥
Steps (store f p) = Unit {0}
Steps (lock p) = Unit {0}
Steps (release p) = Unit {0}
Steps (join e p) = Unit {0}
Steps (next last k) = Unit {0}
Steps (take_readers k) = Unit {0}
Steps (wake g p) = Unit {0}
Steps note = ⊥
Steps (refuse n) = ⊥

-- P of what an operation of thread t makes: the entry, the state that t leaves, and the phase to which it goes on
abbrev pub Becomes : Sizes → State → ℕ → (Entry → State → Phase → Type 0) → Op → Type 0
Becomes z s t P (begin p) = P call_begun s p
Becomes z s t P (read w k) = P (word_read w) s (k (word_at s w))
Becomes z s t P (ask k p) = P (asked_as (k (word_at s 0))) s (granted p (k (word_at s 0)))
Becomes z s t P (swap w old new p back) =
    (word_at s w ≡ old → P (swap_done w) (with_word s w new) p)
    × (same (word_at s w) old ≡ false → P (swap_failed w) s (retried z back (word_at s w)))
Becomes z s t P stay = Unit {0}
Becomes z s t P (store f p) = P (plain_store 0) (with_word s 0 (f (writer_queued s.queue))) p
Becomes z s t P (lock p) = s.mutex ≡ none → P mutex_taken (with_mutex s (some t)) p
Becomes z s t P (release p) = P mutex_released (with_mutex s none) p
Becomes z s t P (join e p) = P queue_changed (with_queue s (joined e t s.queue)) p
Becomes z s t P (next last k) = P queue_changed (with_queue s (left last s.queue)) (k (next_group last s.queue))
Becomes z s t P (take_readers k) = P queue_changed (with_queue s (without_readers s.queue)) (k s.queue.readers)
Becomes z s t P (wake g p) = P sleepers_woken (with_threads s (woken (holding g) g.members s.threads)) p
Becomes z s t P note = Unit {0}
Becomes z s t P (refuse n) = Unit {0}

-- an outcome of it: nothing moves; t goes on to p, with all that is shown of what the operation makes, and an entry of
-- kind 0 only where a call begins; a refusal
pub data Made (z : Sizes) (s : State) (t : ℕ) (P : Entry → State → Phase → Type 0) (o : Op) : Outcome → Type 0 where
  still : (e : Entry) → 0 < e.kind → Made z s t P o (taken s e)
  goes : (e : Entry) (ws : List Word) (m : Option ℕ) (q : Waiters) (hs : List Thread) (p : Phase) (f : ℕ)
      → Others s o hs → (Steps o → 0 < e.kind)
      → (Becomes z s t P o → P e (record { words = ws; mutex = m; queue = q; threads = hs }) p)
      → Made z s t P o (taken (moves t ws m q hs p f) e)
  denied : (n : ℕ) → Made z s t P o (refused n)

asked-kind : (k : Option Phase) → 0 < (asked_as k).kind
asked-kind none = omega arith
asked-kind (some p) = omega arith

module _ (z : Sizes) (s : State) (t : ℕ) (P : Entry → State → Phase → Type 0) where
  locks-made : (p : Phase) (m : Option ℕ) → s.mutex ≡ m → Made z s t P (lock p) (locks s t p m)
  locks-made p none i = goes mutex_taken _ _ _ _ p _ stayed (λ a. omega arith) (λ h. h i)
  locks-made p (some u) i = still held_up (omega arith)

  pub made : (o : Op) → Made z s t P o (perform z s t o)
  unfolding perform op
  made (begin p) = goes call_begun _ _ _ _ p _ stayed (λ a. absurd a) (λ h. h)
  made (read w k) = goes (word_read w) _ _ _ _ _ _ stayed (λ a. omega arith) (λ h. h)
  made (ask k p) = goes _ _ _ _ _ _ _ stayed (λ a. asked-kind (k (word_at s 0))) (λ h. h)
  made (swap w old new p back) =
      if-both (Made z s t P (swap w old new p back)) (same (word_at s w) old)
      (λ e. goes (swap_done w) _ _ _ _ p _ stayed (λ a. omega arith) (λ h. h.0 (same-eq (word_at s w) old e)))
      (λ e. goes (swap_failed w) _ _ _ _ _ _ stayed (λ a. omega arith) (λ h. h.1 e))
  made stay = still held_up (omega arith)
  made (store f p) = goes (plain_store 0) _ _ _ _ p _ stayed (λ a. omega arith) (λ h. h)
  made (lock p) = locks-made p s.mutex refl
  made (release p) = goes mutex_released _ _ _ _ p _ stayed (λ a. omega arith) (λ h. h)
  made (join e p) = goes queue_changed _ _ _ _ p _ stayed (λ a. omega arith) (λ h. h)
  made (next last k) = goes queue_changed _ _ _ _ _ _ stayed (λ a. omega arith) (λ h. h)
  made (take_readers k) = goes queue_changed _ _ _ _ _ _ stayed (λ a. omega arith) (λ h. h)
  made (wake g p) = goes sleepers_woken _ _ _ _ p _ (roused g p) (λ a. omega arith) (λ h. h)
  made note = still booking_taken (omega arith)
  made (refuse n) = denied n
