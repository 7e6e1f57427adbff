-- What an operation does to the state that the lock in place stands for: a law for each way that an operation goes.
use Rattle.lock.proofs.Library.{ap, ℕ, ◌≤◌, ◌<◌, ◌≡◌, refl, sym, ap₂, subst, ◌∙◌, ◌≢◌, Bool, false, List, Option, none}
use Rattle.lock.proofs.Library.{arith, eqb, ltb, get_or, drop, get_or-set_same, set-set, get_or-take, get_or-drop, eq-eqb}
use Rattle.lock.proofs.Library.{some, ne_eqb, lt-ltb}
use Rattle.std.specs.Prelude.{Ok, Err}
use Rattle.lock.specs.{declared.Refusal.Refusal, Refusal.number_of}
use Rattle.lock.specs.{declared.{Word.Word, Phase.{Phase, TheVariants.UnlockOpen}}}
use Rattle.lock.specs.{declared.{Thread.Thread, Group.Group, Entry.Entry, Sizes.Sizes}, Journal.{word_read, swap_done}}
use Rattle.lock.specs.Journal.{swap_failed, held_up, plain_store, mutex_taken, mutex_released, queue_changed, sleepers_woken}
use Rattle.lock.specs.Call.{Op, read, ask, swap, store, lock, release, join, next, take_readers, wake, unlock_got}
use Rattle.lock.specs.State.{State, fresh_thread, thread_at, with_word, with_mutex, with_queue, with_threads, woken, holding}
use Rattle.lock.specs.State.{goes, fails, Outcome, taken, refused, granted, asked_as, retried, perform}
use Rattle.lock.specs.Queue.{Waiters, writer_queued, with_readers, only, readers, writer, longest, readers_leave, joined}
use Rattle.lock.{specs.{Bound.most_steps, Queue.without_longest, Machine.OfRow}, proofs.Choice.if-both}
use Rattle.cells.specs.{Kept.holder, Layout.WRITING, View.{word_of, node, front, state_of, Shaped, Leaves}}
use Rattle.cells.{specs.View.{first_place, mutex_at, queued_readers, queued_writers}, proofs.Parts.{word-is, thread-is}}
use Rattle.cells.proofs.{Parts.{mutex-is, readers-are, threads-long}, Queues.{longest-is, no-writer}}
use Rattle.rows.specs.Outcome.{group_of, Comes, At, AtNode, MaySwap, finds, Missed, Swapped, Countable, Failed}
use Rattle.rows.proofs.Words.{same-yes, same-no}

-- ---- taken, refused, one store after another

pub comes : {l l' : List ℕ} {d : Entry} {x : Outcome} {s : State} {e : Entry}
    → x ≡ taken s e → Leaves l' s → d ≡ e → Comes l l' (Ok d) x
comes e h i = rw e (record { left = h; is = ap Ok i; fair = tt })

-- a row that is refused changes nothing
pub refuses : (r : Refusal) → OfRow (number_of r)
    → {l : List ℕ} {x : Outcome} → Shaped l → x ≡ refused (number_of r) → Comes l l (Err r) x
refuses r p s e = rw e (record { left = record { state = refl; shaped = s }; is = refl; fair = p })

pub stays : {l : List ℕ} → Shaped l → Leaves l (state_of l)
stays s = record { state = refl; shaped = s }

pub onward : {l l' : List ℕ} {s : State} (f : State → State) → Leaves l s → Leaves l' (f (state_of l)) → Leaves l' (f s)
onward f a b = record { state = b.state ∙ ap f a.state; shaped = b.shaped }

-- ---- a swap of word w by thread t

-- what it needs to know, at the root and at the thread's node
pub at-root : {l : List ℕ} {t : ℕ} → At l t → MaySwap l t 0
at-root a = record { inside = omega arith; there = a.there; few = a.few }

pub at-node : {l : List ℕ} {t : ℕ} → AtNode l t → MaySwap l t (node l t)
at-node a = record { inside = a.inside; there = a.there; few = a.few }

-- a thread that goes on, and then counts a failure
module _ (l : List ℕ) (t : ℕ) (p : Phase) (h : t < 64) where
  abbrev gone : Thread
  gone = record { phase = p; failures = (thread_at (state_of l) t).failures }

  went : thread_at (goes (state_of l) t p) t ≡ gone
  went = get_or-set_same (state_of l).threads t gone fresh_thread (omega (arith, threads-long l))

  pub counted : {l' : List ℕ} → Leaves l' (fails (goes (state_of l) t p) t (thread_at (goes (state_of l) t p) t).phase)
      → Leaves l' (fails (state_of l) t p)
  counted k = rw (went, set-set (state_of l).threads t gone) at k

-- it went on with the word that it found: it may count the failure
pub may-count : {l l' : List ℕ} {t w : ℕ} → MaySwap l t w → (p : Phase) → Leaves l' (goes (state_of l) t p)
    → Countable t l' × (w < 32)
may-count {l} {l'} {t} a p e =
    let few : (thread_at (state_of l') t).failures ≤ most_steps =
    rw (e.state, went l t p a.there, thread-is l t a.there) a.few in
    (record { shaped = e.shaped; there = a.there; few = few }, a.inside)

module _ (z : Sizes) {l : List ℕ} {t w : ℕ} (a : MaySwap l t w) {o : Op} {x : ℕ} {new : Word} {p back : Phase}
    (is : o ≡ swap w (word_of x) new p back) {l₂ : List ℕ} {d : Entry} where
  -- the word is x: the thread went on, and the word was written
  pub swap-done : {l₁ : List ℕ} {v : ℕ} → get_or l w 0 ≡ x → word_of v ≡ new → Leaves l₁ (goes (state_of l) t p)
      → Swapped w v l₁ l₂ d → Comes l l₂ (Ok d) (perform z (state_of l) t o)
  unfolding perform
  swap-done e i g b =
      let done : perform z (state_of l) t o ≡ taken (goes (with_word (state_of l) w new) t p) (swap_done w) =
      rw (is, word-is l w a.inside, e, same-yes x x refl) in
      comes done (rw (g.state, i) at b.left) b.is

  -- it is not: the thread counted the failure, and went on with the word that it found
  misses : {q : Phase} → get_or l w 0 ≢ x → retried z back (word_of (get_or l w 0)) ≡ q
      → Leaves l₂ (fails (state_of l) t q) → d ≡ swap_failed w → Comes l l₂ (Ok d) (perform z (state_of l) t o)
  unfolding perform
  misses {q} n e g i =
      let missed : perform z (state_of l) t o ≡ taken (fails (state_of l) t q) (swap_failed w) =
      rw (is, word-is l w a.inside, same-no (get_or l w 0) x n, e) in
      comes missed g i

  -- to a program counter
  pub swap-missed : {pc : ℕ} → get_or l w 0 ≢ x → retried z back (word_of (get_or l w 0)) ≡ finds w t pc l
      → Missed w t pc l l₂ d → Comes l l₂ (Ok d) (perform z (state_of l) t o)
  swap-missed n e m = misses n e m.left m.is

  -- in two steps
  pub swap-failed : {l₁ : List ℕ} {q : Phase} → get_or l w 0 ≢ x → retried z back (word_of (get_or l w 0)) ≡ q
      → Leaves l₁ (goes (state_of l) t q)
      → Failed w t l₁ l₂ d → Comes l l₂ (Ok d) (perform z (state_of l) t o)
  swap-failed {q = q} n e g b = misses n e (counted l t q a.there (rw g.state at b.left)) b.is

-- the writer at the front of the ring has waited longest
pub front-is : (l : List ℕ) → Shaped l → queued_writers l ≢ 0
    → longest (state_of l).queue.writers ≡ some (writer (only (front l)))
unfolding state_of
front-is l s n =
    sym (longest-is s.kept)
    ∙ rw (ne_eqb (queued_writers l) 0 n)
    (rw (get_or-take 64 (drop 64 l) (first_place l) 0 s.kept.inside, get_or-drop 64 l (first_place l) 0))

-- ---- operations on words

module _ (z : Sizes) (l : List ℕ) (t : ℕ) where
  pub reads : (w : ℕ) (k : Word → Phase) (p : Phase) → w < 32
      → k (word_of (get_or l w 0)) ≡ p → perform z (state_of l) t (read w k) ≡ taken (goes (state_of l) t p) (word_read w)
  unfolding perform
  reads w k p h e = rw (word-is l w h, e)

  -- an upgrade's look
  pub asks : (k : Word → Option Phase) (p : Phase)
      → perform z (state_of l) t (ask k p)
      ≡ taken (goes (state_of l) t (granted p (k (word_of (get_or l 0 0))))) (asked_as (k (word_of (get_or l 0 0))))
  unfolding perform
  asks k p = rw (word-is l 0 (omega arith))

  pub stores : (f : Bool → Word) (p : Phase) (b : Bool) → writer_queued (state_of l).queue ≡ b
      → perform z (state_of l) t (store f p) ≡ taken (goes (with_word (state_of l) 0 (f b)) t p) (plain_store 0)
  unfolding perform
  stores f p b e = rw e

  -- ---- on the mutex

  pub locks-free : (p : Phase) → mutex_at l ≡ 64 → t < 64
      → perform z (state_of l) t (lock p) ≡ taken (goes (with_mutex (state_of l) (holder t)) t p) mutex_taken
  unfolding perform
  locks-free p e h = let n : t ≢ 64 = (λ q. omega arith) in rw (mutex-is l, e, ne_eqb t 64 n)

  pub locks-held : (p : Phase) → mutex_at l ≢ 64 → perform z (state_of l) t (lock p) ≡ taken (state_of l) held_up
  unfolding perform
  locks-held p n = rw (mutex-is l, ne_eqb (mutex_at l) 64 n)

  pub frees : (p : Phase)
      → perform z (state_of l) t (release p) ≡ taken (goes (with_mutex (state_of l) (holder 64)) t p) mutex_released
  unfolding perform
  frees p = refl

  -- ---- on the queue

  -- thread t joined, as a reader or as a writer, and went on
  pub joins : (e : Bool) (p : Phase) {l₁ l₂ : List ℕ} {d : Entry}
      → Leaves l₁ (with_queue (state_of l) (joined e t (state_of l).queue))
      → Leaves l₂ (goes (state_of l₁) t p)
      → d ≡ queue_changed
      → Comes l l₂ (Ok d) (perform z (state_of l) t (join e p))
  unfolding perform
  joins e p a b i = comes refl (rw a.state at b) i

  -- the members of the group g, the set b, wake
  pub wakens : (g : Group) (p : Phase) {b : ℕ} → g.members ≡ b → perform z (state_of l) t (wake g p)
      ≡ taken (goes (with_threads (state_of l) (woken (holding g) b (state_of l).threads)) t p) sleepers_woken
  unfolding perform
  wakens g p e = rw e

  pub next-readers : (k : Option Group → Phase) → queued_readers l ≢ 0
      → perform z (state_of l) t (next false k)
      ≡ taken
      (goes (with_queue (state_of l) (with_readers 0 (state_of l).queue)) t (k (some (readers (queued_readers l)))))
      queue_changed
  unfolding perform
  next-readers k n = let h : 0 < queued_readers l = omega arith in rw (readers-are l, lt-ltb 0 (queued_readers l) h)

  pub takes-readers : (k : ℕ → Phase)
      → perform z (state_of l) t (take_readers k)
      ≡ taken (goes (with_queue (state_of l) (with_readers 0 (state_of l).queue)) t (k (queued_readers l))) queue_changed
  unfolding perform
  takes-readers k = rw (readers-are l)

  pub next-longest : (last : Bool) (k : Option Group → Phase) → readers_leave last (queued_readers l) ≡ false
      → perform z (state_of l) t (next last k) ≡ taken (goes (with_queue (state_of l) (without_longest (state_of l).queue))
      t (k (longest (state_of l).queue.writers))) queue_changed
  unfolding perform
  next-longest last k h = rw (readers-are l, h)

-- the writer who has waited longest left in the hand of thread t, or none did
module _ (l : List ℕ) (s : Shaped l) (t : ℕ) (l' : List ℕ) where
  abbrev Taken : Option Group → Type 0
  Taken o = Leaves l' (goes (with_queue (state_of l) (without_longest (state_of l).queue)) t (unlock_got o))

  pub writer-taken : queued_writers l ≢ 0 → Taken (some (writer (only (front l))))
      → Taken (longest (state_of l).queue.writers)
  writer-taken n h = subst Taken (sym (front-is l s n)) h

  pub none-taken : queued_writers l ≡ 0 → Leaves l' (goes (state_of l) t UnlockOpen)
      → Taken (longest (state_of l).queue.writers)
  unfolding state_of
  none-taken e h =
      let nobody : none ≡ longest (state_of l).queue.writers =
      rw (eq-eqb (queued_writers l) 0 e) at (longest-is s.kept) in
      let same : (state_of l).queue ≡ without_longest (state_of l).queue = (no-writer s.kept e).waiting in
      record {
        state = h.state ∙ ap₂ (λ (q : Waiters) (o : Option Group). goes (with_queue (state_of l) q) t
            (unlock_got o)) same nobody;
        shaped = h.shaped;
      }

-- a group's members, whatever it wakes to
pub members-are : (pc v : ℕ) → (group_of pc v).members ≡ v
members-are pc v = if-both (λ (g : Group). g.members ≡ v) (eqb pc WRITING) (λ _. refl) (λ _. refl)

-- is a writer queued? The number tells
pub queued-is : (l : List ℕ) (b : Bool) → ltb 0 (queued_writers l) ≡ b → writer_queued (state_of l).queue ≡ b
unfolding state_of
queued-is l b e = e

-- the front of the ring is a thread's number
pub front-lt : (l : List ℕ) → Shaped l → front l < 64
front-lt l s =
    rw (get_or-take 64 (drop 64 l) (first_place l) 0 s.kept.inside, get_or-drop 64 l (first_place l) 0)
    at (s.kept.numbers (first_place l))
