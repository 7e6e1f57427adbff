-- The four calls of the plain engine, each way as an equation between states: what the stores leave stands for what its
-- definition gives.
use Rattle.lock.proofs.Library.{ℕ, ◌+◌, ◌/◌, ◌%◌, ◌<◌, ◌≡◌, refl, sym, ap, ◌∙◌, ◌≢◌, Bool, true, false, List, Option}
use Rattle.lock.proofs.Library.{none, some, arith, ℕ_discrete, length, get_or, eq-eqb, ne_eqb, lt-ltb}
use Rattle.laws.proofs.Cases.{dec-both}
use Rattle.laws.proofs.Lock.{Word, Group, Waiters, Idle, Writing, Asleep, Reading, is_closed, up_direct, down_direct, shut}
use Rattle.laws.proofs.Lock.{size, only, writer, join_reader, join_writer, longest, without_longest, left, next_group}
use Rattle.laws.proofs.Lock.{writer_queued, stored, State, word_at, with_word, with_queue, goes}
use Rattle.cells.specs.View.{word_of, front, state_of, Shaped, Leaves}
use Rattle.cells.{proofs.Queues.writers-long, proofs.Parts.word-is, proofs.Parts.readers-are}
use Rattle.rows.{proofs.Words.raised-direct, proofs.Rows.front-is}
use Rattle.plain_model.specs.declared.Root.{Root}
use Rattle.plain_model.specs.Root.{is_shut, is_free, is_spent, more, less, shutting, storing}
use Rattle.plain_model.specs.Plain.{Plain, passes, read_locks, write_locks, writer_leaves, reader_leaves}
use Rattle.plain_calls.specs.View.{root_word, root_of, lock_of, plain_of, Stands, passed, passed_to_writer}
use Rattle.plain_calls.specs.View.{passed_to_readers}

pub stands : {l : List ℕ} {s : State} {p : Plain} → Leaves l s → s ≡ lock_of p → Stands l p
stands h e = record { lock = h.state ∙ e; shaped = h.shaped }

-- ---- the plain state that a lock stands for is the one that is read off it

pub plain-is : {l : List ℕ} {p : Plain} → Stands l p → plain_of (state_of l) ≡ p
plain-is h = ap plain_of h.lock

pub stands-own : {l : List ℕ} {p : Plain} → Stands l p → Stands l (plain_of (state_of l))
stands-own h = record { lock = h.lock ∙ ap lock_of (sym (plain-is h)); shaped = h.shaped }

-- ---- a hand-over

-- the threads are the definition's
passed_is : (p : Plain) (q : Waiters) (t : ℕ) (o : Option Group) → passed (with_queue (lock_of p) q) t o
    ≡ lock_of (record { root = p.root; queue = q; threads = passes t o p.threads })
passed_is p q t none = refl
passed_is p q t (some g) = refl

-- ---- the root as a number: a word without arrivals from nodes

not_free : (v : ℕ) → v / 131072 ≡ 0 → v ≢ 0 → is_free (root_of (word_of v)) ≡ false
not_free v none-tree n =
    dec-both (ℕ_discrete (v % 2) 1) (λ e. rw (eq-eqb (v % 2) 1 e))
    (λ k. rw (ne_eqb (v % 2) 1 k, ne_eqb (v / 2 % 65536) 0 (λ q. n (omega arith))))

not-spent : (v : ℕ) → v / 131072 ≡ 0 → v ≢ 1 → is_spent (root_of (word_of v)) ≡ false
not-spent v none-tree n =
    dec-both (ℕ_discrete (v / 2 % 65536) 0)
    (λ e. rw (eq-eqb (v / 2 % 65536) 0 e, ne_eqb (v % 2) 1 (λ q. n (omega arith))))
    (λ k. rw (ne_eqb (v / 2 % 65536) 0 k))

store_is : (n : ℕ) (q : Bool) → stored n q ≡ root_word (storing n q)
store_is n true = refl
store_is n false = refl

-- with nobody queued there is no group, and the queue stays
nobody-waits : (l : List ℕ) → get_or l 33 0 ≡ 0 → get_or l 35 0 ≡ 0
    → (next_group false (state_of l).queue ≡ none) × (left false (state_of l).queue ≡ (state_of l).queue)
unfolding state_of
nobody-waits l h k = (rw (h, k), rw (h, k))

-- ---- the calls, on a lock that stands for p

module _ (l : List ℕ) (p : Plain) (e : state_of l ≡ lock_of p) where
  pub root_is : word_of (get_or l 0 0) ≡ root_word p.root
  root_is = sym (word-is l 0 (omega arith)) ∙ ap (λ (s : State). word_at s 0) e

  queue-is : (state_of l).queue ≡ p.queue
  queue-is = ap (λ (s : State). s.queue) e

  queued-readers : p.queue.readers ≡ get_or l 33 0
  queued-readers = ap (λ (q : Waiters). q.readers) (sym queue-is) ∙ readers-are l

  shut-is : {b : Bool} → is_closed (word_of (get_or l 0 0)) ≡ b → is_shut p.root ≡ b
  shut-is h = ap is_closed (sym root_is) ∙ h

  -- a root's word has no arrivals from nodes
  no-nodes : (v : ℕ) (r : Root) → word_of v ≡ root_word r → v / 131072 ≡ 0
  no-nodes v r h = ap (λ (w : Word). w.tree) h

  module _ (t : ℕ) where
    -- ---- read-lock

    pub reads-shut : is_closed (word_of (get_or l 0 0)) ≡ true
        → goes (with_queue (state_of l) (join_reader t (state_of l).queue)) t Asleep ≡ lock_of (read_locks p t)
    reads-shut h = rw (e, shut-is h)

    pub reads-open : get_or l 0 0 / 2 % 65536 < 65535 → is_closed (word_of (get_or l 0 0)) ≡ false
        → goes (with_word (state_of l) 0 (word_of (get_or l 0 0 + 2))) t (Reading 0) ≡ lock_of (read_locks p t)
    reads-open h n =
        let v = get_or l 0 0 in
        let w : word_of (v + 2) ≡ root_word (more p.root) = raised-direct v v refl h ∙ ap up_direct root_is in
        rw (e, w, shut-is n)

    -- ---- write-lock

    pub writes-free : get_or l 0 0 ≡ 0
        → goes (with_word (state_of l) 0 (word_of 1)) t Writing ≡ lock_of (write_locks p t)
    writes-free h =
        let free : is_free p.root ≡ true = ap (λ (w : Word). is_free (root_of w)) (sym root_is ∙ ap word_of h) in
        rw (e, free)

    pub writes-waits : (w : ℕ) → get_or l 0 0 ≢ 0 → word_of w ≡ shut (word_of (get_or l 0 0))
        → goes (with_queue (with_word (state_of l) 0 (word_of w)) (join_writer t (state_of l).queue)) t Asleep
        ≡ lock_of (write_locks p t)
    writes-waits w n h =
        let v = get_or l 0 0 in
        let k : word_of w ≡ root_word (shutting p.root) = h ∙ ap shut root_is in
        let free : is_free p.root ≡ false = ap (λ (w : Word). is_free (root_of w)) (sym root_is)
        ∙ not_free v (no-nodes v p.root root_is) n in
        rw (e, k, free)

    -- ---- unlock by a writer

    pub leaves-readers : (b : ℕ)
        → get_or l 33 0 ≡ b → b ≢ 0 → passed_to_readers (state_of l) t b ≡ lock_of (writer_leaves p t)
    leaves-readers b h n =
        let some-wait : 0 < b = omega arith in
        rw (e, store_is (size b) (writer_queued p.queue), queued-readers ∙ h, lt-ltb 0 b some-wait)

    pub leaves-open : get_or l 33 0 ≡ 0 → get_or l 35 0 ≡ 0
        → goes (with_word (state_of l) 0 (word_of 0)) t Idle ≡ lock_of (writer_leaves p t)
    leaves-open h k = let n = rw queue-is at (nobody-waits l h k) in rw (e, n.0, n.1)

    pub leaves-writer : get_or l 33 0 ≡ 0
        → Shaped l → get_or l 35 0 ≢ 0 → passed_to_writer (state_of l) t ≡ lock_of (writer_leaves p t)
    leaves-writer h s n =
        let f = ap (λ (q : Waiters). longest q.writers) (sym queue-is) ∙ front-is l s n in
        rw (e, queued-readers ∙ h, f)

    -- ---- unlock by a reader, who leaves the word v

    module _ (v : ℕ) (d : word_of v ≡ down_direct (word_of (get_or l 0 0))) where
      left_word : word_of v ≡ root_word (less p.root)
      left_word = d ∙ ap down_direct root_is

      pub leaves_last : v ≡ 1 → passed_to_writer (with_word (state_of l) 0 (word_of v)) t ≡ lock_of (reader_leaves p t)
      leaves_last h =
          let spent : is_spent (less p.root) ≡ true =
          ap (λ (w : Word). is_spent (root_of w)) (sym left_word ∙ ap word_of h) in
          rw (e, left_word, spent)
          (passed_is (record { root = less p.root; queue = p.queue; threads = p.threads })
          (without_longest p.queue) t (longest p.queue.writers))

      pub leaves-others : v ≢ 1 → goes (with_word (state_of l) 0 (word_of v)) t Idle ≡ lock_of (reader_leaves p t)
      leaves-others n =
          let spent : is_spent (less p.root) ≡ false = ap (λ (w : Word). is_spent (root_of w)) (sym left_word)
          ∙ not-spent v (no-nodes v (less p.root) left_word) n in
          rw (e, left_word, spent)

-- nobody to pass to
pub passed_none : (l : List ℕ) (t : ℕ) → get_or l 35 0 ≡ 0 → passed_to_writer (state_of l) t ≡ goes (state_of l) t Idle
unfolding state_of
passed_none l t e = rw e

-- the writer who has waited longest
pub passed-front : (l : List ℕ) (t : ℕ) → Shaped l → get_or l 35 0 ≢ 0
    → passed_to_writer (state_of l) t
    ≡ passed (with_queue (state_of l) (without_longest (state_of l).queue)) t (some (writer (only (front l))))
passed-front l t s n = rw (front-is l s n)

-- the number of queued writers goes by the state
pub long : (l : List ℕ) → Shaped l → length (state_of l).queue.writers ≡ get_or l 35 0
unfolding state_of
long l s = writers-long s.kept

pub same-writers : (l l' : List ℕ) (w : Word)
    → state_of l' ≡ with_word (state_of l) 0 w → Shaped l → Shaped l' → get_or l 35 0 < 64 → get_or l' 35 0 < 64
same-writers l l' w e s s' h =
    let n : length (state_of l').queue.writers ≡ length (state_of l).queue.writers =
    ap (λ (x : State). length x.queue.writers) e in
    omega (arith, n, long l s, long l' s')
