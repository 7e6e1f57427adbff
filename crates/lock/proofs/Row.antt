-- One row: what it does to the failures, to the words and to what each thread remembers.
use Rattle.lock.specs.State.{with_queue, with_mutex, with_threads, with_word, Sizes, State, fresh_thread, word_at}
use Rattle.lock.specs.State.{thread_at, goes, fails, holding, woken, Outcome, taken, refused, granted, asked_as}
use Rattle.std.specs.Prelude.{if◌then◌else◌}
use Rattle.lock.specs.{State.{retried, locks, perform}, Word.{Word, opened, same}}
use Rattle.lock.specs.Queue.{Group, is_writer, Waiters, joined, next_group, left, without_readers, writer_queued}
use Rattle.lock.specs.Journal.{Entry, entry, held_up, swap_done, swap_failed, sleepers_woken, booking_taken}
use Rattle.lock.specs.{Phase.{Phase, Look, WriteLook, Standing, standing, Thread}, Call.{Op, begin, read, ask}}
use Rattle.lock.specs.Call.{swap, stay, store, lock, release, join, next, take_readers, wake, note, refuse, Order}
use Rattle.lock.specs.Call.{go_on, write_lock, unlock, upgrade, downgrade, read_lock, book, decode, beginning}
use Rattle.lock.specs.{Call.{unlocking, upgrading, downgrading, obey}, Run.{Row, row_op, step}, Demand.one}
use Rattle.lock.specs.Demand.{is_change, is_failure, is_on, is_by, failed_swap, others_change, failure}
use Rattle.lock.proofs.{Choice.{and-false, by-standing, if-both, booking-both}, Library.{ℕ, zero, suc, ◌+◌, ◌%◌}}
use Rattle.lock.proofs.Library.{◌/◌, ◌≤◌, ◌<◌, zero-le, ◌≡◌, refl, sym, ap, ◌∙◌, ◌≢◌, Bool, true, false, ◌&&◌}
use Rattle.lock.proofs.Library.{List, [], ◌∷◌, Option, none, some, le_refl, add-zero, arith, ℕ_discrete, eqb}
use Rattle.lock.proofs.Library.{ltb, length, get_or, set, length-set, get_or-set_same, get_or-set_other, eqb-false}
use Rattle.lock.proofs.{Library.{eq-eqb, ne_eqb, ltb-true}, Memory.{Memory, expects, memory, stale, stale-le}}
use Rattle.lock.proofs.{Memory.{stale-nothing, stale-at, stale-off, Fits}, Discipline.{Blank, Leads, Swaps}}
use Rattle.lock.proofs.Discipline.{Good, good}

-- ---- tests that count

and-true : (b : Bool) → (b && true) ≡ b
and-true true = refl
and-true false = refl

one-and : (a b : Bool) → one (a && b) ≤ one a
one-and true true = le_refl 1
one-and true false = zero-le
one-and false b = le_refl 0

-- ---- the claim on one row

-- what thread u remembers, and whether that is stale of the word w
abbrev pub recalls : State → ℕ → Memory
recalls s u = memory (thread_at s u).phase

abbrev pub pending : ℕ → State → ℕ → ℕ → ℕ
pending F s u w = stale F (recalls s u) w (word_at s w)

-- Row r, with entry e, leads from s to s'. A failure of u on w uses up a stale memory, and only a change by another
-- makes one.
pub record Moved (F : ℕ) (s s' : State) (r : Row) (e : Entry) : Type 0 where
  pub len : length s'.threads ≡ length s.threads
  pub bound : (u w : ℕ) → one (failed_swap u w r e) + pending F s' u w ≤ one (others_change u w r e) + pending F s u w
  pub fails : (u : ℕ) → (thread_at s' u).failures ≡ (thread_at s u).failures + one (failure u r e)
  pub fit : (u : ℕ) → Fits F (recalls s' u)

abbrev pub Fine : ℕ → State → Row → Outcome → Type 0
Fine F s r (taken s' e) = Moved F s s' r e
Fine F s r (refused n) = Unit {0}

-- a thread that another's row leaves as it is, or wakes
record Passive (F : ℕ) (h h' : Thread) : Type 0 where
  fails : h'.failures ≡ h.failures
  less : (w : ℕ) (v : Word) → stale F (memory h'.phase) w v ≤ stale F (memory h.phase) w v
  fit : Fits F (memory h.phase) → Fits F (memory h'.phase)

passive-self : (F : ℕ) (h : Thread) → Passive F h h
passive-self F h = record { fails = refl; less = λ w v. le_refl _; fit = λ x. x }

-- a fact of thread u after thread t was set to h
pub at_set : (P : Thread → Type 0) (hs : List Thread) (t u : ℕ) (h : Thread)
    → t < length hs → (u ≡ t → P h) → (u ≢ t → P (get_or hs u fresh_thread))
    → P (get_or (set hs t h) u fresh_thread)
at_set P hs t u h l f g =
    elim (ℕ_discrete u t) [
      | yes e ↦ rw (e, get_or-set_same hs t h fresh_thread l) (f e)
      | no n ↦ rw (get_or-set_other hs t u h fresh_thread n) (g n)
    ]

-- The row's thread goes on to p with f failures, the words become ws, and the other threads are those of hs.
module _ (F : ℕ) (s : State)
    (r : Row) (e : Entry) (present : r.thread < length s.threads) (fits : (u : ℕ) → Fits F (recalls s u)) where
  moves : (ws : List Word) (m : Option ℕ) (q : Waiters) (hs : List Thread) (p : Phase) (f : ℕ)
      → length hs ≡ length s.threads
      → ((u : ℕ) → Passive F (thread_at s u) (get_or hs u fresh_thread))
      → f ≡ (thread_at s r.thread).failures + one (is_failure e)
      → ((w : ℕ) → (is_change e && is_on w e) ≡ false → get_or ws w (opened 0 0) ≡ word_at s w)
      → ((w : ℕ) → one (is_failure e && is_on w e)
      + stale F (memory p) w (get_or ws w (opened 0 0)) ≤ pending F s r.thread w)
      → Fits F (memory p)
      → Moved F s
      (record { words = ws; mutex = m; queue = q; threads = set hs r.thread (record { phase = p; failures = f }) })
      r e
  moves ws m q hs p f ln others fe still own fit =
      record {
        len = length-set hs r.thread _ ∙ ln;
        bound =
            λ u w. at_set
            (λ (h : Thread). one (failed_swap u w r e)
            + stale F (memory h.phase) w (get_or ws w (opened 0 0)) ≤ one (others_change u w r e) + pending F s u w)
            hs r.thread u _ in-hs
            (λ q. rw q (omega (arith, own w, one-and (is_failure e && is_on w e) (is_by r.thread r))))
            (λ n. rw (
              ne_eqb r.thread u (λ q. n (sym q)),
              and-false (is_failure e && is_on w e),
              and-true (is_change e && is_on w e),
            )
            (omega (arith, other u w (is_change e && is_on w e) refl)));
        fails =
            λ u. at_set (λ (h : Thread). h.failures ≡ (thread_at s u).failures + one (failure u r e)) hs
            r.thread u _ in-hs
            (λ q. rw (q, eq-eqb r.thread r.thread refl, and-true (is_failure e)) fe)
            (λ n. rw (ne_eqb r.thread u (λ q. n (sym q)), and-false (is_failure e)) (omega (arith, (others u).fails)));
        fit = λ u. at_set (λ (h : Thread). Fits F (memory h.phase)) hs
            r.thread u _ in-hs (λ q. fit) (λ n. (others u).fit (fits u));
      }
    where
      in-hs : r.thread < length hs
      in-hs = omega arith

      other : (u w : ℕ) (b : Bool) → (is_change e && is_on w e) ≡ b
          → stale F (memory (get_or hs u fresh_thread).phase) w (get_or ws w (opened 0 0)) ≤ one b + pending F s u w
      other u w true q = omega (arith, stale-le F (memory (get_or hs u fresh_thread).phase) w (get_or ws w (opened 0 0)))
      other u w false q = rw (still w q) (omega (arith, (others u).less w (word_at s w)))

-- ---- waking

-- what a woken thread holds remembers nothing
blank-fits : (F : ℕ) (p : Phase) → Blank p → Fits F (memory p)
unfolding Fits
blank-fits F p b = rw b tt

blank-stale : (F : ℕ) (p : Phase) (w : ℕ) (v : Word) → Blank p → stale F (memory p) w v ≡ 0
blank-stale F p w v b = rw b (stale-nothing F w v)

holding-blank : (g : Group) → Blank (holding g)
unfolding memory
holding-blank g = if-both Blank (is_writer g) (λ e. refl) (λ e. refl)

passive-if : (F : ℕ) (g : Group) (h : Thread) (b : Bool)
    → Passive F h (if b then record { phase = holding g; failures = h.failures } else h)
passive-if F g h true =
    record {
      fails = refl;
      less = λ w v. rw (blank-stale F (holding g) w v (holding-blank g)) zero-le;
      fit = λ x. blank-fits F (holding g) (holding-blank g);
    }
passive-if F g h false = passive-self F h

woken-passive : (F : ℕ) (g : Group) (b : ℕ) (hs : List Thread) (u : ℕ)
    → Passive F (get_or hs u fresh_thread) (get_or (woken (holding g) b hs) u fresh_thread)
woken-passive F g b [] u = passive-self F fresh_thread
woken-passive F g b (h ∷ hs) zero = passive-if F g h (eqb (b % 2) 1)
woken-passive F g b (h ∷ hs) (suc u) = woken-passive F g (b / 2) hs u

-- nobody is woken
pub woken-none : (p : Phase) (hs : List Thread) → woken p 0 hs ≡ hs
woken-none p [] = refl
woken-none p (h ∷ hs) = ap (λ (l : List Thread). h ∷ l) (woken-none p hs)

pub woken-length : (p : Phase) (b : ℕ) (hs : List Thread) → length (woken p b hs) ≡ length hs
woken-length p b [] = refl
woken-length p b (h ∷ hs) = ap suc (woken-length p (b / 2) hs)

-- ---- each operation

module _ (z : Sizes) (s : State)
    (r : Row) (present : r.thread < length s.threads) (fits : (u : ℕ) → Fits z.fan (recalls s u)) where
  abbrev F : ℕ
  F = z.fan

  abbrev t : ℕ
  t = r.thread

  abbrev mine : Memory
  mine = recalls s t

  -- nothing moves, and the entry is no failure
  stays : (e : Entry) → is_failure e ≡ false → Fine F s r (taken s e)
  stays e nf =
      record { len = refl; bound = λ u w. rw nf (omega arith); fails = λ u. rw nf (sym (add-zero _)); fit = fits }

  -- an entry that is neither a change nor a failure
  quiet : (k w₀ : ℕ) (m : Option ℕ) (q : Waiters) (p : Phase) → is_failure (entry k w₀) ≡ false
      → ((w : ℕ) → stale F (memory p) w (word_at s w) ≤ pending F s t w) → Fits F (memory p)
      → Moved F s (goes (with_mutex (with_queue s q) m) t p) r (entry k w₀)
  quiet k w₀ m q p nf le f =
      moves F s r (entry k w₀) present fits
      s.words m q s.threads p (thread_at s t).failures refl (λ u. passive-self F _)
      (rw nf (sym (add-zero _))) (λ w h. refl) (λ w. rw nf (omega (arith, le w))) f

  quiet-blank : (k w₀ : ℕ) (m : Option ℕ) (q : Waiters) (p : Phase) → is_failure (entry k w₀) ≡ false → Blank p
      → Moved F s (goes (with_mutex (with_queue s q) m) t p) r (entry k w₀)
  quiet-blank k w₀ m q p nf b =
      quiet k w₀ m q p nf (λ w. rw (blank-stale F p w (word_at s w) b) zero-le) (blank-fits F p b)

  after-le : (w : ℕ) (p : Phase)
      → Leads F mine w (word_at s w) p → (x : ℕ) → stale F (memory p) x (word_at s x) ≤ pending F s t x
  after-le w p a x =
      elim (ℕ_discrete x w) [ yes e ↦ rw e (rw a.at zero-le) | no n ↦ a.off x (word_at s x) n ]

  -- the read of an upgrade, which grants or denies it: its entry is of kind 1 or 10
  asks : (k : Option Phase) (p : Phase)
      → Leads F mine 0 (word_at s 0) (granted p k) → Moved F s (goes s t (granted p k)) r (asked_as k)
  asks none p a = quiet 10 0 s.mutex s.queue p refl (after-le 0 p a) a.fit
  asks (some q) p a = quiet 1 0 s.mutex s.queue q refl (after-le 0 q a) a.fit

  locking : (p : Phase) (m : Option ℕ) → Blank p → Fine F s r (locks s t p m)
  locking p none b = quiet-blank _ _ (some t) s.queue p refl b
  locking p (some u) b = stays held_up refl

  -- the word w becomes v, and the entry is of a change of it
  writing : (k w : ℕ) (v : Word) (p : Phase) → is_failure (entry k w) ≡ false → is_change (entry k w) ≡ true
      → ((x : ℕ) → stale F (memory p) x (word_at (with_word s w v) x) ≤ pending F s t x) → Fits F (memory p)
      → Moved F s (goes (with_word s w v) t p) r (entry k w)
  writing k w v p nf ch le f =
      moves F s r (entry k w) present fits
      (set s.words w v) s.mutex s.queue s.threads p (thread_at s t).failures refl
      (λ u. passive-self F _) (rw nf (sym (add-zero _)))
      (λ x e. get_or-set_other s.words w x v (opened 0 0) (λ q. eqb-false w x (rw ch at e) (sym q)))
      (λ x. rw nf (omega (arith, le x))) f

  -- the memory of the read before a swap has no more than the swap's
  before-le : (w : ℕ) (old : Word) (m : Memory) (x : ℕ) (u : Word)
      → mine ≡ expects w old m → x ≢ w → stale F m x u ≤ stale F mine x u
  before-le w old m x u e n = rw (e, stale-off F w old m x u n) (le_refl _)

  swap-done : (w : ℕ) (old new : Word) (p back : Phase) → Swaps z mine w old p back
      → Moved F s (goes (with_word s w new) t p) r (swap_done w)
  swap-done w old new p back a =
      writing 2 w new p refl refl
      (λ x. elim (ℕ_discrete x w) [
        | yes e ↦ rw e (rw (a.done (word_at (with_word s w new) w)).at zero-le)
        | no n ↦ rw (get_or-set_other s.words w x new (opened 0 0) n) (omega
            (arith, (a.done new).off x (word_at s x) n, before-le w old (memory back) x (word_at s x) a.expected n))
      ])
      (a.done new).fit

  -- the stale memory that the failure uses up is what the swap compared
  swap-failed : (w : ℕ) (old : Word) (p back q : Phase) → same (word_at s w) old ≡ false → Swaps z mine w old p back
      → Leads F (memory back) w (word_at s w) q → Moved F s (fails s t q) r (swap_failed w)
  swap-failed w old p back q ne a b =
      moves F s r (swap_failed w) present fits
      s.words s.mutex s.queue s.threads q ((thread_at s t).failures + 1) refl
      (λ u. passive-self F _) refl (λ x e. refl)
      (λ x. elim (ℕ_discrete x w) [
        | yes e ↦
            rw (e, eq-eqb w w refl, b.at, a.expected, stale-at F w old (memory back) (word_at s w), ne) (le_refl 1)
        | no n ↦ rw (ne_eqb w x (λ q. n (sym q)))
            (omega (arith, b.off x (word_at s x) n, before-le w old (memory back) x (word_at s x) a.expected n))
      ])
      b.fit

  waking : (g : Group) (p : Phase) → Blank p
      → Moved F s (goes (with_threads s (woken (holding g) g.members s.threads)) t p) r sleepers_woken
  waking g p b =
      moves F s r sleepers_woken present fits
      s.words s.mutex s.queue (woken (holding g) g.members s.threads) p _
      (woken-length (holding g) g.members s.threads) (woken-passive F g g.members s.threads)
      ((woken-passive F g g.members s.threads t).fails ∙ sym (add-zero _)) (λ x e. refl)
      (λ x. rw (blank-stale F p x (word_at s x) b) zero-le) (blank-fits F p b)

  performs : (o : Op) → Good z mine o → Fine F s r (perform z s t o)
  unfolding perform
  performs (begin p) a = quiet-blank 0 33 s.mutex s.queue p refl a
  performs (read w k) a =
      let b = a (word_at s w) in quiet 1 w s.mutex s.queue (k (word_at s w)) refl (after-le w _ b) b.fit
  performs (ask k p) a = asks (k (word_at s 0)) p (a (word_at s 0))
  performs (swap w old new p back) a =
      if-both (Fine F s r) (same (word_at s w) old)
      (λ e. swap-done w old new p back a)
      (λ e. swap-failed w old p back (retried z back (word_at s w)) e a (a.failed (word_at s w)))
  performs stay a = stays held_up refl
  performs (store f p) a =
      writing _ 0 (f (writer_queued s.queue)) p refl refl (λ x. rw (blank-stale F p x _ a) zero-le) (blank-fits F p a)
  performs (lock p) a = locking p s.mutex a
  performs (release p) a = quiet-blank _ _ none s.queue p refl a
  performs (join e p) a = quiet-blank _ _ s.mutex (joined e t s.queue) p refl a
  performs (next last k) a = quiet-blank _ _ s.mutex (left last s.queue) _ refl (a (next_group last s.queue))
  performs (take_readers k) a =
      quiet-blank _ _ s.mutex (without_readers s.queue) (k s.queue.readers) refl (a s.queue.readers)
  performs (wake g p) a = waking g p a
  performs note a = stays booking_taken refl
  performs (refuse n) a = tt

-- ---- each order

begins-good : (z : Sizes) (m : Memory) (p : Phase) → Blank p → (k : Standing) → Good z m (beginning p k)
begins-good z m p b = by-standing (λ k. Good z m (beginning p k)) b (λ k. tt) tt tt tt

obeys-good : (z : Sizes) (p : Phase) (o : Option Order)
    → Fits z.fan (memory p) → Good z (memory p) (obey z.fan p o)
unfolding obey memory
obeys-good z p none f = tt
obeys-good z p (some go_on) f = good z p f
obeys-good z p (some write_lock) f = begins-good z _ WriteLook refl (standing p)
obeys-good z p (some unlock) f =
    by-standing (λ k. Good z (memory p) (unlocking k)) tt
    (λ k. if-both Blank (eqb k 0) (λ e. refl) (λ e. refl)) refl tt tt (standing p)
obeys-good z p (some upgrade) f =
    by-standing (λ k. Good z (memory p) (upgrading k)) tt
    (λ k. if-both Blank (eqb k 0) (λ e. refl) (λ e. refl)) tt tt tt (standing p)
obeys-good z p (some downgrade) f =
    by-standing (λ k. Good z (memory p) (downgrading k)) tt (λ k. tt) refl tt tt (standing p)
obeys-good z p (some (read_lock n)) f = begins-good z _ (Look n) refl (standing p)
obeys-good z p (some (book e)) f = booking-both (Good z (memory p)) (standing p) tt tt

pub steps : (z : Sizes) (s : State) (r : Row)
    → z.threads ≤ length s.threads → ((u : ℕ) → Fits z.fan (recalls s u)) → Fine z.fan s r (step z s r)
unfolding step row_op perform
steps z s r ln fits =
    if-both (λ (o : Op). Fine z.fan s r (perform z s r.thread o)) (ltb r.thread z.threads)
    (λ e. let h = ltb-true r.thread z.threads e in
    let p = (thread_at s r.thread).phase in
    let o = decode z r.order in
    performs z s r (omega arith) fits (obey z.fan p o) (obeys-good z p o (fits r.thread)))
    (λ e. tt)
