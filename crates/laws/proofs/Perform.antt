-- What each operation has to show, by the role of its thread, for the invariant to hold after its row.
use Rattle.laws.proofs.Lock.{ℕ, ◌+◌, ◌≤◌, ◌<◌, ◌≡◌, refl, sym, subst, ap, ◌∙◌, ◌≢◌, List, Option, none, some}
use Rattle.laws.proofs.Lock.{le_refl, arith, dec_lt, length, set, List·getD-eq-default, if-both, dec-both, Word}
use Rattle.laws.proofs.Lock.{same, Waiters, joined, next_group, left, without_readers, writer_queued, Group, Phase}
use Rattle.laws.proofs.Lock.{Sizes, OfRow, Op, begin, read, ask, swap, stay, store, lock, release, join, next}
use Rattle.laws.proofs.Lock.{take_readers, wake, note, refuse, op, State, fresh_thread, word_at, thread_at, Outcome}
use Rattle.laws.proofs.Lock.{taken, refused, granted, retried, locks, perform}
use Rattle.laws.proofs.Role.{Role, nowhere, answering, handing, Whole, known, place, role, Right, tot-mem}
use Rattle.laws.proofs.Role.{zero_shut, is_taken, role_at, sums, Inv, moves}
use Rattle.laws.proofs.Keep.{Turn, turned, calm-turn}
use Rattle.laws.proofs.Facts.{same-eq, zero-le-one, taken-le, rest_le, tot-two}
use Rattle.laws.proofs.Wake.{waking}

-- the same role but for the mutex, the sleep, a coming writer
abbrev pub remake : Role → ℕ → ℕ → ℕ → Role
remake r m x j = record {
  owes = r.owes;
  direct = r.direct;
  own = r.own;
  last = r.last;
  joins = j;
  inmutex = m;
  hand = r.hand;
  waits = r.waits;
  sleeps = x;
}

-- p stands for what r does, with the mutex at m
pub record Calm (z : Sizes) (r : Role) (m : ℕ) (p : Phase) : Type 0 where
  pub asleep : ℕ
  pub coming : ℕ
  pub alike : role z p ≡ remake r m asleep coming
  pub sleeps : r.sleeps ≤ asleep
  pub joins : r.joins ≤ coming
  pub fit : Right z p

pub calm : {z : Sizes} {r : Role} {m : ℕ} {p : Phase}
    → role z p ≡ remake r m r.sleeps r.joins → Right z p → Calm z r m p
calm {r} q f =
    record { asleep = r.sleeps; coming = r.joins; alike = q; sleeps = le_refl _; joins = le_refl _; fit = f }

abbrev pub Turns : Sizes → State → ℕ → Role → List Word → Waiters → Phase → Type 0
Turns z s t r ws q p = Turn z s t r (role z p) ws s.mutex q × Right z p

-- The read before a swap of w: the thread may go on from there by whatever the word now has. That is what `retried`
-- makes of a failed swap.
abbrev pub Back : Sizes → State → Role → ℕ → Phase → Type 0
Back z s r w back = Calm z r r.inmutex (retried z back (word_at s w))

-- a thread with the group g in hand goes on to p, with its own x arrivals
pub record Wakes (z : Sizes) (r : Role) (g : Group) (p : Phase) : Type 0 where
  pub own : ℕ
  pub before : r ≡ handing 0 own g
  pub group : Whole g
  pub after : role z p ≡ answering own nowhere
  pub fit : Right z p

abbrev pub Keeps : Sizes → State → ℕ → Role → Op → Type 0
Keeps z s t r (begin p) = Calm z r r.inmutex p
Keeps z s t r (read w k) = (w < z.nodes) × Calm z r r.inmutex (k (word_at s w))
Keeps z s t r (ask k p) = (0 < z.nodes) × Calm z r r.inmutex (granted p (k (word_at s 0)))
Keeps z s t r (swap w old new p back) =
    (w < z.nodes) × (word_at s w ≡ old → Turns z s t r (set s.words w new) s.queue p) × Back z s r w back
Keeps z s t r stay = Unit {0}
Keeps z s t r (store f p) = Turns z s t r (set s.words 0 (f (writer_queued s.queue))) s.queue p
Keeps z s t r (lock p) = Calm z r 1 p × (r.inmutex ≡ 0)
Keeps z s t r (release p) = Calm z r 0 p × (r.inmutex ≡ 1)
Keeps z s t r (join e p) = (r.waits ≡ 0) × Turns z s t r s.words (joined e t s.queue) p
Keeps z s t r (next last k) = Turns z s t r s.words (left last s.queue) (k (next_group last s.queue))
Keeps z s t r (take_readers k) = Turns z s t r s.words (without_readers s.queue) (k s.queue.readers)
Keeps z s t r (wake g p) = Wakes z r g p
Keeps z s t r note = Unit {0}
Keeps z s t r (refuse n) = OfRow n

-- the row keeps the invariant, or is refused with 5, 6 or 7
abbrev pub Safe : Sizes → Outcome → Type 0
Safe z (taken s e) = Inv z s
Safe z (refused n) = OfRow n

module _ (z : Sizes) (s : State) (t : ℕ) (inv : Inv z s) (l : t < 64) {r : Role} (e : role_at z s t ≡ r) where
  -- the sums that t is part of
  pub part : (f : Role → ℕ) → f r ≤ sums z s f
  part f = subst (λ (x : Role). f x ≤ sums z s f) e (tot-mem z f s.threads t (omega (arith, inv.threads)))

  pub owned : r.own ≡ 1 → zero_shut (word_at s 0) ≡ 1
  owned h = omega (arith, part (λ r. r.own), inv.owner, zero-le-one (word_at s 0))

  -- an owner is the only one: no other is a last reader; with the mutex, no other writer is about to join, and any
  -- other that waits sleeps
  pub only-last : sums z s (λ r. r.last) + r.own ≤ zero_shut (word_at s 0) + r.last
  only-last =
      let h = rw e at (rest_le z
      (λ r. r.last) (λ r. r.own) (λ x. (known x).last) refl refl s.threads t (omega (arith, inv.threads))) in
      omega (arith, inv.owner)

  pub only-joins : sums z s (λ r. r.joins) + r.inmutex ≤ is_taken s.mutex + r.joins
  only-joins =
      let h = rw e at (rest_le z
      (λ r. r.joins) (λ r. r.inmutex) (λ x. (known x).joins) refl refl s.threads t (omega (arith, inv.threads))) in
      omega (arith, inv.mutex)

  -- no other has the mutex that t has
  pub no_other : r.inmutex ≡ 1 → (u : ℕ) → u ≢ t → (role_at z s u).inmutex ≡ 0
  unfolding place
  no_other h u n =
      dec-both (dec_lt u (length s.threads))
      (λ a. let i : t < length s.threads = omega (arith, inv.threads) in
      let k = tot-two z (λ r. r.inmutex) refl s.threads t u i a (λ q. n (sym q)) in
      omega (arith, k, ap (λ (r : Role). r.inmutex) e, inv.mutex, taken-le s.mutex))
      (λ a. rw (List·getD-eq-default s.threads fresh_thread {n = u} (omega arith)))

  pub others-sleep : r.inmutex ≡ 1 → (u : ℕ) → u ≢ t → (role_at z s u).waits ≤ (role_at z s u).sleeps
  others-sleep h u n = omega (arith, no_other h u n, (known (place z (thread_at s u).phase)).waits)

  -- ---- what is shown is enough

  to : (ws : List Word) (m : Option ℕ) (q : Waiters) (p : Phase) (f : ℕ) → Turn z s t r (role z p) ws m q → Right z p
      → Inv z (moves t ws m q s.threads p f)
  to ws m q p f k right =
      turned z s t inv l ws m q p f (subst (λ (x : Role). Turn z s t x (role z p) ws m q) (sym e) k) right

  calms : (m : Option ℕ) (i : ℕ) (p : Phase) (f : ℕ) → Calm z r i p → is_taken m + r.inmutex ≡ is_taken s.mutex + i
      → Inv z (moves t s.words m s.queue s.threads p f)
  calms m i p f k mu =
      to s.words m s.queue p f
      (rw k.alike (calm-turn z s t inv r
      (remake r i k.asleep k.coming) e m (λ c. refl) refl refl refl mu refl refl k.sleeps k.joins))
      k.fit

  stays : (p : Phase) (f : ℕ) → Calm z r r.inmutex p
      → Inv z (moves t s.words s.mutex s.queue s.threads p f)
  stays p f k = calms s.mutex r.inmutex p f k refl

  lock-safe : (p : Phase) (m : Option ℕ) → s.mutex ≡ m → Calm z r 1 p → r.inmutex ≡ 0 → Safe z (locks s t p m)
  lock-safe p none q k o = calms (some t) 1 p _ k (rw (q, o))
  lock-safe p (some u) q k o = inv

  pub performs : (o : Op) → Keeps z s t r o → Safe z (perform z s t o)
  unfolding perform op
  performs (begin p) a = stays p _ a
  performs (read w k) a = stays _ _ a.1
  performs (ask k p) a = stays (granted p (k (word_at s 0))) _ a.1
  performs (swap w old new p back) a =
      if-both (Safe z) (same (word_at s w) old)
      (λ q. let b = a.1 (same-eq (word_at s w) old q) in to _ _ _ p _ b.0 b.1)
      (λ q. stays _ _ a.2)
  performs stay a = inv
  performs (store f p) a = to _ _ _ p _ a.0 a.1
  performs (lock p) a = lock-safe p s.mutex refl a.0 a.1
  performs (release p) a =
      calms none 0 p _ a.0 (omega (arith, a.1, part (λ r. r.inmutex), inv.mutex, taken-le s.mutex))
  performs (join x p) a = to _ _ _ p _ a.1.0 a.1.1
  performs (next last k) a = to _ _ _ _ _ a.0 a.1
  performs (take_readers k) a = to _ _ _ (k s.queue.readers) _ a.0 a.1
  performs (wake g p) a = waking z s t inv l g a.own p (e ∙ a.before) a.group a.after a.fit
  performs note a = inv
  performs (refuse n) a = a
