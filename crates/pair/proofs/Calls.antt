-- A thread is in one call at a time: a row makes no other thread busy, and its own thread rests in the other lock.
use Rattle.lock.proofs.Library.{ℕ, ◌≡◌, refl, ap, subst, ◌≢◌, Bool, true, false, ◌&&◌, Option, none, some, ℕ_discrete}
use Rattle.lock.proofs.{Library.{ltb, eq-eqb, ne_eqb}, Choice.{and-false, by-test, clash, if-both, not-both}}
use Rattle.lock.proofs.Machine.{Any, Keeps, kept}
use Rattle.std.specs.Prelude.{if◌then◌else◌}
use Rattle.laws.proofs.Lock.{Entry, Group, Phase, Sizes, standing, same, is_writer, Op, begin, read, swap}
use Rattle.laws.proofs.Lock.{stay, store, lock, release, join, next, take_readers, wake, note, refuse, ask, op, obey}
use Rattle.laws.proofs.Lock.{State, word_at, thread_at, holding, Outcome, taken, refused, locks, perform, row_op, step}
use Rattle.laws.proofs.{Lock.Row, Staying.others-stay, Seen.{Steps, by-seen}}
use Rattle.pair.specs.Pair.{Side, first, second, Pair, lock_of, with_lock, other, fresh_pair, engaged, busy, side_of}
use Rattle.pair.specs.{Pair.{own_row, barred, turned, turn, run}, Calls.{OneCall, OneCallOf}}
use Rattle.pair.proofs.Apart.{idle-fresh}

-- ---- a row makes no other thread busy

holding-rests : (g : Group) → engaged (standing (holding g)) ≡ false
unfolding standing
holding-rests g = if-both (λ (p : Phase). engaged (standing p) ≡ false) (is_writer g) (λ e. refl) (λ e. refl)

step-rests : (z : Sizes) (s : State) (r : Row) (u : ℕ) (s' : State) (e : Entry) → u ≢ r.thread → busy s u ≡ false
    → step z s r ≡ taken s' e → busy s' u ≡ false
step-rests = others-stay (λ (p : Phase). engaged (standing p) ≡ false) holding-rests

-- ---- a thread that rests is refused order 0

rests-op : (F : ℕ) (p : Phase) → engaged (standing p) ≡ false → op F p ≡ refuse 7
unfolding op standing
rests-op F =
    by-seen (λ (p : Phase). engaged (standing p) ≡ false → op F p ≡ refuse 7) (λ h. refl) (λ h. refl)
    (λ h. not-both true refl h) (λ k h. refl) (λ p e c h. not-both (engaged (standing p)) (ap engaged e) h)

abbrev outside : Sizes → ℕ → ℕ
outside z t = if ltb t z.threads then 7 else 5

pub rests-refused : (z : Sizes) (s : State) (t : ℕ)
    → busy s t ≡ false → step z s (record { thread = t; order = 0 }) ≡ refused (outside z t)
unfolding step row_op obey perform
rests-refused z s t h = from (ltb t z.threads)
  where
    from : (b : Bool) → perform z s t (if b then op z.fan (thread_at s t).phase else refuse 5)
        ≡ refused (if b then 7 else 5)
    from true = ap (perform z s t) (rests-op z.fan (thread_at s t).phase h)
    from false = refl

-- ---- order 0 is refused with 7 alone

abbrev Seven : Outcome → Type 0
Seven (taken s e) = Unit {0}
Seven (refused n) = n ≡ 7

locks-seven : (s : State) (t : ℕ) (p : Phase) (m : Option ℕ) → Seven (locks s t p m)
locks-seven s t p none = tt
locks-seven s t p (some u) = tt

-- a step of a call is not refused
steps-seven : (z : Sizes) (s : State) (t : ℕ) (o : Op) → Steps o → Seven (perform z s t o)
unfolding perform
steps-seven z s t (begin p) h = absurd h
steps-seven z s t (read w k) h = tt
steps-seven z s t (ask k p) h = tt
steps-seven z s t (swap w old new p back) h = if-both Seven (same (word_at s w) old) (λ e. tt) (λ e. tt)
steps-seven z s t stay h = absurd h
steps-seven z s t (store f p) h = tt
steps-seven z s t (lock p) h = locks-seven s t p s.mutex
steps-seven z s t (release p) h = tt
steps-seven z s t (join e p) h = tt
steps-seven z s t (next last k) h = tt
steps-seven z s t (take_readers k) h = tt
steps-seven z s t (wake g p) h = tt
steps-seven z s t note h = absurd h
steps-seven z s t (refuse n) h = absurd h

pub goes-seven : (z : Sizes) (s : State) (t F : ℕ) (p : Phase) (n : ℕ) → perform z s t (op F p) ≡ refused n → n ≡ 7
unfolding perform op
goes-seven z s t F p n e =
    subst Seven e
    (by-seen (λ (p : Phase). Seven (perform z s t (op F p))) refl refl tt (λ k. refl)
    (λ p e c. steps-seven z s t (op F p) (c.0 F)) p)

-- ---- one call at a time

not_left : (a b : Bool) → (a && b) ≡ false → b ≡ true → a ≡ false
not_left true b h q = clash cc
not_left false b h q = refl

module _ (z : Sizes) (s : Pair) (r : Row) (h : OneCall s) where
  abbrev t : ℕ
  t = r.thread

  -- the row's thread rests in the other lock: it goes on with a call that is in this one, or it is not barred
  pub rests-there : (x : Side) → side_of s r ≡ x → barred s x r ≡ false → busy (lock_of (other x) s) t ≡ false
  rests-there x own bar =
      elim (ℕ_discrete r.order 0) [
        | yes o ↦ let side = rw (eq-eqb r.order 0 o) at own in
            let P : Side → Type 0 = λ y. busy (lock_of (other y) s) t ≡ false in
            by-test (busy s.two t)
            (λ q. subst P (rw q at side) (not_left (busy s.one t) (busy s.two t) (h t) q))
            (λ q. subst P (rw q at side) q)
        | no o ↦ rw (ne_eqb r.order 0 o) at bar
      ]

  -- the row was taken at the lock x
  module _ (l : State) (e : Entry) where
    aside : (x : Side) → busy (lock_of (other x) s) t ≡ false
        → (busy (with_lock x l s).one t && busy (with_lock x l s).two t) ≡ false
    aside first k = rw k (and-false (busy l t))
    aside second k = rw k

    others : (x : Side) (u : ℕ) → u ≢ t → step z (lock_of x s) (own_row r) ≡ taken l e
        → (busy (with_lock x l s).one u && busy (with_lock x l s).two u) ≡ false
    others first u n q =
        by-test (busy s.two u)
        (λ k. rw (step-rests z s.one (own_row r) u l e n (not_left (busy s.one u) (busy s.two u) (h u) k) q))
        (λ k. rw k (and-false (busy l u)))
    others second u n q =
        by-test (busy s.one u)
        (λ k. rw (step-rests z s.two (own_row r) u l e n (rw k at (h u)) q) (and-false (busy s.one u)))
        (λ k. rw k)

  next-at : (x : Side) → side_of s r ≡ x → (b : Bool)
      → barred s x r ≡ b → (o : Outcome) → step z (lock_of x s) (own_row r) ≡ o → Keeps OneCall Any Any (turned s x b o)
  next-at x own true p (taken l e) q = tt
  next-at x own true p (refused n) q = tt
  next-at x own false p (refused n) q = tt
  next-at x own false p (taken l e) q = (
    λ u. elim (ℕ_discrete u t) [ yes k ↦ rw k (aside l e x (rests-there x own p)) | no k ↦ others l e x u k q ],
    tt,
  )

  pub one-next : Keeps OneCall Any Any (turn z s r)
  unfolding turn
  one-next = next-at (side_of s r) refl (barred s (side_of s r) r) refl (step z (lock_of (side_of s r) s) (own_row r)) refl

pub one-call : OneCallOf
unfolding run
one-call z rs = (kept OneCall Any Any (turn z) (one-next z) fresh_pair rs (λ t. rw (idle-fresh t))).state
