-- Where each thread's calls are whole, no call is unsuitable when its turn comes: it begins, and the state fits what
-- its thread will have then. So the answer is 0, and nobody is stranded.
use Prim.{tt}
use Rattle.lock.proofs.Library.{ℕ, zero, suc, ◌+◌, ◌-◌, ◌<◌, ◌≡◌, refl, subst, ap, ◌∙◌, inl, inr, ◌≢◌, Option, none}
use Rattle.lock.proofs.Library.{some, arith, ℕ_discrete, dec_lt, eqb, ltb, length, List·getD-eq-default, eq-eqb, ne_eqb}
use Rattle.lock.proofs.Library.{lt-ltb, le-ltb, List, [], ◌∷◌}
use Rattle.std.specs.Prelude.{if◌then◌else◌}
use Rattle.laws.proofs.Lock.{Leaving, Phase, Writing, Reading, Look, WriteLook, UnlockTake}
use Rattle.laws.proofs.Lock.{DowngradeTake, standing, Thread, Sizes, begin, Order, read_lock, decode, departs, obey}
use Rattle.laws.proofs.Lock.{State, fresh_thread, thread_at, taken, perform, fresh, Outcome, refused, row_op, step}
use Rattle.laws.proofs.Lock.{Row, InRange}
use Rattle.lock.specs.Call.{upgrades}
use Rattle.lock.proofs.Choice.{clash, if-both}
use Rattle.lock.proofs.Row.{at_set}
use Rattle.laws.proofs.Sum.{bit_at, bit-zero}
use Rattle.laws.proofs.Role.{place, role, numbers_of, role_at, tot-mem, Inv}
use Rattle.dispatch_model.specs.Claims.{AllRest, Hold, out, reads, writes, either, Follows, Whole, Released}
use Rattle.dispatch_model.specs.Claims.{Cleared}
use Rattle.dispatch_model.specs.Claims as claims
use Rattle.dispatch_model.proofs.Order.{Wanted, on, anew, turn-offers, now-both, Steady, steady-begun}
use Rattle.dispatch_model.proofs.Order.{turn-there, turn_in, steady-next, Lawful, round-lawful, by-turns-lawful}
use Rattle.dispatch_model.proofs.Aims.{Between, look, depart, leave, write_look, unlock_take, upgrade_trade}
use Rattle.dispatch_model.proofs.Aims.{upgrade_look, downgrade_take, Carries, unlock_store, hand_release, hand_wake}
use Rattle.dispatch_model.proofs.Aims.{downgrade_store, downgrade_release, downgrade_wake, Toward, rest, sleep}
use Rattle.dispatch_model.proofs.Aims.{call, carry, between, is-between, Queued, Fit, FitAfter, goes_on}
use Rattle.laws.proofs.Runs.{same_at}
use Rattle.dispatch_model.specs.Dispatch.{wants_of, Wants, Offer, Turn, row_of, Dispatched, most, dispatch}
use Rattle.dispatch_model.specs.Dispatch.{Chooser, dispatch_by, drawn}
use Rattle.dispatch_model.specs.File.{first_refusal}
use Rattle.dispatch_model.proofs.Trace as trace
use Rattle.dispatch_model.proofs.Trace.{up_next, wants_after, Goes}
use Rattle.dispatch_model.proofs.Ends.{on-taken}
use Rattle.dispatch_model.proofs.Stranded.{dispatch-unstranded, drawn-unstranded}

-- thread t has k after the call that it begins
abbrev now_has : ℕ → Hold → (ℕ → Hold) → ℕ → Hold
now_has t k hs u = if eqb u t then k else hs u

-- ---- what the call begins with

record Suits (hs : ℕ → Hold) (z : Sizes) (p : Phase) (o : ℕ) (k : Hold) : Type 0 where
  phase : Phase
  toward : Toward hs k phase
  obeyed : obey z.fan p (decode z o) ≡ begin phase

decode-read : (z : Sizes) (n : ℕ) (x : Order)
    → n < 32 → decode z (64 + n) ≡ some x → decode z (64 + n) ≡ some (read_lock n)
decode-read z n x l =
    rw (
      ne_eqb (64 + n) 0 (λ e. omega arith),
      ne_eqb (64 + n) 1 (λ e. omega arith),
      ne_eqb (64 + n) 2 (λ e. omega arith),
      ne_eqb (64 + n) 3 (λ e. omega arith),
      ne_eqb (64 + n) 4 (λ e. omega arith),
      le-ltb (64 + n) 64 (omega arith),
      lt-ltb (64 + n) 96 (omega arith),
    )
    (if-both P (ltb (64 + n - 64) z.nodes)
    (λ e q. let i : 64 + n - 64 ≡ n = omega arith in ap (λ (j : ℕ). some (read_lock j)) i) (λ e. never))
  where
    P : Option Order → Type 0
    P y = y ≡ some x → y ≡ some (read_lock n)

    never : none ≡ some x → none ≡ some (read_lock n)
    never q = clash cc

module _ (hs : ℕ → Hold) (z : Sizes) where
  unlocks-reader : (p : Phase) (k : ℕ) → p ≡ Reading k → Suits hs z p 2 out
  unfolding obey standing
  unlocks-reader p k b =
      record {
        phase = departs k;
        toward = if-both (Toward hs out) (eqb k 0) (λ e. call refl leave) (λ e. call refl (depart k Leaving));
        obeyed = rw b;
      }

  unlocks-writer : (p : Phase) → p ≡ Writing → Suits hs z p 2 out
  unfolding obey standing
  unlocks-writer p b = record { phase = UnlockTake; toward = call refl unlock_take; obeyed = rw b }

  suits : (h : Hold) (o : ℕ) (k : Hold) (p : Phase) → Follows h o k → Wanted z o → Between h p → Suits hs z p o k
  unfolding obey standing
  suits h o k p claims.write_lock w b = record { phase = WriteLook; toward = call refl write_look; obeyed = rw b }
  suits h o k p (claims.read_lock n l) w b =
      record {
        phase = Look n;
        toward = call refl (look n);
        obeyed = rw (decode-read z n w.order l w.known, b);
      }
  suits h o k p claims.upgrade w b =
      record {
        phase = upgrades b.0;
        toward = if-both (Toward hs either) (eqb b.0 0) (λ e. call refl upgrade_look)
            (λ e. call refl (upgrade_trade b.0));
        obeyed = rw b.1;
      }
  suits h o k p claims.downgrade w b =
      record { phase = DowngradeTake; toward = call refl downgrade_take; obeyed = rw b }
  suits h o k p claims.unlock_reader w b = unlocks-reader p b.0 b.1
  suits h o k p claims.unlock_writer w b = unlocks-writer p b
  suits h o k p claims.unlock_either w (inl b) = unlocks-reader p b.0 b.1
  suits h o k p claims.unlock_either w (inr b) = unlocks-writer p b

module _ (z : Sizes) where
  -- ---- between calls a thread is in no queue and in no hand

  reading-role : (k : ℕ) → ((role z (Reading k)).sleeps ≡ 0) × ((role z (Reading k)).waits ≡ 0)
  unfolding place
  reading-role zero = (refl, refl)
  reading-role (suc k) = (refl, refl)

  between-role : (h : Hold) (p : Phase) → Between h p → ((role z p).sleeps ≡ 0) × ((role z p).waits ≡ 0)
  unfolding place
  between-role =
      between (λ (p : Phase). ((role z p).sleeps ≡ 0) × ((role z p).waits ≡ 0)) (refl, refl) reading-role (refl, refl)

  -- ---- another thread's aim stays, where those in its hand have the same to come

  hand-shift : (hs hs' : ℕ → Hold) (h : Hold) (p : Phase)
      → Carries hs h p → ((u : ℕ) → 0 < bit_at (role z p).hand u → hs' u ≡ hs u) → Carries hs' h p
  unfolding place
  hand-shift hs hs' h p (unlock_store b m) a = unlock_store b (λ u k. a u k ∙ m u k)
  hand-shift hs hs' h p (hand_release g m) a = hand_release g (λ u k. a u k ∙ m u k)
  hand-shift hs hs' h p (hand_wake g m) a = hand_wake g (λ u k. a u k ∙ m u k)
  hand-shift hs hs' h p (downgrade_store b m) a = downgrade_store b (λ u k. a u k ∙ m u k)
  hand-shift hs hs' h p (downgrade_release b m) a = downgrade_release b (λ u k. a u k ∙ m u k)
  hand-shift hs hs' h p (downgrade_wake b m) a = downgrade_wake b (λ u k. a u k ∙ m u k)

  shift : (hs hs' : ℕ → Hold) (h : Hold) (p : Phase)
      → Toward hs h p → ((u : ℕ) → 0 < bit_at (role z p).hand u → hs' u ≡ hs u) → Toward hs' h p
  shift hs hs' h p (rest b) a = rest b
  shift hs hs' h p (sleep e b c) a = sleep e b c
  shift hs hs' h p (call e c) a = call e c
  shift hs hs' h p (carry e c) a = carry e (hand-shift hs hs' h p c a)

  -- ---- the row that begins the call

  module _ (s : State) (t : ℕ) (inv : Inv z s) (l : t < 64) (hs : ℕ → Hold) (fit : Fit hs s) (k : Hold)
      (q : ((role_at z s t).sleeps ≡ 0) × ((role_at z s t).waits ≡ 0)) where
    has_other : (u : ℕ) → u ≢ t → now_has t k hs u ≡ hs u
    has_other u n = rw (ne_eqb u t n)

    in-hand : (x : ℕ) → bit_at (role_at z s x).hand t ≡ 0
    unfolding place
    in-hand x = elim (dec_lt x (length s.threads)) [
      | yes a ↦ omega (arith, inv.handed t, tot-mem z (λ r. bit_at r.hand t) s.threads x a, q.0)
      | no a ↦ rw (List·getD-eq-default s.threads fresh_thread {n = x} (omega arith)) (bit-zero t)
    ]

    -- who is counted by f, as t is not, has what it had
    as_before : (f : ℕ → ℕ) (h : ℕ → Hold) → f t ≡ 0 → ((u : ℕ) → 0 < f u → hs u ≡ h u)
        → (u : ℕ) → 0 < f u → now_has t k hs u ≡ h u
    as_before f h e a u l = elim (ℕ_discrete u t) [
      | yes i ↦ absurd (omega (arith, ap f i))
      | no n ↦ has_other u n ∙ a u l
    ]

    agrees : (x u : ℕ) → 0 < bit_at (role_at z s x).hand u → now_has t k hs u ≡ hs u
    agrees x = as_before (λ u. bit_at (role_at z s x).hand u) hs (in-hand x) (λ u l. refl)

    queued : Queued (now_has t k hs) s.queue
    queued =
        record {
          readers =
              as_before (λ u. bit_at s.queue.readers u) (λ u. reads) (omega (arith, inv.queued t, q.1))
              fit.queued.readers;
          writers =
              as_before (λ u. numbers_of u s.queue.writers) (λ u. writes) (omega (arith, inv.queued t, q.1))
              fit.queued.writers;
        }

    begun-fits : (o : ℕ) → t < z.threads → Suits (now_has t k hs) z (thread_at s t).phase o k
        → FitAfter (now_has t k hs) (step z s (record { thread = t; order = o }))
    unfolding step row_op perform
    begun-fits o b x =
        rw (lt-ltb t z.threads b, x.obeyed) (record {
          toward =
              λ u. at_set (λ (y : Thread). Toward (now_has t k hs) (now_has t k hs u) y.phase)
              s.threads t u _ (omega (arith, inv.threads))
              (λ i. rw (i, eq-eqb t t refl) x.toward)
              (λ n. rw (has_other u n)
              (shift hs (now_has t k hs) (hs u) (thread_at s u).phase (fit.toward u) (agrees u)));
          queued = queued;
        })

-- a call that suits is not refused
begun-taken : {hs : ℕ → Hold} (z : Sizes) (s : State) (t o : ℕ) {k : Hold} → t < z.threads
    → Suits hs z (thread_at s t).phase o k → (n : ℕ) → step z s (record { thread = t; order = o }) ≡ refused n → ⊥
unfolding step row_op perform
begun-taken z s t o b x n e = let q = rw (lt-ltb t z.threads b, x.obeyed) at e in clash cc

-- ---- whole calls end with an unlock

last_out : (h : Hold) (o : ℕ) (k : Hold) → Follows h o k → k ≡ out → o ≡ 2
last_out h o k claims.write_lock e = clash cc
last_out h o k (claims.read_lock n l) e = clash cc
last_out h o k claims.upgrade e = clash cc
last_out h o k claims.downgrade e = clash cc
last_out h o k claims.unlock_reader e = refl
last_out h o k claims.unlock_writer e = refl
last_out h o k claims.unlock_either e = refl

pub released : (h : Hold) (os : List ℕ) → Whole h os → Released os
released h [] w = tt
released h (o ∷ []) w = last_out h o w.0 w.1 w.2
released h (o ∷ p ∷ os) w = released w.0 (p ∷ os) w.2

-- ---- a step

module _ (z : Sizes) where
  record Suited (s : State) (w : Wants) : Type 0 where
    holds : ℕ → Hold
    fit : Fit holds s
    whole : (u : ℕ) → Whole (holds u) (w u)

  abbrev SuitedAfter : Wants → Outcome → Type 0
  SuitedAfter w (taken s e) = Suited s w
  SuitedAfter w (refused n) = ⊥

  after : (hs : ℕ → Hold) (w : Wants) (o : Outcome)
      → ((n : ℕ) → o ≡ refused n → ⊥) → FitAfter hs o → ((u : ℕ) → Whole (hs u) (w u)) → SuitedAfter w o
  after hs w (taken s e) never f h = record { holds = hs; fit = f; whole = h }
  after hs w (refused n) never f h = never n refl

  module _ {C : Type 0} {ch : Chooser C} {Right : C → Type 0} (law : Lawful z.threads ch Right)
      (s : State) (w : Wants) (t : C) (v : Turn) (h : Suited s w) (a : Steady z law s w t)
      (q : up_next ch s w t ≡ some v) where
    abbrev p : Phase
    p = (thread_at s v.thread).phase

    there : v.thread < z.threads
    there = turn-there z law s w t v a q

    low : v.thread < 64
    low = turn_in z law s w t v a q

    -- it goes on, or begins its next call
    turn-suited : SuitedAfter (wants_after v w) (step z s (row_of v))
    turn-suited = elim (turn-offers law s w t v q) [
      | on c g ↦
          let zero-order = ap (λ (y : Offer). y.order) g in
          after h.holds (wants_after v w) (step z s (row_of v))
          (λ n. on-taken z s v.thread v.gets.order n there zero-order c)
          (goes_on h.holds z s v.thread a.inv low h.fit v.gets.order zero-order there c)
          (now-both (λ x os. Whole (h.holds x) os) v.thread v.gets.later w (rw g (h.whole v.thread))
          (λ x n. h.whole x))
      | anew n m e ↦
          let b = is-between h.holds (h.holds v.thread) p n m (h.fit.toward v.thread) in
          let (k, follows, rest-whole) = rw e at (h.whole v.thread) in
          let ok = (rw e at (a.checked v.thread)).0 in
          let hs = now_has v.thread k h.holds in
          let x = suits hs z (h.holds v.thread) v.gets.order k p follows ok b in
          after hs (wants_after v w) (step z s (row_of v))
          (begun-taken z s v.thread v.gets.order there x)
          (begun-fits z s v.thread a.inv low h.holds h.fit k
          (between-role z (h.holds v.thread) p b) v.gets.order there x)
          (now-both (λ y os. Whole (hs y) os) v.thread v.gets.later w
          (rw (eq-eqb v.thread v.thread refl) rest-whole) (λ y n. rw (ne_eqb y v.thread n) (h.whole y)))
    ]

  -- ---- all steps

  suited-from : {C : Type 0} {ch : Chooser C} {Right : C → Type 0} (law : Lawful z.threads ch Right)
      → {k : ℕ} {s : State} {w : Wants} {t : C} {d : Dispatched}
      → Goes z ch k s w t d → Steady z law s w t → Suited s w → d.answer ≡ 0
  suited-from law (trace.over _ s w t n trace.full) a h = refl
  suited-from law (trace.over _ s w t n (trace.rests k q)) a h = refl
  suited-from law (trace.over _ s w t n (trace.refuses k v m q p)) a h =
      absurd (subst (SuitedAfter (wants_after v w)) p (turn-suited law s w t v h a q))
  suited-from law (trace.steps k s w t v s' e d q p g) a h =
      suited-from law g (steady-next z law s w t v a q s' e p)
      (subst (SuitedAfter (wants_after v w)) p (turn-suited law s w t v h a q))

  start : (rs : List Row) → ((u : ℕ) → Whole out (wants_of u rs)) → Suited fresh (λ u. wants_of u rs)
  start rs h =
      record {
        holds = λ u. out;
        fit =
            record {
              toward = λ u. rw (same_at 64 u fresh_thread) (rest refl);
              queued = record {
                readers = λ u k. absurd (omega (arith, bit-zero u));
                writers = λ u k. absurd (omega arith);
              };
            };
        whole = h;
      }

  module _ (r : InRange z) (rs : List Row) (e : first_refusal z rs ≡ 0) (h : (u : ℕ) → Whole out (wants_of u rs)) where
    served : {C : Type 0} {ch : Chooser C} {Right : C → Type 0} (law : Lawful z.threads ch Right) (c : C) → Right c
        → (dispatch_by ch c z rs).answer ≡ 0
    unfolding dispatch_by
    served {C} {ch} law c i =
        suited-from law (trace.goes z ch most fresh (λ u. wants_of u rs) c) (steady-begun z law r rs e c i) (start rs h)

    pub dispatch-served : (dispatch z rs).answer ≡ 0
    dispatch-served = served (round-lawful z.threads) 0 r.threads_least

    pub dispatch-cleared : length (dispatch z rs).steps < 4096 → Cleared z rs (dispatch z rs).steps
    dispatch-cleared = dispatch-unstranded z r rs e (λ u. released out (wants_of u rs) (h u)) dispatch-served

    pub drawn-served : (ts : List ℕ) → (drawn ts z rs).answer ≡ 0
    drawn-served ts = served (by-turns-lawful z.threads) ts tt

    pub drawn-cleared : (ts : List ℕ) → AllRest z rs (drawn ts z rs).steps → Cleared z rs (drawn ts z rs).steps
    drawn-cleared ts = drawn-unstranded z ts r rs e (λ u. released out (wants_of u rs) (h u))
