-- Nobody is stranded: where each thread's last call is an unlock, everybody ends idle.
use Prim.{tt}
use Rattle.lock.proofs.Library.{ℕ, ◌<◌, ◌≤◌, ◌≡◌, refl, sym, subst, ap, ◌∙◌, ◌≢◌, ◌⊎◌, inl, inr, Bool, true, false}
use Rattle.lock.proofs.Library.{List, [], ◌∷◌, some, arith, dec_lt, eqb, length, get_or, set, get_or-set_same, lt-ltb}
use Rattle.lock.proofs.Library.{ne_eqb}
use Rattle.laws.proofs.Lock.{Phase, Idle, Asleep, Standing, standing, Thread, Sizes, Op, begin, read, ask, swap, stay}
use Rattle.laws.proofs.Lock.{store, lock, release, join, next, take_readers, wake, note, refuse, op, unlocking, obey}
use Rattle.laws.proofs.Lock.{State, fresh_thread, thread_at, Outcome, taken, refused, perform, fresh, row_op, step, Row}
use Rattle.laws.proofs.Lock.{All, Entry, InRange}
use Rattle.lock.proofs.Choice.{clash, if-both, not-both}
use Rattle.laws.proofs.Role.{role, Inv}
use Rattle.laws.proofs.Seen.{by-seen}
use Rattle.laws.proofs.Made.{others-length, Becomes, Made, still, goes, denied, made}
use Rattle.progress.proofs.Measure.{ends_idle, sleeper-stays-on}
use Rattle.progress.proofs.Nearer.{Onward, onward}
use Rattle.laws.specs.Exclusion.{Resting}
use Rattle.laws.specs.Sleeping.{Free, Remembers}
use Rattle.laws.proofs.Runs.{same_at}
use Rattle.laws.proofs.Sleeping.{remembers}
use Rattle.laws.proofs.Aside.{Aside, aside}
use Rattle.dispatch_model.specs.Dispatch.{wants_of, Wants, Offer, Turn, row_of, Dispatched, most, dispatch}
use Rattle.dispatch_model.specs.Dispatch.{Chooser, dispatch_by, drawn}
use Rattle.dispatch_model.specs.File.{first_refusal}
use Rattle.dispatch_model.specs.Claims.{Rests, AllRest, Released, Cleared}
use Rattle.dispatch_model.proofs.Trace as trace
use Rattle.dispatch_model.proofs.Trace.{Goes, up_next, wants_after}
use Rattle.dispatch_model.proofs.Order.{stands, Passes, rows_pass, on, anew, turn-offers, now-both, Steady}
use Rattle.dispatch_model.proofs.Order.{steady-begun, turn-there, turn_in, steady-next, Lawful, by-turns-lawful}
use Rattle.dispatch_model.proofs.Fair.{by_number}
use Rattle.dispatch_model.proofs.Ends.{all_rest, led, unsuited, unchosen, refused-one, spent, given-ended}

-- ---- an unlock ends idle: what follows each of its rows is a row of it, or the end

-- a phase of an unlock, or idle
abbrev pub Outward : Phase → Type 0
Outward p = ends_idle p ≡ true

-- nobody is asleep in it, and outside a call it is over
pub outward-awake : (z : Sizes) (p : Phase) → Outward p → (role z p).sleeps ≡ 0
outward-awake z p h = elim (dec_lt 0 (role z p).sleeps) [
  | yes a ↦ not-both (ends_idle p) h (sleeper-stays-on z p a)
  | no a ↦ omega arith
]

outward-over : (p : Phase) → Outward p → standing p ≢ Standing.Calling → p ≡ Idle
unfolding ends_idle
outward-over =
    by-seen (λ (p : Phase). Outward p → standing p ≢ Standing.Calling → p ≡ Idle) (λ h n. refl)
    (λ h n. not-both false h refl) (λ h n. not-both false h refl) (λ k h n. not-both false h refl)
    (λ p e c h n. absurd (n e))

-- ---- its rows

abbrev pub GoesOut : ℕ → Outcome → Type 0
GoesOut t (taken s e) = Outward (thread_at s t).phase
GoesOut t (refused n) = Unit {0}

module _ (z : Sizes) (s : State) (t : ℕ) (inv : Inv z s) (l : t < 64) where
  comes : (hs : List Thread) (x : Thread) → length hs ≡ length s.threads → Outward x.phase
      → Outward (get_or (set hs t x) t fresh_thread).phase
  comes hs x e o = rw (get_or-set_same hs t x fresh_thread (omega (arith, inv.threads))) o

  made-out : {o : Op} {x : Outcome} → Outward (thread_at s t).phase → Becomes z s t (λ e s₁. Outward) o
      → Made z s t (λ e s₁. Outward) o x → GoesOut t x
  made-out h a (still e i) = h
  made-out h a (goes e ws m q hs p f j d k) = comes hs _ (others-length j) (k a)
  made-out h a (denied n) = tt

  onward-out : (n : ℕ) (b : Bool) (o : Op) → b ≡ true → Onward z s n b o → Becomes z s t (λ e s₁. Outward) o
  onward-out n b (begin p) e a = absurd a
  onward-out n b (read w k) e a = a.keeps e
  onward-out n b (ask k p) e a = a.keeps e
  onward-out n b (swap w old new p back) e a = (λ q. a.0.keeps e, λ q. (a.1 q).keeps e)
  onward-out n b stay e a = tt
  onward-out n b (store f p) e a = a.keeps e
  onward-out n b (lock p) e a = λ q. a.keeps e
  onward-out n b (release p) e a = a.keeps e
  onward-out n b (join x p) e a = a.keeps e
  onward-out n b (next last k) e a = a.keeps e
  onward-out n b (take_readers k) e a = a.keeps e
  onward-out n b (wake g p) e a = a.keeps e
  onward-out n b note e a = tt
  onward-out n b (refuse m) e a = tt

  -- order 0, inside it
  goes-out : (o : ℕ) → o ≡ 0 → t < z.threads → standing (thread_at s t).phase ≡ Standing.Calling
      → Outward (thread_at s t).phase → GoesOut t (step z s (record { thread = t; order = o }))
  unfolding step row_op obey perform
  goes-out o i k c h =
      let p = (thread_at s t).phase in
      rw (i, lt-ltb t z.threads k)
      (made-out h (onward-out _ _ (op z.fan p) h (onward z inv.sizes s p c (inv.right t)).1)
      (made z s t (λ e s₁. Outward) (op z.fan p)))

  -- order 2
  unlocks-out : (o : ℕ) → o ≡ 2 → t < z.threads → GoesOut t (step z s (record { thread = t; order = o }))
  unfolding step row_op obey perform ends_idle
  unlocks-out o i k =
      rw (i, lt-ltb t z.threads k)
      (stands (λ x. GoesOut t (perform z s t (unlocking x))) tt
      (λ n. comes s.threads _ refl (if-both Outward (eqb n 0) (λ e. refl) (λ e. refl)))
      (comes s.threads _ refl refl) tt tt (standing (thread_at s t).phase))

-- ---- the calls that are left

-- what is known of a thread by the calls that it still wants: without one it goes outward
abbrev Ending : List ℕ → Phase → Type 0
Ending [] p = Outward p
Ending (o ∷ os) p = Released (o ∷ os)

ending : (os : List ℕ) (p : Phase) → Released os → Outward p → Ending os p
ending [] p r h = h
ending (o ∷ os) p r h = r

-- it goes on, and still wants the same
ending-on : (os : List ℕ) (p q : Phase) → (Outward p → Outward q) → Ending os p → Ending os q
ending-on [] p q f h = f h
ending-on (o ∷ os) p q f h = h

-- it begins its next call, which is an unlock if it is the last
ending-anew : (o : ℕ) (os : List ℕ) (q : Phase) → (o ≡ 2 → Outward q) → Released (o ∷ os) → Ending os q
ending-anew o [] q f h = f h
ending-anew o (o' ∷ os) q f h = h

module _ (z : Sizes) where
  record Bound (s : State) (w : Wants) : Type 0 where
    ends : (u : ℕ) → Ending (w u) (thread_at s u).phase
    beyond : (u : ℕ) → z.threads ≤ u → ((thread_at s u).phase ≡ Idle) × (w u ≡ [])

  -- ---- one step

  module _ {C : Type 0} {ch : Chooser C} {Right : C → Type 0} (law : Lawful z.threads ch Right)
      (s : State) (w : Wants) (t : C) (v : Turn) (s' : State) (e : Entry) (b : Bound s w) (h : Steady z law s w t)
      (q : up_next ch s w t ≡ some v) (p : step z s (row_of v) ≡ taken s' e) where
    moved : (u : ℕ) → u ≢ v.thread → Outward (thread_at s u).phase → thread_at s' u ≡ thread_at s u
    moved u n o =
        subst (Aside z s v.thread) p (aside z s (row_of v) h.inv) u n
        (outward-awake z (thread_at s u).phase o)

    own : Ending v.gets.later (thread_at s' v.thread).phase
    own =
        let there = turn-there z law s w t v h q in
        let low = turn_in z law s w t v h q in
        elim (turn-offers law s w t v q) [
          | on c g ↦ rw g (ending-on (w v.thread) _ _ (λ a. subst (GoesOut v.thread) p
              (goes-out z s v.thread h.inv low _ (ap (λ (y : Offer). y.order) g) there c a))
              (b.ends v.thread))
          | anew n m i ↦ ending-anew v.gets.order v.gets.later _ (λ a. subst (GoesOut v.thread) p
              (unlocks-out z s v.thread h.inv low _ a there)) (rw i at (b.ends v.thread))
        ]

    step-bound : Bound s' (wants_after v w)
    unfolding ends_idle
    step-bound =
        record {
          ends = now-both (λ u os. Ending os (thread_at s' u).phase) v.thread v.gets.later w own
              (λ u n. ending-on (w u) (thread_at s u).phase _ (λ o. rw (moved u n o) o) (b.ends u));
          beyond =
              λ u k.
              let n : u ≢ v.thread = λ i. omega (arith, turn-there z law s w t v h q) in
              let (idle, done) = b.beyond u k in (
                ap (λ (x : Thread). x.phase) (moved u n (rw idle)) ∙ idle,
                rw (ne_eqb u v.thread n) done,
              );
        }

  bound-from : {C : Type 0} {ch : Chooser C} {Right : C → Type 0} (law : Lawful z.threads ch Right)
      → {k : ℕ} {s : State} {w : Wants} {t : C} {d : Dispatched}
      → Goes z ch k s w t d → Steady z law s w t → Bound s w → Bound d.state d.wants
  bound-from law (trace.over k s w t n x) h b = b
  bound-from law (trace.steps k s w t v s' e d q p g) h b =
      bound-from law g (steady-next z law s w t v h q s' e p) (step-bound law s w t v s' e b h q p)

  -- ---- the start

  -- the checked rows are of threads below T
  none-wanted : (rs : List Row) → All (Passes z) rs → (u : ℕ) → z.threads ≤ u
      → wants_of u rs ≡ []
  none-wanted [] a u k = refl
  none-wanted (r ∷ rs) a u k =
      rw (ne_eqb r.thread u (λ i. omega (arith, a.0.there))) (none-wanted rs a.1 u k)

  start : (rs : List Row)
      → first_refusal z rs ≡ 0 → ((u : ℕ) → Released (wants_of u rs)) → Bound fresh (λ u. wants_of u rs)
  unfolding ends_idle
  start rs e h =
      record {
        ends = λ u. ending (wants_of u rs) (thread_at fresh u).phase (h u) (rw (same_at 64 u fresh_thread) refl);
        beyond =
            λ u k. (ap (λ (x : Thread). x.phase) (same_at 64 u fresh_thread), none-wanted rs (rows_pass z rs e) u k);
      }

  -- ---- the end

  -- idle and done, or asleep
  pub data Fate (p : Phase) (os : List ℕ) : Type 0 where
    home : p ≡ Idle → os ≡ [] → Fate p os
    sleeps : p ≡ Asleep → Fate p os

  fate : (p : Phase) (os : List ℕ)
      → Ending os p → (standing p ≡ Standing.Asleep) ⊎ ((standing p ≢ Standing.Calling) × (os ≡ [])) → Fate p os
  unfolding standing
  fate p os h (inl a) =
      sleeps (by-seen (λ (p : Phase). standing p ≡ Standing.Asleep → p ≡ Asleep) (λ e. cc) (λ e. cc) (λ e. refl)
      (λ k e. cc) (λ p i c e. cc) p a)
  fate p os h (inr a) = home (outward-over p (subst (λ (x : List ℕ). Ending x p) a.1 h) a.0) a.1

  module _ (d : Dispatched) (b : Bound d.state d.wants) (m : Remembers d.state)
      (r : (u : ℕ) → u < z.threads → Rests d.state (d.wants u) u) where
    fates : (u : ℕ) → Fate (thread_at d.state u).phase (d.wants u)
    fates u = elim (dec_lt u z.threads) [
      | yes l ↦ fate _ _ (b.ends u) (r u l)
      | no l ↦ let h = b.beyond u (omega arith) in home h.0 h.1
    ]

    -- nobody is in any other phase
    in-no : (u : ℕ) (q : Phase) → (thread_at d.state u).phase ≡ q → (Idle ≡ q → ⊥) → (Asleep ≡ q → ⊥) → ⊥
    in-no u q e i a = elim (fates u) [ home h o ↦ i (sym h ∙ e) | sleeps h ↦ a (sym h ∙ e) ]

    at_rest : Resting d.state
    unfolding standing
    at_rest u e =
        in-no u _ refl (λ q. let y = ap standing q ∙ e in clash cc)
        (λ q. let y = ap standing q ∙ e in clash cc)

    -- nobody holds, so nobody sleeps
    nobody-sleeps : (u : ℕ) → (thread_at d.state u).phase ≡ Asleep → ⊥
    nobody-sleeps u e = elim (m.held at_rest u e) [
      | inl h ↦ in-no h.thread _ h.reads (λ q. clash cc) (λ q. clash cc)
      | inr h ↦ in-no h.thread _ h.writes (λ q. clash cc) (λ q. clash cc)
    ]

    everybody-home : (u : ℕ) → ((thread_at d.state u).phase ≡ Idle) × (d.wants u ≡ [])
    everybody-home u = elim (fates u) [ home q o ↦ (q, o) | sleeps q ↦ absurd (nobody-sleeps u q) ]

  -- where everybody rests at the end
  module _ {C : Type 0} {ch : Chooser C} {Right : C → Type 0} (law : Lawful z.threads ch Right) (r : InRange z)
      (rs : List Row) (e : first_refusal z rs ≡ 0) (c : C) (i : Right c) (h : (u : ℕ) → Released (wants_of u rs)) where
    abbrev d : Dispatched
    d = dispatch_by ch c z rs

    remembered : Remembers d.state
    remembered = subst Remembers (led z law rs e r c i).state (remembers z r d.steps)

    bound : Bound d.state d.wants
    unfolding dispatch_by
    bound = bound-from law (trace.goes z ch most fresh (λ u. wants_of u rs) c) (steady-begun z law r rs e c i)
        (start rs e h)

    pub rested-cleared : ((u : ℕ) → u < z.threads → Rests d.state (d.wants u) u) → Cleared z rs d.steps
    rested-cleared y =
        let home_all = everybody-home d bound remembered y in
        let l = led z law rs e r c i in
        record {
          done = λ u. l.left u ∙ (home_all u).1;
          idle = λ u. rw l.state (home_all u).0;
          free = subst Free (sym l.state) (remembered.free (λ u. (home_all u).0));
        }

  -- going round it ends so, unless a call is refused or the steps run out
  pub dispatch-unstranded : InRange z → (rs : List Row) → first_refusal z rs ≡ 0 → ((u : ℕ) → Released (wants_of u rs))
      → (dispatch z rs).answer ≡ 0 → length (dispatch z rs).steps < 4096 → Cleared z rs (dispatch z rs).steps
  dispatch-unstranded r rs e h a few =
      let law = by_number z in
      elim (given-ended z law rs e r 0 r.threads_least) [
        | unchosen x c i y ↦ rested-cleared law r rs e 0 r.threads_least h (all_rest z _ _ c i y)
        | refused-one x y ↦
            absurd (omega (arith, (unsuited z law _ _ y.keeps y.turn _ y.steady y.chosen y.refuses).0))
        | spent x y ↦ absurd (omega arith)
      ]

  -- by a list of turns, where it ends so
  pub drawn-unstranded : (ts : List ℕ) → InRange z → (rs : List Row) → first_refusal z rs ≡ 0
      → ((u : ℕ) → Released (wants_of u rs)) → AllRest z rs (drawn ts z rs).steps
      → Cleared z rs (drawn ts z rs).steps
  drawn-unstranded ts r rs e h y =
      let law = by-turns-lawful z.threads in
      let l = led z law rs e r ts tt in
      rested-cleared law r rs e ts tt h (λ u k. rw (l.left u, l.state) at (y u k))
