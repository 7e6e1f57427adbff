-- The dispatcher ends when every thread is asleep or done, after an unsuitable call, or after 4,096 steps. A step is
-- refused for an unsuitable call alone: a thread inside a call goes on, and a wanted call begins or does not suit.
use Rattle.lock.proofs.Library.{ℕ, ◌<◌, suc, ◌≡◌, refl, subst, ap, ◌∙◌, sym, ◌≢◌, some, none, lt-ltb, List, ◌∷◌, ◌++◌}
use Rattle.lock.proofs.Library.{false, arith, length, take, take-length, drop, drop_at}
use Rattle.laws.proofs.Lock.{Phase, Look, WriteLook, Standing, standing, Sizes, Op, begin, note, refuse, op, Order}
use Rattle.laws.proofs.Lock.{go_on, write_lock, unlock, upgrade, downgrade, read_lock, book, beginning, unlocking}
use Rattle.laws.proofs.Lock.{upgrading, downgrading, obey, State, thread_at, refused, perform, fresh, row_op, step, Row}
use Rattle.laws.proofs.Lock.{run, InRange}
use Rattle.lock.specs.Call.{booking}
use Rattle.lock.specs.File.{stateless}
use Rattle.lock.proofs.Choice.{clash}
use Rattle.laws.proofs.Seen.{Steps, by-seen}
use Rattle.dispatch_model.proofs.Order.{stands, Wanted, on, anew, turn-offers, none-rests, Steady, steady-begun}
use Rattle.dispatch_model.proofs.Order.{turn-there, steady-next, in-order-from}
use Rattle.dispatch_model.proofs.Order.{Lawful}
use Rattle.dispatch_model.proofs.Sets.{WakesAfter, performs-wake}
use Rattle.dispatch_model.specs.Dispatch.{wants_of, Wants, Offer, offer, Turn, row_of, Dispatched, stepped, most}
use Rattle.dispatch_model.specs.Dispatch.{Chooser, dispatch_by, round, dispatch}
use Rattle.dispatch_model.specs.File.{first_refusal}
use Rattle.dispatch_model.specs.Claims.{begun_by, unbegun, InOrder, Rests, final, Unsuitable, Ends, rested, full}
use Rattle.dispatch_model.specs.Claims.{refusing}
use Rattle.dispatch_model.proofs.Trace as trace
use Rattle.dispatch_model.proofs.Trace.{up_next, turn_after, Trail, Goes, goes, dispatch_runs}
use Rattle.dispatch_model.proofs.Round.{reached, turn-none}
use Rattle.dispatch_model.proofs.Fair.{by_number}
use Rattle.dispatch_model.proofs.Passing.{passed_over, began-after}

refused-by : (z : Sizes) (s : State) (t : ℕ) (o : Op) (n : ℕ) → perform z s t o ≡ refused n → o ≡ refuse n
refused-by z s t o n q = subst (WakesAfter 0 s t o) q (performs-wake 0 z s t o)

-- a thread that goes on is refused only outside a call, and with 7
op-refuses : (F n : ℕ) (p : Phase) → op F p ≡ refuse n → (n ≡ 7) × (standing p ≢ Standing.Calling)
unfolding op standing
op-refuses F n =
    by-seen (λ (p : Phase). op F p ≡ refuse n → (n ≡ 7) × (standing p ≢ Standing.Calling)) (λ e. (cc, λ q. clash cc))
    (λ e. (cc, λ q. clash cc)) (λ e. clash cc) (λ k e. (cc, λ q. clash cc)) (λ p q c e. absurd (subst Steps e (c.0 F)))

-- order 0 of a thread inside a call leads on, to the call's end
pub on-taken : (z : Sizes) (s : State) (t o n : ℕ) → t < z.threads → o ≡ 0
    → standing (thread_at s t).phase ≡ Standing.Calling → step z s (record { thread = t; order = o }) ≡ refused n → ⊥
unfolding step row_op obey
on-taken z s t o n l i e q =
    let p = (thread_at s t).phase in
    (op-refuses z.fan n p (refused-by z s t (op z.fan p) n (rw (i, lt-ltb t z.threads l) at q))).1 e

-- ---- a wanted call

-- A fact of what an order is to a thread: it goes on, a call begins, a booking is made, or it does not suit.
module _ (P : Op → Type 0) (begins : (q : Phase) → P (begin q)) (books : P note) (denied : P (refuse 7)) (F : ℕ)
    (p : Phase) where
  orders : (o : Order) → P (op F p) → P (obey F p (some o))
  unfolding obey
  orders go_on f = f
  orders write_lock f =
      stands (λ x. P (beginning WriteLook x)) (begins _) (λ k. denied) denied denied denied (standing p)
  orders unlock f = stands (λ x. P (unlocking x)) denied (λ k. begins _) (begins _) denied denied (standing p)
  orders upgrade f = stands (λ x. P (upgrading x)) denied (λ k. begins _) denied denied denied (standing p)
  orders downgrade f = stands (λ x. P (downgrading x)) denied (λ k. denied) (begins _) denied denied (standing p)
  orders (read_lock k) f =
      stands (λ x. P (beginning (Look k) x)) (begins _) (λ k. denied) denied denied denied (standing p)
  orders (book e) f = stands (λ x. P (booking x)) denied (λ k. denied) books denied denied (standing p)

anew-7 : (z : Sizes) (s : State) (t o n : ℕ) → t < z.threads → Wanted z o
    → step z s (record { thread = t; order = o }) ≡ refused n → n ≡ 7
unfolding step row_op
anew-7 z s t o n l w q =
    orders (λ (x : Op). x ≡ refuse n → n ≡ 7) (λ q e. cc) (λ e. cc) (λ e. cc) z.fan (thread_at s t).phase
    w.order (λ e. (op-refuses z.fan n (thread_at s t).phase e).0)
    (refused-by z s t _ n (rw (lt-ltb t z.threads l, w.known) at q))

-- ---- how it ends

-- going round, nobody's turn: everybody rests
pub all_rest : (z : Sizes) (s : State) (w : Wants) (t : ℕ)
    → t < z.threads → up_next (round z.threads) s w t ≡ none → (u : ℕ) → u < z.threads → Rests s (w u) u
unfolding offer
all_rest z s w t l q u k =
    let r = reached z.threads t u l k in
    let e = turn-none z.threads (offer s w) z.threads t r.places q r.few in
    none-rests (standing (thread_at s u).phase) (w u) (rw r.there at e)

-- ---- the steps so far

-- the steps xs led to the state s, and the calls w are left of the rows rs
pub record Led (z : Sizes) (rs xs : List Row) (s : State) (w : Wants) : Type 0 where
  pub taken : (run z fresh xs).taken ≡ length xs
  pub state : (run z fresh xs).state ≡ s
  pub left : (u : ℕ) → unbegun u rs xs ≡ w u

module _ (z : Sizes) {C : Type 0} {ch : Chooser C} {Right : C → Type 0} (law : Lawful z.threads ch Right) where
  -- a step is refused to the turn v: its thread begins a call, and the refusal is 7
  module _ (s : State) (w : Wants) (t : C) (v : Turn) (n : ℕ) (h : Steady z law s w t)
      (q : up_next ch s w t ≡ some v) (p : step z s (row_of v) ≡ refused n) where
    pub unsuited : (n ≡ 7) × (w v.thread ≡ v.gets.order ∷ v.gets.later)
    unsuited =
        let there = turn-there z law s w t v h q in
        elim (turn-offers law s w t v q) [
          | on c g ↦ absurd (on-taken z s v.thread _ n there (ap (λ (y : Offer). y.order) g) c p)
          | anew m c e ↦
              let ok : Wanted z v.gets.order = (rw e at (h.checked v.thread)).0 in
              (anew-7 z s v.thread v.gets.order n there ok p, e)
        ]

    pub unsuitable : {rs xs : List Row} → Led z rs xs s w → length xs < 4096 → Unsuitable z rs xs (row_of v)
    unsuitable l few =
        record {
          later = v.gets.later;
          few = few;
          there = turn-there z law s w t v h q;
          wanted = l.left v.thread ∙ unsuited.1;
          refuses = rw (l.state, ← unsuited.0) p;
        }

  -- the turn to which the last step was refused, where the chooser began with t
  pub record Stops (t : C) (d : Dispatched) : Type 0 where
    pub keeps : C
    pub trail : Trail ch t d.steps keeps
    pub steady : Steady z law d.state d.wants keeps
    pub turn : Turn
    pub chosen : up_next ch d.state d.wants keeps ≡ some turn
    pub refuses : step z d.state (row_of turn) ≡ refused d.answer

  -- at most k more steps
  pub data Ended (t : C) (k : ℕ) (d : Dispatched) : Type 0 where
    unchosen : d.answer ≡ 0 → (c : C) → Right c → up_next ch d.state d.wants c ≡ none → Ended t k d
    refused-one : length d.steps < k → Stops t d → Ended t k d
    spent : d.answer ≡ 0 → length d.steps ≡ k → Ended t k d

  ends-from : {k : ℕ} {s : State} {w : Wants} {t : C} {d : Dispatched}
      → Goes z ch k s w t d → Steady z law s w t → Ended t k d
  ends-from (trace.over _ s w t n trace.full) h = spent refl refl
  ends-from (trace.over _ s w t n (trace.rests k q)) h = unchosen refl t h.in-turn q
  ends-from (trace.over _ s w t n (trace.refuses k v m q p)) h =
      refused-one (omega arith) (record {
        keeps = t;
        trail = trace.here t;
        steady = h;
        turn = v;
        chosen = q;
        refuses = p;
      })
  ends-from (trace.steps k s w t v s' e d q p g) h = from (ends-from g (steady-next z law s w t v h q s' e p))
    where
      from : Ended (turn_after ch s w t v) k d → Ended t (suc k) (stepped (row_of v) d)
      from (unchosen x c i y) = unchosen x c i y
      from (refused-one x r) =
          refused-one (omega arith) (record {
            keeps = r.keeps;
            trail = trace.further (offer s w) t v d.steps r.keeps r.trail;
            steady = r.steady;
            turn = r.turn;
            chosen = r.chosen;
            refuses = r.refuses;
          })
      from (spent x y) = spent x (ap suc y)

  module _ (rs : List Row) (e : first_refusal z rs ≡ 0) (r : InRange z) (c : C) (i : Right c) where
    abbrev pub given : Dispatched
    given = dispatch_by ch c z rs

    -- what the dispatcher has left of a thread's calls is what did not begin
    begun_first : (u : ℕ) → begun_by u given.steps ++ given.wants u ≡ wants_of u rs
    unfolding dispatch_by
    begun_first = in-order-from z law (goes z ch most fresh (λ u. wants_of u rs) c) (steady-begun z law r rs e c i)

    pub left_over : (u : ℕ) → unbegun u rs given.steps ≡ given.wants u
    left_over u =
        let begun = begun_by u given.steps in
        ap (drop (length begun)) (sym (begun_first u)) ∙ drop_at begun (given.wants u) (length begun) refl

    pub led : Led z rs given.steps given.state given.wants
    led = let h = dispatch_runs z ch c rs in record { taken = h.taken; state = h.state; left = left_over }

    pub given-in-order : InOrder rs given.steps
    given-in-order u = rw (left_over u) (begun_first u)

    pub given-ended : Ended c most given
    unfolding dispatch_by
    given-ended = ends-from (goes z ch most fresh (λ u. wants_of u rs) c) (steady-begun z law r rs e c i)

    -- the answer is 0, or 7
    pub late : stateless given.answer ≡ false
    late = elim given-ended [
      | unchosen x c i y ↦ rw x
      | refused-one x y ↦ rw (unsuited _ _ y.keeps y.turn _ y.steady y.chosen y.refuses).0
      | spent x y ↦ rw x
    ]

-- ---- going round

module _ (z : Sizes) (rs : List Row) (e : first_refusal z rs ≡ 0) (r : InRange z) where
  pub dispatch-in-order : InOrder rs (dispatch z rs).steps
  dispatch-in-order = given-in-order z (by_number z) rs e r 0 r.threads_least

  pub dispatch-ends : Ends z rs (dispatch z rs).steps (dispatch z rs).answer
  unfolding offer
  dispatch-ends = from (given-ended z (by_number z) rs e r 0 r.threads_least)
    where
      d : Dispatched
      d = dispatch z rs

      l : Led z rs d.steps d.state d.wants
      l = led z (by_number z) rs e r 0 r.threads_least

      rests : (u : ℕ) → Rests d.state (d.wants u) u → Rests (final z rs d.steps) (unbegun u rs d.steps) u
      rests u h = rw (l.left u, l.state) h

      whole : take (length d.steps) d.steps ≡ d.steps
      whole = take-length d.steps

      from : Ended z (by_number z) 0 most d → Ends z rs d.steps d.answer
      from (unchosen x c i y) = rw x (rested (λ u k. rests u (all_rest z d.state d.wants c i y u k)))
      from (refused-one x h) =
          let law = by_number z in
          let v = h.turn in
          rw (unsuited z law _ _ h.keeps v _ h.steady h.chosen h.refuses).0
          (refusing (row_of v) (unsuitable z law _ _ h.keeps v _ h.steady h.chosen h.refuses l x)
          (λ u k b. subst (λ (xs : List Row). Rests (run z fresh xs).state (unbegun u rs xs) u) (sym whole)
          (rests u (none-rests (standing (thread_at d.state u).phase) (d.wants u)
          (passed_over z d.state d.wants h.keeps v h.steady.in-turn h.chosen u k
          (began-after z 0 h.trail (λ u v l b. b) u v.thread k b))))))
      from (spent x y) = rw x (full y)
