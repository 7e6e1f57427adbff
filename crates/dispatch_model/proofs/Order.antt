-- What each thread wants: checked orders, which it begins one after the other until it is done.
use Prim.{tt}
use Rattle.lock.proofs.Library.{ℕ, ◌<◌, ◌≡◌, refl, sym, subst, ap, ◌∙◌, ◌≢◌, ◌⊎◌, inl, inr, false, List, [], ◌∷◌, ◌++◌}
use Rattle.lock.proofs.Library.{Option, none, some, arith, eqb, ltb, eqb-false, eq-eqb, ne_eqb, ltb-true, ℕ_discrete}
use Rattle.lock.proofs.Library.{dec_lt, lt-ltb, le-ltb}
use Rattle.std.specs.Prelude.{if◌then◌else◌}
use Rattle.laws.proofs.Lock.{OfRow, Order, decode, Sizes, Row, is_by, All, Standing, standing, State}
use Rattle.laws.proofs.Lock.{thread_at, fresh, taken, step, Entry, InRange}
use Rattle.lock.specs.Run.{unknown, row_refusal}
use Rattle.lock.proofs.Choice.{clash, if-both}
use Rattle.dispatch_model.specs.Dispatch.{wants_of, Wants, now_wants, Offer, begins, offered, offer, Turn, row_of}
use Rattle.dispatch_model.specs.Dispatch.{Chooser, Dispatched, round, up_to, first_turn, by_turns}
use Rattle.dispatch_model.specs.File.{first_refusal}
use Rattle.laws.proofs.Role.{Inv}
use Rattle.laws.proofs.Perform.{Safe}
use Rattle.laws.proofs.Runs as runs
use Rattle.laws.proofs.Runs.{fresh-inv}
use Rattle.dispatch_model.specs.Claims.{begun_by}
use Rattle.dispatch_model.proofs.Round.{turn-offer, turn-lt, behind-lt}
use Rattle.dispatch_model.proofs.Trace.{up_next, wants_after, turn_after, Goes, over, steps}

-- an order that a call begins with
pub record Wanted (z : Sizes) (o : ℕ) : Type 0 where
  pub begins : o ≢ 0
  pub order : Order
  pub known : decode z o ≡ some order

known_is : (o : Option Order) → unknown o ≡ false → (x : Order) × (o ≡ some x)
known_is none e = clash cc
known_is (some x) e = (x, refl)

-- a row that passes 5 and 6: its thread is there, and its order is wanted
pub record Passes (z : Sizes) (r : Row) : Type 0 where
  pub there : r.thread < z.threads
  pub wanted : Wanted z r.order

row-both : (z : Sizes) (r : Row) (P : ℕ → Type 0) → (Passes z r → P 0) → ((n : ℕ) → OfRow n → P n) → P (row_refusal z r)
row-both z r P f g =
    if-both P (ltb r.thread z.threads)
    (λ a. if-both P (eqb r.order 0) (λ b. g 6 (omega arith))
    (λ b. if-both P (unknown (decode z r.order)) (λ c. g 6 (omega arith))
    (λ c. let (o, e) = known_is (decode z r.order) c in
    f (record {
      there = ltb-true r.thread z.threads a;
      wanted = record { begins = eqb-false r.order 0 b; order = o; known = e };
    }))))
    (λ a. g 5 (omega arith))

-- a fact of the first refusal of all rows, where they pass and where one is refused
pub rows_both : (z : Sizes) (rs : List Row) (P : ℕ → Type 0) → (All (Passes z) rs → P 0) → ((n : ℕ) → OfRow n → P n)
    → P (first_refusal z rs)
rows_both z [] P f g = f tt
rows_both z (r ∷ rs) P f g =
    row-both z r (λ k. P (if eqb k 0 then first_refusal z rs else k)) (λ h. rows_both z rs P (λ a. f (h, a)) g)
    (λ n o. rw (ne_eqb n 0 (λ e. omega arith)) (g n o))

pub rows_pass : (z : Sizes) (rs : List Row) → first_refusal z rs ≡ 0 → All (Passes z) rs
rows_pass z rs = rows_both z rs (λ n. n ≡ 0 → All (Passes z) rs) (λ a q. a) (λ n o q. absurd (omega arith))

-- and so each thread's calls are wanted
wants-checked : (z : Sizes) (u : ℕ) (rs : List Row) → All (Passes z) rs → All (Wanted z) (wants_of u rs)
wants-checked z u [] a = tt
wants-checked z u (r ∷ rs) a =
    let h = wants-checked z u rs a.1 in
    if-both (All (Wanted z)) (is_by u r) (λ e. (a.0.wanted, h)) (λ e. h)

-- ---- what a thread is offered, by its standing and the calls that it wants

-- a fact by the standing of a thread
pub stands : (P : Standing → Type 0) → P Standing.Idle → ((k : ℕ) → P (Standing.Reading k)) → P Standing.Writing
    → P Standing.Calling → P Standing.Asleep → (x : Standing) → P x
stands P i r w c a Standing.Idle = i
stands P i r w c a (Standing.Reading k) = r k
stands P i r w c a Standing.Writing = w
stands P i r w c a Standing.Calling = c
stands P i r w c a Standing.Asleep = a

-- it is in a call and goes on, and its wants stay; or it is outside and begins the next call
pub data Offers (x : Standing) (os : List ℕ) (g : Offer) : Type 0 where
  on : x ≡ Standing.Calling → g ≡ record { order = 0; later = os } → Offers x os g
  anew : x ≢ Standing.Calling → x ≢ Standing.Asleep → os ≡ g.order ∷ g.later → Offers x os g

-- with no step it is asleep, or done with its last call
abbrev Offered : Standing → List ℕ → Option Offer → Type 0
Offered x os none = (x ≡ Standing.Asleep) ⊎ ((x ≢ Standing.Calling) × (os ≡ []))
Offered x os (some g) = Offers x os g

begins-so : (x : Standing) (os : List ℕ) → x ≢ Standing.Calling → x ≢ Standing.Asleep → Offered x os (begins os)
begins-so x [] n m = inr (n, refl)
begins-so x (o ∷ os) n m = anew n m refl

offered-so : (x : Standing) (os : List ℕ) → Offered x os (offered x os)
offered-so x os =
    stands (λ (x : Standing). Offered x os (offered x os)) (begins-so _ os (λ q. clash cc) (λ q. clash cc))
    (λ k. begins-so _ os (λ q. clash cc) (λ q. clash cc)) (begins-so _ os (λ q. clash cc) (λ q. clash cc))
    (on refl refl) (inl refl) x

pub offers : (x : Standing) (os : List ℕ) (g : Offer) → offered x os ≡ some g → Offers x os g
offers x os g e = subst (Offered x os) e (offered-so x os)

pub none-rests : (x : Standing) (os : List ℕ)
    → offered x os ≡ none → (x ≡ Standing.Asleep) ⊎ ((x ≢ Standing.Calling) × (os ≡ []))
none-rests x os e = subst (Offered x os) e (offered-so x os)

-- ---- what is asked of a chooser, of T threads

-- where what it keeps is right, the turn is that of one of the threads, which gets what it is offered
pub record Lawful (T : ℕ) {C : Type 0} (ch : Chooser C) (Right : C → Type 0) : Type 0 where
  pub gets : (f : ℕ → Option Offer) (c : C) (v : Turn) → ch.choose f c ≡ some v → f v.thread ≡ some v.gets
  pub there : (f : ℕ → Option Offer) (c : C) (v : Turn) → ch.choose f c ≡ some v → Right c → v.thread < T
  pub keeps : (f : ℕ → Option Offer) (c : C) (v : Turn) → ch.choose f c ≡ some v → Right c → Right (ch.after f c v)

-- going round, the turn is at one of the threads
pub round-lawful : (T : ℕ) → Lawful T (round T) (λ t. t < T)
round-lawful T =
    record {
      gets = λ f t v q. turn-offer T f T t v q;
      there = λ f t v q l. turn-lt T f T t v q l;
      keeps = λ f t v q l. behind-lt T v.thread (turn-lt T f T t v q l);
    }

-- by a list of turns, whatever it has
abbrev Gets : ℕ → (ℕ → Option Offer) → Option Turn → Type 0
Gets T f none = Unit {0}
Gets T f (some v) = (f v.thread ≡ some v.gets) × (v.thread < T)

one-gets : (T : ℕ) (f : ℕ → Option Offer) (t : ℕ) → t < T → (rest : Option Turn) → Gets T f rest
    → (o : Option Offer) → f t ≡ o → Gets T f (up_to rest (λ o. some (record { thread = t; gets = o })) o)
one-gets T f t l rest h none e = h
one-gets T f t l rest h (some o) e = (e, l)

first-gets : (T : ℕ) (f : ℕ → Option Offer) (ts : List ℕ) → Gets T f (first_turn T f ts)
unfolding first_turn
first-gets T f [] = tt
first-gets T f (t ∷ ts) = elim (dec_lt t T) [
  | yes l ↦ rw (lt-ltb t T l) (one-gets T f t l (first_turn T f ts) (first-gets T f ts) (f t) refl)
  | no l ↦ rw (le-ltb t T (omega arith)) (first-gets T f ts)
]

first-turn : (T : ℕ) (f : ℕ → Option Offer) (ts : List ℕ) (v : Turn) → first_turn T f ts ≡ some v
    → (f v.thread ≡ some v.gets) × (v.thread < T)
first-turn T f ts v q = subst (Gets T f) q (first-gets T f ts)

pub by-turns-lawful : (T : ℕ) → Lawful T (by_turns T) (λ ts. Unit {0})
by-turns-lawful T =
    record {
      gets = λ f ts v q. (first-turn T f ts v q).0;
      there = λ f ts v q l. (first-turn T f ts v q).1;
      keeps = λ f ts v q l. tt;
    }

pub turn-offers : {T : ℕ} {C : Type 0} {ch : Chooser C} {Right : C → Type 0} → Lawful T ch Right
    → (s : State) (w : Wants) (t : C) (v : Turn) → up_next ch s w t ≡ some v
    → Offers (standing (thread_at s v.thread).phase) (w v.thread) v.gets
unfolding offer
turn-offers law s w t v q =
    offers (standing (thread_at s v.thread).phase)
    (w v.thread) v.gets (law.gets (offer s w) t v q)

-- ---- what a step does to what is wanted

-- a fact of each thread and of what it wants, where t wants os now and the others what they wanted
pub now-both : (P : ℕ → List ℕ → Type 0) (t : ℕ) (os : List ℕ) (w : Wants)
    → P t os → ((u : ℕ) → u ≢ t → P u (w u)) → (u : ℕ) → P u (now_wants t os w u)
now-both P t os w a f u = elim (ℕ_discrete u t) [
  | yes e ↦ rw (e, eq-eqb t t refl) a
  | no n ↦ rw (ne_eqb u t n) (f u n)
]

-- of thread u, whose step the row is not, or that goes on; or of a call that begins
abbrev Kept : Wants → Wants → Row → ℕ → Type 0
Kept w w' r u = ((xs : List Row) → begun_by u (r ∷ xs) ≡ begun_by u xs) × (w' u ≡ w u)

abbrev Begun : Wants → Wants → Row → ℕ → Type 0
Begun w w' r u = ((xs : List Row) → begun_by u (r ∷ xs) ≡ r.order ∷ begun_by u xs) × (w u ≡ r.order ∷ w' u)

abbrev pub Either : Wants → Turn → ℕ → Type 0
Either w v u = Kept w (wants_after v w) (row_of v) u ⊎ Begun w (wants_after v w) (row_of v) u

module _ (z : Sizes) (w : Wants) (v : Turn) (a : All (Wanted z) (w v.thread)) (x : Standing)
    (h : Offers x (w v.thread) v.gets) where
  own : Either w v v.thread
  own = elim h [
    | on c g ↦ inl (λ xs. rw (eq-eqb v.thread v.thread refl, g), rw (eq-eqb v.thread v.thread refl, g))
    | anew n m e ↦
        let ne : v.gets.order ≢ 0 = (rw e at a).0.begins in
        inr (
          λ xs. rw (eq-eqb v.thread v.thread refl, ne_eqb v.gets.order 0 ne),
          rw (eq-eqb v.thread v.thread refl) e,
        )
  ]

  either : (u : ℕ) → Either w v u
  either u = elim (ℕ_discrete u v.thread) [
    | yes e ↦ subst (Either w v) (sym e) own
    | no n ↦ inl (λ xs. rw (ne_eqb v.thread u (λ e. n (sym e))), rw (ne_eqb u v.thread n))
  ]

-- ---- what every step keeps: the lock's invariant, wanted orders, and that the turn is a thread's

module _ (z : Sizes) {C : Type 0} {ch : Chooser C} {Right : C → Type 0} (law : Lawful z.threads ch Right) where
  pub record Steady (s : State) (w : Wants) (t : C) : Type 0 where
    pub inv : Inv z s
    pub checked : (u : ℕ) → All (Wanted z) (w u)
    pub in-turn : Right t

  pub steady-begun : InRange z → (rs : List Row) → first_refusal z rs ≡ 0 → (c : C) → Right c
      → Steady fresh (λ u. wants_of u rs) c
  steady-begun r rs e c begins =
      record {
        inv = fresh-inv z r;
        checked = λ u. wants-checked z u rs (rows_pass z rs e);
        in-turn = begins;
      }

  module _ (s : State) (w : Wants) (t : C) (v : Turn) (h : Steady s w t) (q : up_next ch s w t ≡ some v) where
    pub turn-there : v.thread < z.threads
    turn-there = law.there (offer s w) t v q h.in-turn

    pub turn_in : v.thread < 64
    turn_in = omega (arith, turn-there, h.inv.sizes.threads)

    pub step-either : (u : ℕ) → Either w v u
    step-either = either z w v (h.checked v.thread) _ (turn-offers law s w t v q)

    pub steady-next : (s' : State) (e : Entry) → step z s (row_of v) ≡ taken s' e
        → Steady s' (wants_after v w) (turn_after ch s w t v)
    steady-next s' e p =
        record {
          inv = subst (Safe z) p (runs.steps z s (row_of v) h.inv);
          checked = λ u. elim (step-either u) [
            | inl k ↦ rw k.1 (h.checked u)
            | inr k ↦ (rw k.1 at (h.checked u)).1
          ];
          in-turn = law.keeps (offer s w) t v q h.in-turn;
        }

  -- the calls that a thread began are a prefix of those that it wants
  pub in-order-from : {k : ℕ} {s : State} {w : Wants} {t : C} {d : Dispatched}
      → Goes z ch k s w t d → Steady s w t → (u : ℕ) → begun_by u d.steps ++ d.wants u ≡ w u
  in-order-from (over k s w t n x) h u = refl
  in-order-from (steps k s w t v s' e d q p g) h u =
      let ih = in-order-from g (steady-next s w t v h q s' e p) u in
      elim (step-either s w t v h q u) [
        | inl c ↦ rw (c.0 d.steps) (ih ∙ c.1)
        | inr c ↦ rw (c.0 d.steps) (ap (λ (xs : List ℕ). v.gets.order ∷ xs) ih ∙ sym c.1)
      ]
