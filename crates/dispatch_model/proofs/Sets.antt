-- The sets of threads that want a call and that are able to move, as the code keeps them: by what a row leaves of the
-- threads. Its own is set, and where it wakes, by kind 9, the group in its thread's hand is woken.
use Rattle.lock.proofs.Library.{ℕ, zero, suc, ◌-◌, ◌/◌, ◌%◌, ◌^◌, ◌≤◌, ◌<◌, min, ◌+◌, ◌≡◌, refl, sym, ap, ◌∙◌, subst}
use Rattle.lock.proofs.Library.{◌≢◌, Option, none, some, arith, set, length, get_or, set-get_or, get_or-set_other, Bool, true}
use Rattle.lock.proofs.Library.{false, List, [], ◌∷◌, ℕ_discrete, eqb, ltb, eq-eqb, ne_eqb}
use Rattle.laws.proofs.Lock.{same, readers, only, is_writer, Group, Entry, Phase, Thread, Sizes, Op, begin, read, ask}
use Rattle.laws.proofs.Lock.{swap, stay, store, lock, release, join, next, take_readers, wake, note, refuse, State}
use Rattle.laws.proofs.Lock.{fresh_thread, word_at, thread_at, holding, woken, Outcome, taken, refused, asked_as, locks}
use Rattle.std.specs.Prelude.{if◌then◌else◌}
use Rattle.laws.proofs.Lock.{perform, Row, row_op, step, Standing, standing}
use Rattle.lock.proofs.Choice.{if-both}
use Rattle.lock.proofs.Row.{woken-none}
use lib.Bits.{bit_and, and_step, and_le_l, or_lt}
use Rattle.laws.proofs.Sum.{bit_at, bit-or, bit-zero, bit_le, bit-pow, at_self, at_other, pow-lt}
use Rattle.laws.proofs.Role.{Inv}
use Rattle.laws.proofs.Wake.{woken-out}
use Rattle.dispatch_model.specs.Dispatch.{Wants, now_wants, begins, offered, offer}
use Rattle.dispatch_model.specs.Code.{replaced, able_in, only_if, Marked}
use lib.Pow.{pow_mono}
use Rattle.dispatch_model.proofs.Order.{stands}
use Rattle.dispatch_model.proofs.Round.{Able, offers_one}

-- an operation that wakes has the set b in hand
abbrev pub InHand : ℕ → Op → Type 0
InHand b (begin p) = Unit {0}
InHand b (read w k) = Unit {0}
InHand b (ask k p) = Unit {0}
InHand b (swap w old new p back) = Unit {0}
InHand b stay = Unit {0}
InHand b (store f p) = Unit {0}
InHand b (lock p) = Unit {0}
InHand b (release p) = Unit {0}
InHand b (join e p) = Unit {0}
InHand b (next last k) = Unit {0}
InHand b (take_readers k) = Unit {0}
InHand b (wake g p) = g.members ≡ b
InHand b note = Unit {0}
InHand b (refuse n) = Unit {0}

-- the operation o of thread t leads from s to s', with the entry e
pub record Wakes (b : ℕ) (s : State) (t : ℕ) (o : Op) (s' : State) (e : Entry) : Type 0 where
  pub group : Group
  pub me : Thread
  pub threads : s'.threads ≡ set (woken (holding group) group.members s.threads) t me
  pub in_hand : e.kind ≡ 9 → InHand b o → group.members ≡ b
  pub nobody : e.kind ≢ 9 → group.members ≡ 0

-- only an operation that refuses is refused
abbrev pub WakesAfter : ℕ → State → ℕ → Op → Outcome → Type 0
WakesAfter b s t o (taken s' e) = Wakes b s t o s' e
WakesAfter b s t o (refused n) = o ≡ refuse n

module _ (b : ℕ) (z : Sizes) (s : State) (t : ℕ) where
  -- no other thread is touched
  alone : {o : Op} (s' : State) (e : Entry) (me : Thread) → s'.threads ≡ set s.threads t me → e.kind ≢ 9
      → Wakes b s t o s' e
  alone s' e me q n =
      record {
        group = readers 0;
        me = me;
        threads = q ∙ ap (λ hs. set hs t me) (sym (woken-none (holding (readers 0)) s.threads));
        in_hand = λ k. absurd (n k);
        nobody = λ k. refl;
      }

  -- nor its own
  still : {o : Op} (e : Entry) → e.kind ≢ 9 → Wakes b s t o s e
  still e n = alone s e (thread_at s t) (sym (set-get_or s.threads t fresh_thread)) n

  locks-wake : (o : Op) (p : Phase) (m : Option ℕ) → WakesAfter b s t o (locks s t p m)
  locks-wake o p none = alone _ _ _ refl (λ q. omega arith)
  locks-wake o p (some u) = still _ (λ q. omega arith)

  asked : (o : Option Phase) → (asked_as o).kind ≢ 9
  asked none q = omega arith
  asked (some p) q = omega arith

  pub performs-wake : (o : Op) → WakesAfter b s t o (perform z s t o)
  unfolding perform
  performs-wake (begin p) = alone _ _ _ refl (λ q. omega arith)
  performs-wake (read w k) = alone _ _ _ refl (λ q. omega arith)
  performs-wake (ask k p) = alone _ _ _ refl (asked (k (word_at s 0)))
  performs-wake (swap w old new p back) =
      if-both (WakesAfter b s t (swap w old new p back)) (same (word_at s w) old)
      (λ e. alone _ _ _ refl (λ q. omega arith)) (λ e. alone _ _ _ refl (λ q. omega arith))
  performs-wake stay = still _ (λ q. omega arith)
  performs-wake (store f p) = alone _ _ _ refl (λ q. omega arith)
  performs-wake (lock p) = locks-wake (lock p) p s.mutex
  performs-wake (release p) = alone _ _ _ refl (λ q. omega arith)
  performs-wake (join e p) = alone _ _ _ refl (λ q. omega arith)
  performs-wake (next last k) = alone _ _ _ refl (λ q. omega arith)
  performs-wake (take_readers k) = alone _ _ _ refl (λ q. omega arith)
  performs-wake (wake g p) =
      record { group = g; me = _; threads = refl; in_hand = λ k a. a; nobody = λ k. absurd (k refl) }
  performs-wake note = still _ (λ q. omega arith)
  performs-wake (refuse n) = refl

pub row-wakes : (b : ℕ) (z : Sizes) (s : State) (r : Row)
    → WakesAfter b s r.thread (row_op z (thread_at s r.thread).phase r) (step z s r)
unfolding step
row-wakes b z s r = performs-wake b z s r.thread (row_op z (thread_at s r.thread).phase r)

-- ---- bits

bit-and : (t a b : ℕ) → bit_at (bit_and a b) t ≡ min (bit_at a t) (bit_at b t)
bit-and zero a b = let q = and_step a b in omega arith
bit-and (suc t) a b =
    let q = and_step a b in
    let e : bit_and a b / 2 ≡ bit_and (a / 2) (b / 2) = omega arith in
    rw e (bit-and t (a / 2) (b / 2))

bit-minus : (t a b : ℕ) → bit_at (a - bit_and a b) t ≡ bit_at a t - bit_at b t
bit-minus zero a b = let q = and_step a b in let l = and_le_l (a / 2) (b / 2) in omega arith
bit-minus (suc t) a b =
    let q = and_step a b in
    let l = and_le_l (a / 2) (b / 2) in
    let e : (a - bit_and a b) / 2 ≡ a / 2 - bit_and (a / 2) (b / 2) = omega arith in
    rw e (bit-minus t (a / 2) (b / 2))

pub replaced-in : (a b c u : ℕ) → bit_at b u ≡ 1 → bit_at (replaced a b c) u ≡ bit_at c u
replaced-in a b c u e =
    rw (bit-or u (a - bit_and a b) (bit_and c b), bit-minus u a b, bit-and u c b) (omega (arith, bit_le u a, bit_le u c))

pub replaced-out : (a b c u : ℕ) → bit_at b u ≡ 0 → bit_at (replaced a b c) u ≡ bit_at a u
replaced-out a b c u e = rw (bit-or u (a - bit_and a b) (bit_and c b), bit-minus u a b, bit-and u c b) (omega arith)

pub replaced-lt : (k a b c : ℕ) → a < 2 ^ k → c < 2 ^ k → replaced a b c < 2 ^ k
replaced-lt k a b c l m = or_lt k (a - bit_and a b) (bit_and c b) (omega arith) (omega (arith, and_le_l c b))

pub only-lt : (t k : ℕ) (b : Bool) → t < k → only_if t b < 2 ^ k
only-lt t k true l = pow-lt t k l
only-lt t k false l = omega (arith, pow-lt t k l)

only_at : (t : ℕ) (b : Bool) → bit_at (only_if t b) t ≡ (if b then 1 else 0)
only_at t true = bit-pow t t ∙ at_self t
only_at t false = bit-zero t

-- ---- the sets

-- does a thread want a call?
abbrev pub some? : List ℕ → Bool
some? [] = false
some? (o ∷ os) = true

abbrev pub digit : Bool → ℕ
digit b = if b then 1 else 0

-- the set a has each thread u below T with f u
pub record Has (T a : ℕ) (f : ℕ → Bool) : Type 0 where
  pub within : a < 2 ^ T
  pub has : (u : ℕ) → u < T → bit_at a u ≡ digit (f u)

-- those that want a call, and those that are able to move
abbrev pub Wanting : ℕ → ℕ → Wants → Type 0
Wanting T a w = Has T a (λ u. some? (w u))

abbrev pub Moving : ℕ → ℕ → State → Wants → Type 0
Moving T a s w = Has T a (λ u. able_in (standing (thread_at s u).phase) (some? (w u)))

-- thread t is put into it, or out of it; the others are as they should be
has-next : (T a t : ℕ) (b : Bool) (f : ℕ → Bool) → t < T → a < 2 ^ T → b ≡ f t
    → ((u : ℕ) → u < T → u ≢ t → bit_at a u ≡ digit (f u)) → Has T (replaced a (only t) (only_if t b)) f
has-next T a t b f l m e h =
    record {
      within = replaced-lt T a (only t) (only_if t b) m (only-lt t T b l);
      has = λ u k. elim (ℕ_discrete u t) [
        | yes q ↦ rw q (replaced-in a (only t) (only_if t b) t (bit-pow t t ∙ at_self t) ∙ only_at t b ∙ ap digit e)
        | no n ↦ replaced-out a (only t) (only_if t b) u (bit-pow t u ∙ at_other t u n) ∙ h u k n
      ];
    }

-- a thread is offered a step if it is able to move
begins-so : (os : List ℕ) → offers_one (begins os) ≡ digit (some? os)
begins-so [] = refl
begins-so (o ∷ os) = refl

offered-so : (x : Standing) (os : List ℕ) → offers_one (offered x os) ≡ digit (able_in x (some? os))
offered-so x os =
    stands (λ (x : Standing). offers_one (offered x os) ≡ digit (able_in x (some? os)))
    (begins-so os) (λ k. begins-so os) (begins-so os) refl refl x

-- the code's set is that of whose turn it may be
pub able-is : (T able : ℕ) (s : State) (w : Wants) → T ≤ 64 → Moving T able s w → Able T able (offer s w)
unfolding offer
able-is T able s w l h =
    record {
      small = l;
      within = h.within;
      has = λ u k. h.has u k ∙ sym (offered-so (standing (thread_at s u).phase) (w u));
    }

-- ---- after a step

-- thread t still wants os
pub wanting-next : (T wanting t : ℕ) (w : Wants) (os : List ℕ) (b : Bool) → t < T → b ≡ some? os → Wanting T wanting w
    → Wanting T (replaced wanting (only t) (only_if t b)) (now_wants t os w)
wanting-next T wanting t w os b l e h =
    has-next T wanting t b _ l h.within (rw (eq-eqb t t refl) e) (λ u k n. rw (ne_eqb u t n) (h.has u k))

-- ---- who is able to move after a step

woken-in : (p : Phase) (b : ℕ) (hs : List Thread) (u : ℕ)
    → bit_at b u ≡ 1 → u < length hs → (get_or (woken p b hs) u fresh_thread).phase ≡ p
woken-in p b [] u h l = absurd (omega arith)
woken-in p b (x ∷ hs) zero h l = rw (eq-eqb (b % 2) 1 h)
woken-in p b (x ∷ hs) (suc u) h l = woken-in p (b / 2) hs u h (omega arith)

held-able : (g : Group) (b : Bool) → able_in (standing (holding g)) b ≡ b
unfolding standing
held-able g b = if-both (λ (p : Phase). able_in (standing p) b ≡ b) (is_writer g) (λ e. refl) (λ e. refl)

-- another thread than t, whose row it was, woken with the group g or not
others : (T able wanting t : ℕ) (s s' : State) (w : Wants) (g : Group) (me : Thread) → T ≤ length s.threads
    → s'.threads ≡ set (woken (holding g) g.members s.threads) t me → (u : ℕ) → u < T → u ≢ t
    → bit_at wanting u ≡ digit (some? (w u))
    → bit_at able u ≡ digit (able_in (standing (thread_at s u).phase) (some? (w u)))
    → bit_at (replaced able g.members wanting) u ≡ digit (able_in (standing (thread_at s' u).phase) (some? (w u)))
others T able wanting t s s' w g me few after u k n wants moves =
    rw (after, get_or-set_other (woken (holding g) g.members s.threads) t u me fresh_thread n)
    (elim (ℕ_discrete (bit_at g.members u) 1) [
      | yes i ↦
          rw (
            woken-in (holding g) g.members s.threads u i (omega arith),
            held-able g (some? (w u)),
            replaced-in able g.members wanting u i,
          ) wants
      | no i ↦
          let out : bit_at g.members u ≡ 0 = omega (arith, bit_le u g.members) in
          rw (
            woken-out (holding g) g.members s.threads u out,
            replaced-out able g.members wanting u out,
          ) moves
    ])

-- by the row of thread t, which has the set b in hand, from its entry e
module _ (b : ℕ) (z : Sizes) (s s' : State)
    (t o : ℕ) (e : Entry) (w : Wants) (os : List ℕ) (able wanting : ℕ) (inv : Inv z s) (lt : t < z.threads)
    (hand : InHand b (row_op z (thread_at s t).phase (record { thread = t; order = o })))
    (p : step z s (record { thread = t; order = o }) ≡ taken s' e)
    (a : Wanting z.threads wanting (now_wants t os w)) (h : Moving z.threads able s w) where
  abbrev own-op : Op
  own-op = row_op z (thread_at s t).phase (record { thread = t; order = o })

  wakes : Wakes b s t own-op s' e
  wakes = subst (WakesAfter b s t own-op) p (row-wakes b z s (record { thread = t; order = o }))

  -- who was woken, by the kind of the entry
  abbrev pub woken_by : ℕ
  woken_by = if eqb e.kind 9 then b else 0

  woken-is : wakes.group.members ≡ woken_by
  woken-is = elim (ℕ_discrete e.kind 9) [
    | yes k ↦ rw (eq-eqb e.kind 9 k) (wakes.in_hand k hand)
    | no k ↦ rw (ne_eqb e.kind 9 k) (wakes.nobody k)
  ]

  -- itself able to move
  abbrev own : Bool
  own = able_in (standing (thread_at s' t).phase) (some? os)

  pub moving-after : Moving z.threads (replaced (replaced able woken_by wanting) (only t) (only_if t own)) s'
      (now_wants t os w)
  moving-after =
      let few : z.threads ≤ length s.threads = omega (arith, inv.threads, inv.sizes.threads) in
      rw (← woken-is)
      (has-next z.threads (replaced able wakes.group.members wanting) t own _ lt
      (replaced-lt z.threads able wakes.group.members wanting h.within a.within)
      (rw (eq-eqb t t refl)) (λ u k n. rw (ne_eqb u t n) (others z.threads able wanting t s s' w wakes.group
      wakes.me few wakes.threads u k n (rw (ne_eqb u t n) at (a.has u k)) (h.has u k))))

-- ---- the set of the threads that want a call, thread by thread

-- the threads below t are in it as they should be, and no others
pub marked-none : (heads : List ℕ) (n : ℕ) → Marked 0 0 heads n
marked-none heads n = record { within = omega arith; has = λ u l. absurd (omega arith) }

pub marked_more : (t b : ℕ) (heads : List ℕ) (n : ℕ)
    → Marked t b heads n → Marked (t + 1) (replaced b (only t) (only_if t (ltb (get_or heads t 0) n))) heads n
marked_more t b heads n h =
    let more = has-next (t + 1) b t _ (λ u. ltb (get_or heads u 0) n) (omega arith)
    (omega (arith, h.within, pow_mono {i = t} {j = t + 1} (omega arith))) refl (λ u k m. h.has u (omega arith)) in
    record { within = more.within; has = more.has }
