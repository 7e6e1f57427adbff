-- Facts of words, nodes, groups and sums.
use Rattle.laws.proofs.Lock.{ℕ, zero, suc, ◌+◌, ◌*◌, ◌-◌, ◌^◌, ◌≤◌, ◌<◌, zero-le, min, ◌≡◌, refl, sym, subst, ap}
use Rattle.laws.proofs.Lock.{◌∙◌, ◌≢◌, Bool, true, false, ◌&&◌, List, [], ◌∷◌, ◌++◌, Option, none, some, le_refl}
use Rattle.laws.proofs.Lock.{not-suc-le-zero, arith, ℕ_discrete, dec_lt, eqb, length, get_or, set, length-set}
use Rattle.laws.proofs.Lock.{length-append, List·getD-eq-default, get_or-set_other, eqb-true, eqb-false, eq-eqb}
use Rattle.laws.proofs.Lock.{ltb-true, if-both, parent-lt, on-le, toward-parent, toward-on, toward-lt, dec-both}
use Rattle.std.specs.Prelude.{if◌then◌else◌}
use Rattle.laws.proofs.Lock.{Word, opened, closed, is_closed, total, is_sole, same, parent, readers}
use Rattle.laws.proofs.Lock.{writer, only, Waiters, join_reader, join_writer, writer_queued, Then, Leaving}
use Rattle.laws.proofs.Lock.{Upgrading, Inside, Phase, Thread, Sizes, arrived, ended, State, fresh_thread, word_at}
use Rattle.laws.proofs.Lock.{All, clash}
use lib.Bits.{or_lt}
use Rattle.laws.proofs.Sum.{sum-le, sum-mem, at, at_self, at_other, bit-or, bit-pow, size-pow, pow-lt}
use Rattle.laws.proofs.Role.{Role, answering, owing, blank, direct_then, owes_then, Whole, Place, role_of, RightOf}
use Rattle.laws.proofs.Role.{ticket, Path, Follows, place, role, Right, tot, tot-set, tot-mem, node_at, kid, kids}
use Rattle.laws.proofs.Role.{numbers_of, bits_of, writers_of, Named, zero_shut, some_shut, is_taken, Inv}

-- ---- words

and_parts : (a b : Bool) → (a && b) ≡ true → (a ≡ true) × (b ≡ true)
and_parts true b e = (refl, e)
and_parts false b e = (e, cc)

pub word-eq : (v u : Word) → v.direct ≡ u.direct → v.tree ≡ u.tree → v.closed ≡ u.closed → v ≡ u
word-eq v u d n c = λ i. record { direct = d i; tree = n i; closed = c i }

pub same-eq : (v u : Word) → same v u ≡ true → v ≡ u
same-eq v u e =
    let (b, c) = and_parts (eqb v.direct u.direct && eqb v.tree u.tree) _ e in
    let (d, n) = and_parts (eqb v.direct u.direct) _ b in
    word-eq v u (eqb-true _ _ d) (eqb-true _ _ n) (eqb-true _ _ c)

pub same-ne : (v u : Word) → same v u ≡ false → v.direct ≡ u.direct → v.closed ≡ u.closed → v.tree ≢ u.tree
same-ne v u e d c n =
    let q : true ≡ false = rw (eq-eqb _ _ d, eq-eqb _ _ n, eq-eqb _ _ c) at e in clash cc

pub sole : (v : Word) → is_sole v ≡ true → (v.direct ≡ 1) × (v.tree ≡ 0)
sole v e = let (p, q) = and_parts (eqb v.direct 1) _ e in (eqb-true _ _ p, eqb-true _ _ q)

-- of words (0, 0, closed), and closed with more, by whether they are closed
pub zero-pos : (v : Word) → 0 < total v → zero_shut v ≡ 0
zero-pos v h = if-both (λ (x : ℕ). x ≡ 0) (is_closed v) (λ e. omega arith) (λ e. refl)

pub zero-not : (v : Word) → same v (closed 0 0) ≡ false → zero_shut v ≡ 0
zero-not v e =
    if-both (λ (x : ℕ). x ≡ 0) (is_closed v)
    (λ q. dec-both (dec_lt 0 (total v)) (λ a. omega arith)
    (λ a. absurd (same-ne v (closed 0 0) e (omega arith) (eqb-true _ _ q) (omega arith)))) (λ q. refl)

pub zero-open : (v : Word) → is_closed v ≡ false → zero_shut v ≡ 0
zero-open v e = rw e

-- two words, both closed or both open, and neither (0, 0, closed)
pub some_same : (v u : Word) → u.closed ≡ v.closed → zero_shut v ≡ 0 → zero_shut u ≡ 0 → some_shut u ≡ some_shut v
some_same v u c a b = rw c (from (is_closed v) a (rw c at b))
  where
    from : (q : Bool) → (if q then 1 - total v else 0) ≡ 0 → (if q then 1 - total u else 0) ≡ 0
        → (if q then min (total u) 1 else 0) ≡ (if q then min (total v) 1 else 0)
    from true a b = omega arith
    from false a b = refl

pub zero-closed : (v : Word) → zero_shut v ≡ 1 → v ≡ closed 0 0
zero-closed v =
    if-both (λ (n : ℕ). n ≡ 1 → v ≡ closed 0 0) (is_closed v)
    (λ p q. word-eq v (closed 0 0) (omega arith) (omega arith) (eqb-true _ _ p)) (λ p q. absurd (omega arith))

pub zero-some : (v : Word) → zero_shut v ≡ 1 → some_shut v ≡ 0
zero-some v e = ap some_shut (zero-closed v e)

pub zero-le-one : (v : Word) → zero_shut v ≤ 1
zero-le-one v = if-both (λ (x : ℕ). x ≤ 1) (is_closed v) (λ e. omega arith) (λ e. zero-le)

pub taken-le : (m : Option ℕ) → is_taken m ≤ 1
taken-le none = zero-le
taken-le (some t) = le_refl 1

-- ---- nodes

pub kid-pos : (F c w : ℕ) (v : Word) → 0 < v.tree → kid F c w v ≡ node_at F c w
kid-pos F c w v h = let e : min v.tree 1 ≡ 1 = omega arith in rw e (omega arith)

pub kid-none : (F c w : ℕ) (v : Word) → v.tree ≡ 0 → kid F c w v ≡ 0
kid-none F c w v h = let e : min v.tree 1 ≡ 0 = omega arith in rw e (omega arith)

pub node_at-pos : (F c w : ℕ) → 0 < w → node_at F c w ≡ at (parent F w) c
node_at-pos F c zero h = absurd (omega arith)
node_at-pos F c (suc w) h = refl

pub sub-mul : (a b : ℕ) → 0 < a → (a - 1) * b + b ≡ a * b
sub-mul zero b h = absurd (omega arith)
sub-mul (suc a) b h = let q : suc a - 1 ≡ a = omega arith in rw q (omega arith)

pub path-in : (z : Sizes) (c n : ℕ) → Path z c n → c < z.nodes
path-in z c n h = omega (arith, h.route, on-le z.fan n c h.on)

-- a count above 0 at a node shows at the root
module _ (z : Sizes) (s : State) (inv : Inv z s) where
  node_in : (w : ℕ) → 0 < (word_at s w).tree → w < length s.words
  node_in w h =
      dec-both (dec_lt w (length s.words)) (λ a. a)
      (λ a. let q = List·getD-eq-default s.words (opened 0 0) {n = w} (omega arith) in
      absurd (omega (arith, ap (λ (v : Word). v.tree) q)))

  kid-above : (w : ℕ) → 0 < w → 0 < (word_at s w).tree → 1 ≤ kids z.fan (parent z.fan w) s.words
  kid-above w pos h =
      let i : 0 + w ≡ w = omega arith in
      let F = z.fan in
      let q = subst (λ (x : ℕ). kid F (parent F w) x (word_at s w) ≤ kids F (parent F w) s.words) i
      (sum-mem (kid F (parent F w)) 0 s.words w (opened 0 0) (node_in w h)) in
      omega (arith, q, kid-pos F (parent F w) w (word_at s w) h, node_at-pos F (parent F w) w pos, at_self (parent F w))

  pub up_root : (k w : ℕ) → w ≤ k → 0 < w → 0 < (word_at s w).tree → 1 ≤ kids z.fan 0 s.words
  up_root zero w le pos h = absurd (omega arith)
  up_root (suc k) w le pos h =
      let a = kid-above w pos h in
      dec-both (ℕ_discrete (parent z.fan w) 0) (λ q. subst (λ (x : ℕ). 1 ≤ kids z.fan x s.words) q a)
      (λ q. up_root k (parent z.fan w) (omega (arith, parent-lt z.fan w pos)) (omega arith)
      (omega (arith, inv.counts (parent z.fan w))))

  -- and so does one at any word
  pub word_count : (c : ℕ) → 0 < (word_at s c).tree → 0 < (word_at s 0).tree
  word_count c h =
      dec-both (ℕ_discrete c 0) (λ q. subst (λ (x : ℕ). 0 < (word_at s x).tree) q h)
      (λ q. omega (arith, inv.counts 0, up_root c c (le_refl c) (omega arith) h))

-- ---- the way down, and the end of a departure

-- a ticket above 0 is for a node
pub ticket-role : (R : Type 0) (n : ℕ) → 0 < n → role_of (ticket n R) ≡ owing (at n)
ticket-role R zero h = absurd (not-suc-le-zero h)
ticket-role R (suc n) h = refl

pub ticket-right : (R : Type 0) (n : ℕ) → R → RightOf (ticket n R)
ticket-right R zero h = h
ticket-right R (suc n) h = h

pub arrived-role : (z : Sizes) (c n : ℕ) → Path z c n → role z (arrived z.fan c n) ≡ owing (at c)
unfolding place
arrived-role z c n h =
    if-both (λ (p : Phase). role z p ≡ owing (at c)) (eqb c n)
    (λ k. ticket-role (n < z.nodes) n h.below ∙ ap (λ (x : ℕ). owing (at x)) (sym (eqb-true c n k)))
    (λ k. let x : c ≢ n = eqb-false c n k in ap (λ (x : ℕ). owing (at x)) (toward-parent z.fan n c
    (omega (arith, on-le z.fan n c h.on)) h.on))

pub arrived-right : (z : Sizes) (c n : ℕ) → Path z c n → Right z (arrived z.fan c n)
unfolding place
arrived-right z c n h =
    if-both (Right z) (eqb c n) (λ k. ticket-right (n < z.nodes) n h.route)
    (λ k. let x : c ≢ n = eqb-false c n k in
    let l : c < n = omega (arith, on-le z.fan n c h.on) in (
      record { route = h.route; below = h.below; on = toward-on z.fan n c l },
      omega (arith, toward-lt z.fan n c l),
    ))

abbrev pub owes_end : Then → ℕ → ℕ
owes_end Leaving c = 0
owes_end Upgrading c = 0
owes_end (Inside n b) c = at b c

pub owes-then : (k : Then) (d c : ℕ) → owes_then k d c ≡ at d c + owes_end k c
owes-then Leaving d c = omega arith
owes-then Upgrading d c = omega arith
owes-then (Inside n b) d c = refl

pub ended-role : (z : Sizes) (k : Then)
    → Follows z k → role z (ended z.fan k false) ≡ answering (direct_then k) (owes_end k)
unfolding place
ended-role z Leaving r = refl
ended-role z Upgrading r = refl
ended-role z (Inside n b) r = arrived-role z b n r.0

pub ended-right : (z : Sizes) (k : Then) (last : Bool) → Follows z k → Right z (ended z.fan k last)
unfolding place
ended-right z Leaving true r = tt
ended-right z Leaving false r = tt
ended-right z Upgrading last r = tt
ended-right z (Inside n b) last r = arrived-right z b n r.0

-- ---- the queue

-- the stored number tells whether a writer is there
pub any-writers : (q : Waiters) → Named q → writer_queued q ≡ true → 1 ≤ writers_of q
any-writers q a e = omega (arith, a.tally, ltb-true 0 q.waiting e)

pub readers-whole : (b : ℕ) → b < 2 ^ 64 → Whole (readers b)
readers-whole b l = record { within = l; alone = λ e. cc }

pub writer-whole : (t : ℕ) → t < 64 → Whole (writer (only t))
writer-whole t l = record { within = pow-lt t 64 l; alone = λ e. size-pow t }

-- thread t has joined the queue q, which is now q'
pub record Joined (t : ℕ) (q q' : Waiters) (more : ℕ) : Type 0 where
  pub bits : (u : ℕ) → bits_of u q' ≡ bits_of u q + at t u
  pub writers : writers_of q' ≡ writers_of q + more
  pub named : Named q'

pub join-reader : (t : ℕ) (q : Waiters) → t < 64 → bits_of t q ≡ 0 → Named q → Joined t q (join_reader t q) 0
join-reader t q l z a =
    record {
      bits =
          λ u. dec-both (ℕ_discrete u t)
          (λ k. rw k (omega (arith, bit-or t q.readers (only t), bit-pow t t, at_self t)))
          (λ k. omega (arith, bit-or u q.readers (only t), bit-pow t u, at_other t u k));
      writers = omega arith;
      named = record {
        set = or_lt 64 q.readers (only t) a.set (pow-lt t 64 l);
        numbers = a.numbers;
        tally = a.tally;
      };
    }

pub numbers-behind : (u t : ℕ) (ws : List ℕ) → numbers_of u (ws ++ t ∷ []) ≡ numbers_of u ws + at t u
numbers-behind u t [] = omega (arith, bit-pow t u)
numbers-behind u t (w ∷ ws) = omega (arith, numbers-behind u t ws)

all-behind : (t : ℕ) (ws : List ℕ) → t < 64 → All (λ (w : ℕ). w < 64) ws → All (λ (w : ℕ). w < 64) (ws ++ t ∷ [])
all-behind t [] l a = (l, tt)
all-behind t (w ∷ ws) l a = (a.0, all-behind t ws l a.1)

pub join-writer : (t : ℕ) (q : Waiters) → t < 64 → Named q → Joined t q (join_writer t q) 1
join-writer t q l a =
    record {
      bits = λ u. omega (arith, numbers-behind u t q.writers);
      writers = length-append q.writers (t ∷ []);
      named = record {
        set = a.set;
        numbers = all-behind t q.writers l a.numbers;
        tally = omega (arith, a.tally, length-append q.writers (t ∷ []));
      };
    }

-- ---- sums

-- where each role has no more of f than of g, the others have no more
pub rest_le : (z : Sizes) (f g : Role → ℕ) → ((x : Place) → f (role_of x) ≤ g (role_of x))
    → f blank ≡ 0 → g blank ≡ 0 → (hs : List Thread) (t : ℕ) → t < length hs
    → tot z f hs + g (role z (get_or hs t fresh_thread).phase)
    ≤ tot z g hs + f (role z (get_or hs t fresh_thread).phase)
unfolding place
rest_le z f g h a b hs t l =
    omega (
      arith,
      tot-set z f hs t fresh_thread l,
      tot-set z g hs t fresh_thread l,
      sum-le (λ i (x : Thread). f (role z x.phase))
          (λ i (x : Thread). g (role z x.phase)) 0 (set hs t fresh_thread) (λ j x. h (place z x.phase)),
    )

-- what two threads add to a sum: without the first, the second is still there
pub tot-two : (z : Sizes) (f : Role → ℕ)
    → f blank ≡ 0 → (hs : List Thread) (t u : ℕ) → t < length hs → u < length hs → t ≢ u
    → f (role z (get_or hs t fresh_thread).phase) + f (role z (get_or hs u fresh_thread).phase) ≤ tot z f hs
unfolding place
tot-two z f b hs t u l k n =
    let m = tot-mem z f (set hs t fresh_thread) u (omega (arith, length-set hs t fresh_thread)) in
    omega
    (arith, tot-set z f hs t fresh_thread l, rw (get_or-set_other hs t u fresh_thread fresh_thread (λ e. n (sym e))) at m)
