-- The wake: a row by which a whole group comes to hold.
use Rattle.laws.proofs.Lock.{ℕ, zero, suc, ◌+◌, ◌*◌, ◌/◌, ◌%◌, ◌^◌, ◌≤◌, ◌<◌, ◌≡◌, refl, sym, subst, ap, ◌∙◌}
use Rattle.laws.proofs.Lock.{Bool, true, false, List, [], ◌∷◌, pow-suc, arith, ℕ_discrete, dec_lt, eqb, length}
use Rattle.laws.proofs.Lock.{get_or, length-set, eq-eqb, ne_eqb, zero-le, ◌≢◌, eqb-true, eqb-false}
use Rattle.std.specs.Prelude.{if◌then◌else◌}
use Rattle.laws.proofs.Lock.{List·getD-eq-default, at_set, woken-length, if-both, dec-both, Group}
use Rattle.laws.proofs.Lock.{is_writer, size, Phase, Thread, Sizes, State, fresh_thread, thread_at, with_threads}
use Rattle.laws.proofs.Lock.{goes, woken, holding, Writing, Reading}
use Rattle.laws.proofs.Sum.{sum_at, bit_at, bit-zero, bit_le, size_none, size_step}
use Rattle.laws.proofs.Role.{Role, nowhere, answering, waiting, handing, Whole, known, place, role, Right, tot}
use Rattle.laws.proofs.Role.{tot-set, tot-mem, bits_of, role_at, sums, Inv}

-- the threads of a set, each asleep before
abbrev Sleepers : Sizes → ℕ → List Thread → Type 0
Sleepers z b hs = (u : ℕ) → 0 < bit_at b u → role z (get_or hs u fresh_thread).phase ≡ waiting 0 1

woken-sum : (z : Sizes) (f : Role → ℕ) (p : Phase) (i b : ℕ) (hs : List Thread)
    → f (waiting 0 1) ≡ 0 → b < 2 ^ length hs → Sleepers z b hs
    → sum_at (λ j (h : Thread). f (role z h.phase)) i (woken p b hs)
    ≡ sum_at (λ j (h : Thread). f (role z h.phase)) i hs + size b * f (role z p)
woken-sum z f p i b [] n l a = let q : b ≡ 0 = omega arith in rw (q, size_none) (omega arith)
woken-sum z f p i b (h ∷ hs) n l a =
    let r = woken-sum z f p (suc i) (b / 2) hs n (omega (arith, pow-suc 2 (length hs))) (λ u. a (suc u)) in
    let o = size_step b in
    dec-both (ℕ_discrete (b % 2) 1)
    (λ k. let y : f (role z h.phase) ≡ 0 = ap f (a 0 (omega arith)) ∙ n in
    let v : size b ≡ 1 + size (b / 2) = omega arith in rw (eq-eqb (b % 2) 1 k, v) (omega arith))
    (λ k. let v : size b ≡ size (b / 2) = omega arith in rw (ne_eqb (b % 2) 1 k, v) (omega arith))

-- A fact of what a wake gives thread u: of one whose bit is set and that is there, woken; of another, as it was.
pub woken-each : (P : Thread → Type 0) (p : Phase) (b : ℕ) (hs : List Thread) (u : ℕ)
    → (0 < bit_at b u → P (record { phase = p; failures = (get_or hs u fresh_thread).failures }))
    → ((0 < bit_at b u → length hs ≤ u) → P (get_or hs u fresh_thread)) → P (get_or (woken p b hs) u fresh_thread)
woken-each P p b [] u f g = g (λ a. zero-le)
woken-each P p b (x ∷ hs) zero f g =
    if-both P (eqb (b % 2) 1) (λ e. f (omega (arith, eqb-true (b % 2) 1 e)))
    (λ e. let n : b % 2 ≢ 1 = eqb-false (b % 2) 1 e in g (λ a. absurd (omega arith)))
woken-each P p b (x ∷ hs) (suc u) f g = woken-each P p (b / 2) hs u f (λ k. g (λ a. omega (arith, k a)))

pub woken-out : (p : Phase) (b : ℕ) (hs : List Thread) (u : ℕ)
    → bit_at b u ≡ 0 → get_or (woken p b hs) u fresh_thread ≡ get_or hs u fresh_thread
woken-out p b hs u h =
    woken-each (λ (x : Thread). x ≡ get_or hs u fresh_thread) p b hs u (λ a. absurd (omega arith)) (λ k. refl)

-- the role of who is woken, as a writer or as a reader; together they stand for what their waker did, but for its own x
-- arrivals
abbrev held : Bool → Role
held b = record {
  owes = nowhere;
  direct = if b then 0 else 1;
  own = if b then 1 else 0;
  last = 0;
  joins = 0;
  inmutex = 0;
  hand = 0;
  waits = 0;
  sleeps = 0;
}

holds : (z : Sizes) (b : Bool) → role z (if b then Writing else Reading 0) ≡ held b
unfolding place
holds z true = refl
holds z false = refl

shares : (b : Bool) (n x : ℕ) → (b ≡ true → n ≡ 1)
    → (n * (held b).direct + x ≡ x + (if b then 0 else n)) × (n * (held b).own ≡ (if b then 1 else 0))
shares true n x h = let e = h refl in omega arith
shares false n x h = omega arith

module _ (z : Sizes) (s : State) (t : ℕ)
    (inv : Inv z s) (l : t < 64) (g : Group) (x : ℕ) (p : Phase) (e : role_at z s t ≡ handing 0 x g) (w : Whole g)
    (o : role z p ≡ answering x nowhere) (ok : Right z p) where
  pub waking : Inv z (goes (with_threads s (woken (holding g) g.members s.threads)) t p)
  unfolding place
  waking =
      record {
        sizes = inv.sizes;
        words = inv.words;
        threads = length-set hs t _ ∙ woken-length (holding g) g.members s.threads ∙ inv.threads;
        plainly = inv.plainly;
        flag = inv.flag;
        direct = omega (arith, inv.direct, sum (λ r. r.direct) refl, k.0);
        counts = λ c. omega (arith, inv.counts c, sum (λ r. r.owes c) refl);
        owner = omega (arith, inv.owner, sum (λ r. r.own) refl, k.1);
        mutex = omega (arith, inv.mutex, sum (λ r. r.inmutex) refl);
        queued =
            λ u. at_set (λ (h : Thread). bits_of u s.queue + tot z (λ r. bit_at r.hand u) after
            ≡ (role z h.phase).waits) hs t u _ in-hs
            (λ i. rw (i, o) (omega (arith, inv.queued t, hand t, ap (λ (r : Role). r.waits) e)))
            (λ n. each u (λ (p : Phase). bits_of u s.queue + tot z (λ r. bit_at r.hand u) after ≡ (role z p).waits)
            (λ a. rw (holds z (is_writer g))
            (omega (arith, inv.queued u, hand u, bit_le u g.members, ap (λ (r : Role). r.waits) (down u a))))
            (λ a. omega (arith, inv.queued u, hand u)));
        handed =
            λ u. at_set (λ (h : Thread). tot z (λ r. bit_at r.hand u) after ≤ (role z h.phase).sleeps)
            hs t u _ in-hs
            (λ i. rw (i, o) (omega (arith, inv.handed t, hand t, ap (λ (r : Role). r.sleeps) e)))
            (λ n. each u (λ (p : Phase). tot z (λ r. bit_at r.hand u) after ≤ (role z p).sleeps)
            (λ a. omega (arith, inv.handed u, hand u, bit_le u g.members, ap (λ (r : Role). r.sleeps) (down u a)))
            (λ a. omega (arith, inv.handed u, hand u)));
        writers = omega (arith, inv.writers, sum (λ r. r.last) refl, sum (λ r. r.joins) refl);
        named = inv.named;
        right =
            λ u. at_set (λ (h : Thread). Right z h.phase) hs t u _ in-hs (λ i. ok)
            (λ n. each u (Right z) (λ a. if-both (Right z) (is_writer g) (λ e. tt) (λ e. inv.sizes.nodes_least))
            (λ a. inv.right u));
      }
    where
      hs : List Thread
      hs = woken (holding g) g.members s.threads

      after : List Thread
      after = (goes (with_threads s hs) t p).threads

      in-hs : t < length hs
      in-hs = omega (arith, woken-length (holding g) g.members s.threads, inv.threads)

      mine : (f : Role → ℕ) → f (handing 0 x g) ≤ sums z s f
      mine f = subst (λ (r : Role). f r ≤ sums z s f) e (tot-mem z f s.threads t (omega (arith, inv.threads)))

      down : Sleepers z g.members s.threads
      down u h =
          (known (place z (thread_at s u).phase)).sleeps (omega (arith, inv.handed u, mine (λ r. bit_at r.hand u)))

      out : bit_at g.members t ≡ 0
      out = omega (arith, inv.handed t, mine (λ r. bit_at r.hand t), ap (λ (r : Role). r.sleeps) e)

      still : role z (get_or hs t fresh_thread).phase ≡ handing 0 x g
      still = ap (λ (h : Thread). role z h.phase) (woken-out (holding g) g.members s.threads t out) ∙ e

      k : (size g.members * (held (is_writer g)).direct + x ≡ (handing 0 x g).direct)
          × (size g.members * (held (is_writer g)).own ≡ (handing 0 x g).own)
      k = shares (is_writer g) (size g.members) x w.alone

      sum : (f : Role → ℕ) → f (waiting 0 1) ≡ 0 → tot z f after + f (handing 0 x g)
          ≡ sums z s f + size g.members * f (held (is_writer g)) + f (answering x nowhere)
      sum f h =
          let a = tot-set z f hs t (record { phase = p; failures = (get_or hs t fresh_thread).failures }) in-hs in
          let b = woken-sum z f (holding g) 0
          g.members s.threads h (subst (λ (x : ℕ). g.members < 2 ^ x) (sym inv.threads) w.within) down in
          omega (arith, a, rw (holds z (is_writer g)) at b, ap f still, ap f o)

      hand : (u : ℕ) → tot z (λ r. bit_at r.hand u) after + bit_at g.members u ≡ sums z s (λ r. bit_at r.hand u)
      hand u = omega (arith, rw (bit-zero u) at (sum (λ r. bit_at r.hand u) (bit-zero u)))

      -- another thread: woken from its sleep, or as it was
      each : (u : ℕ) (P : Phase → Type 0) → (0 < bit_at g.members u → P (holding g))
          → (bit_at g.members u ≡ 0 → P (thread_at s u).phase) → P (get_or hs u fresh_thread).phase
      each u P f k =
          woken-each (λ (h : Thread). P h.phase) (holding g) g.members s.threads u f
          (λ n. k (dec-both (dec_lt 0 (bit_at g.members u)) (λ a. absurd (omega (
            arith,
            ap (λ (r : Role). r.waits)
                (rw (List·getD-eq-default s.threads fresh_thread {n = u} (n a)) at (down u a)),
          ))) (λ a. omega arith)))
