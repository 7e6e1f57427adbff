-- One thread moves: what it has to show for the invariant to hold afterwards.
use Rattle.laws.proofs.Lock.{ℕ, ◌+◌, ◌*◌, ◌≤◌, ◌<◌, min, ◌≡◌, subst, ◌∙◌, ◌≢◌, List, Option, arith, ℕ_discrete}
use Rattle.laws.proofs.Lock.{length, get_or, set, length-set, get_or-set_same, get_or-set_other, at_set, dec-both}
use Rattle.laws.proofs.Lock.{Word, opened, Waiters, Phase, Thread, Sizes, State, word_at}
use Rattle.laws.proofs.Sum.{sum-set, bit_at, at, at_self, at_other}
use Rattle.laws.proofs.Role.{Role, role, Right, tot, tot-set, kid, kids, bits_of, writers_of, Named, zero_shut}
use Rattle.laws.proofs.Role.{some_shut, is_taken, role_at, sums, NodeWord, Inv, moves}

-- what a thread of role r that goes on to r' has to show, the words becoming ws, the mutex m and the queue q
pub record Turn (z : Sizes)
    (s : State) (t : ℕ) (r r' : Role) (ws : List Word) (m : Option ℕ) (q : Waiters) : Type 0 where
  pub words : length ws ≡ 32
  pub plainly : (w : ℕ) → 0 < w → NodeWord (get_or ws w (opened 0 0))
  pub flag : (get_or ws 0 (opened 0 0)).closed ≤ 1
  pub direct : (get_or ws 0 (opened 0 0)).direct + r.direct ≡ (word_at s 0).direct + r'.direct
  pub counts : (c : ℕ) → (get_or ws c (opened 0 0)).tree + r.owes c + kids z.fan c s.words
      ≡ (word_at s c).tree + r'.owes c + kids z.fan c ws
  pub owner : zero_shut (get_or ws 0 (opened 0 0)) + r.own ≡ zero_shut (word_at s 0) + r'.own
  pub mutex : is_taken m + r.inmutex ≡ is_taken s.mutex + r'.inmutex
  pub queued : (u : ℕ) → u ≢ t → bits_of u q + bit_at r'.hand u ≡ bits_of u s.queue + bit_at r.hand u
  pub queues : bits_of t q + bit_at r'.hand t + r.waits ≡ bits_of t s.queue + bit_at r.hand t + r'.waits
  pub handed : (u : ℕ) → u ≢ t
      → sums z s (λ r. bit_at r.hand u) + bit_at r'.hand u ≤ (role_at z s u).sleeps + bit_at r.hand u
  pub hands : sums z s (λ r. bit_at r.hand t) + bit_at r'.hand t ≤ r'.sleeps + bit_at r.hand t
  pub writers :
      (L J : ℕ) → L + r.last ≡ sums z s (λ r. r.last) + r'.last → J + r.joins ≡ sums z s (λ r. r.joins) + r'.joins
      → min (some_shut (get_or ws 0 (opened 0 0)) + L) 1 ≤ writers_of q + J
  pub named : Named q

module _ (z : Sizes) (s : State) (t : ℕ) (inv : Inv z s) (l : t < 64) where
  pub in-threads : t < length s.threads
  in-threads = omega (arith, inv.threads)

  pub turned : (ws : List Word) (m : Option ℕ) (q : Waiters) (p' : Phase) (f : ℕ)
      → Turn z s t (role_at z s t) (role z p') ws m q → Right z p'
      → Inv z (moves t ws m q s.threads p' f)
  turned ws m q p' f k right' =
      record {
        sizes = inv.sizes;
        words = k.words;
        threads = length-set s.threads t _ ∙ inv.threads;
        plainly = k.plainly;
        flag = k.flag;
        direct = omega (arith, k.direct, sum (λ r. r.direct), inv.direct);
        counts = λ c. omega (arith, k.counts c, sum (λ r. r.owes c), inv.counts c);
        owner = omega (arith, k.owner, sum (λ r. r.own), inv.owner);
        mutex = omega (arith, k.mutex, sum (λ r. r.inmutex), inv.mutex);
        queued =
            λ u. at_set (λ (h : Thread). bits_of u q + tot z (λ r. bit_at r.hand u)
            (set s.threads t (record { phase = p'; failures = f })) ≡ (role z h.phase).waits)
            s.threads t u _ in-threads
            (λ e. rw e (omega (arith, k.queues, sum (λ r. bit_at r.hand t), inv.queued t)))
            (λ n. omega (arith, k.queued u n, sum (λ r. bit_at r.hand u), inv.queued u));
        handed =
            λ u. at_set (λ (h : Thread). tot z (λ r. bit_at r.hand u)
            (set s.threads t (record { phase = p'; failures = f })) ≤ (role z h.phase).sleeps)
            s.threads t u _ in-threads
            (λ e. rw e (omega (arith, k.hands, sum (λ r. bit_at r.hand t))))
            (λ n. omega (arith, k.handed u n, sum (λ r. bit_at r.hand u)));
        writers = k.writers _ _ (sum (λ r. r.last)) (sum (λ r. r.joins));
        named = k.named;
        right = λ u. at_set (λ (h : Thread). Right z h.phase)
            s.threads t u _ in-threads (λ e. right') (λ n. inv.right u);
      }
    where
      sum : (g : Role → ℕ) → tot z g (set s.threads t (record { phase = p'; failures = f })) + g (role_at z s t)
          ≡ tot z g s.threads + g (role z p')
      sum g = tot-set z g s.threads t _ in-threads

-- ---- a word written

set-count : (ws : List Word) (w c : ℕ) (new : Word) → w < length ws
    → (get_or (set ws w new) c (opened 0 0)).tree + (get_or ws w (opened 0 0)).tree * at w c
    ≡ (get_or ws c (opened 0 0)).tree + new.tree * at w c
set-count ws w c new h =
    dec-both (ℕ_discrete c w) (λ e. rw (e, get_or-set_same ws w new (opened 0 0) h, at_self w) (omega arith))
    (λ n. rw (get_or-set_other ws w c new (opened 0 0) n, at_other w c n) (omega arith))

set-kids : (F : ℕ) (ws : List Word) (w c : ℕ) (new : Word) → w < length ws
    → kids F c (set ws w new) + kid F c w (get_or ws w (opened 0 0)) ≡ kids F c ws + kid F c w new
set-kids F ws w c new h =
    let e : 0 + w ≡ w = omega arith in
    subst (λ (x : ℕ). kids F c (set ws w new) + kid F c x (get_or ws w (opened 0 0)) ≡ kids F c ws + kid F c x new) e
    (sum-set (kid F c) 0 ws w new (opened 0 0) h)

set-plainly : (ws : List Word) (w : ℕ) (new : Word)
    → w < length ws → (0 < w → NodeWord new) → ((x : ℕ) → 0 < x → NodeWord (get_or ws x (opened 0 0)))
    → (x : ℕ) → 0 < x → NodeWord (get_or (set ws w new) x (opened 0 0))
set-plainly ws w new h k f x l =
    dec-both (ℕ_discrete x w) (λ e. rw (e, get_or-set_same ws w new (opened 0 0) h) (k (omega arith)))
    (λ n. rw (get_or-set_other ws w x new (opened 0 0) n) (f x l))

-- the roles agree on mutex, hand and waiting
pub record Kin (r r' : Role) : Type 0 where
  pub inmutex : r'.inmutex ≡ r.inmutex
  pub hand : r'.hand ≡ r.hand
  pub waits : r'.waits ≡ r.waits
  pub sleeps : r.sleeps ≤ r'.sleeps
  pub joins : r.joins ≤ r'.joins

module _ (z : Sizes) (s : State) (t : ℕ) (inv : Inv z s) (r r' : Role) (e : role_at z s t ≡ r) where
  -- the words as they are: only the mutex, the sleep and a coming writer may differ
  pub calm-turn : (m : Option ℕ) → ((c : ℕ) → r'.owes c ≡ r.owes c) → r'.direct ≡ r.direct
      → r'.own ≡ r.own → r'.last ≡ r.last → is_taken m + r.inmutex ≡ is_taken s.mutex + r'.inmutex
      → r'.hand ≡ r.hand → r'.waits ≡ r.waits → r.sleeps ≤ r'.sleeps → r.joins ≤ r'.joins
      → Turn z s t r r' s.words m s.queue
  calm-turn m ow di o la mu ha wa sl jo =
      record {
        words = inv.words;
        plainly = inv.plainly;
        flag = inv.flag;
        direct = omega arith;
        counts = λ c. omega (arith, ow c);
        owner = omega arith;
        mutex = mu;
        queued = λ u n. rw ha;
        queues = rw ha (omega arith);
        handed = λ u n. rw ha (omega (arith, inv.handed u));
        hands = rw ha (omega (arith, rw e at (inv.handed t)));
        writers = λ L J a b. omega (arith, inv.writers);
        named = inv.named;
      }

  write-turn : (w : ℕ) (new : Word)
      → w < 32 → (0 < w → NodeWord new) → (get_or (set s.words w new) 0 (opened 0 0)).closed ≤ 1 → Kin r r'
      → (get_or (set s.words w new) 0 (opened 0 0)).direct + r.direct ≡ (word_at s 0).direct + r'.direct
      → ((c : ℕ) → new.tree * at w c + r.owes c + kid z.fan c w (word_at s w)
      ≡ (word_at s w).tree * at w c + r'.owes c + kid z.fan c w new)
      → zero_shut (get_or (set s.words w new) 0 (opened 0 0)) + r.own ≡ zero_shut (word_at s 0) + r'.own
      → some_shut (get_or (set s.words w new) 0 (opened 0 0)) + r'.last + r.joins
      ≤ some_shut (word_at s 0) + r.last + r'.joins + writers_of s.queue
      → Turn z s t r r' (set s.words w new) s.mutex s.queue
  write-turn w new h pl fl k di cnt o wr =
      let lw : w < length s.words = omega (arith, inv.words) in
      let ha = k.hand in
      record {
        words = length-set s.words w new ∙ inv.words;
        plainly = set-plainly s.words w new lw pl inv.plainly;
        flag = fl;
        direct = di;
        counts = λ c. omega (arith, cnt c, set-count s.words w c new lw, set-kids z.fan s.words w c new lw);
        owner = o;
        mutex = omega (arith, k.inmutex);
        queued = λ u n. rw ha;
        queues = rw ha (omega (arith, k.waits));
        handed = λ u n. rw ha (omega (arith, inv.handed u));
        hands = rw ha (omega (arith, k.sleeps, rw e at (inv.handed t)));
        writers = λ L J a b. omega (arith, inv.writers, wr, k.joins);
        named = inv.named;
      }

  -- a node: the root stays
  pub node-turn : (w : ℕ) (new : Word)
      → 0 < w → w < z.nodes → NodeWord new → Kin r r' → r'.direct ≡ r.direct → r'.own ≡ r.own → r'.last ≡ r.last
      → ((c : ℕ) → new.tree * at w c + r.owes c + kid z.fan c w (word_at s w)
      ≡ (word_at s w).tree * at w c + r'.owes c + kid z.fan c w new)
      → Turn z s t r r' (set s.words w new) s.mutex s.queue
  node-turn w new p h pl k di o la cnt =
      let q = get_or-set_other s.words w 0 new (opened 0 0) (λ x. omega arith) in
      write-turn w new (omega (arith, inv.sizes.nodes)) (λ x. pl)
      (rw q inv.flag) k (rw (q, di)) cnt (rw (q, o)) (rw q (omega (arith, k.joins)))

  -- the root, which has v
  pub root-turn : (v new : Word) → word_at s 0 ≡ v → new.closed ≤ 1 → Kin r r'
      → new.direct + r.direct ≡ v.direct + r'.direct
      → ((c : ℕ) → new.tree * at 0 c + r.owes c ≡ v.tree * at 0 c + r'.owes c)
      → zero_shut new + r.own ≡ zero_shut v + r'.own
      → some_shut new + r'.last + r.joins ≤ some_shut v + r.last + r'.joins + writers_of s.queue
      → Turn z s t r r' (set s.words 0 new) s.mutex s.queue
  root-turn v new i fl k di cnt o wr =
      let q = get_or-set_same s.words 0 new (opened 0 0) (omega (arith, inv.words)) in
      write-turn 0 new (omega arith) (λ x. absurd (omega arith))
      (rw q fl) k (rw (q, i) di) (λ c. rw i (omega (arith, cnt c))) (rw (q, i) o) (rw (q, i) wr)
