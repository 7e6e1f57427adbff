-- Every row of the pseudocode shows what its operation has to.
use Rattle.laws.proofs.Lock.{ℕ, zero, suc, ◌+◌, ◌*◌, ◌-◌, ◌≤◌, ◌<◌, zero-le, min, ◌≡◌, refl, sym, subst, ap, ap₂}
use Rattle.laws.proofs.Lock.{◌≢◌, Bool, true, false, List, ◌∷◌, le_refl, arith, eqb, length, set, eqb-true}
use Rattle.laws.proofs.Lock.{eqb-false, eq-eqb, if-both, parent-le, on-start, on-parent, Word, opened, closed}
use Rattle.laws.proofs.Lock.{is_closed, total, is_zero, same, up, down, up_direct, down_direct, shut, parent, Group}
use Rattle.laws.proofs.Lock.{readers, writer, only, size, Waiters, with_readers, with_writers, writer_queued, Then}
use Rattle.laws.proofs.Lock.{Leaving, Upgrading, Inside, Phase, Sizes, op, looked, climbed, arrived, settled}
use Rattle.laws.proofs.Lock.{ended, departed, write_looked, write_found, stored, upgrade_found, downgraded, State}
use Rattle.laws.proofs.Lock.{word_at, thread_at, granted, All}
use Rattle.laws.proofs.Sum.{bit_at, at, at_self, at_other, bit-zero, size_none, size-pos}
use Rattle.laws.proofs.Role.{Role, nowhere, answering, owing, plain, waiting, storing, handing, blank, entered}
use Rattle.laws.proofs.Role.{direct_then, owes_then, Whole, Path, Under, Follows, place, role, Right, kid}
use Rattle.laws.proofs.Role.{numbers_of, bits_of, writers_of, Named, zero_shut, some_shut, role_at, sums, NodeWord}
use Rattle.laws.proofs.Role.{Inv}
use Rattle.laws.proofs.Keep.{Turn, Kin, calm-turn, node-turn, root-turn}
use Rattle.laws.proofs.Facts.{sole, same-eq, same-ne, zero-pos, zero-not, zero-open, zero-closed, zero-some}
use Rattle.laws.proofs.Facts.{taken-le, kid-pos, kid-none, node_at-pos, sub-mul, path-in, up_root, word_count}
use Rattle.laws.proofs.Facts.{arrived-role, arrived-right, owes_end, owes-then, ended-role, ended-right}
use Rattle.laws.proofs.Facts.{any-writers, readers-whole, writer-whole, Joined, join-reader, join-writer}
use Rattle.laws.proofs.Facts.{some_same}
use Rattle.laws.proofs.Perform.{Calm, calm, Turns, Keeps, part, owned, only-last, only-joins, others-sleep}
use Rattle.laws.proofs.Next.{looked-each, climbed-each, departed-each, upgraded-each, unlock-each, last-each}

-- a thread outside the mutex and the queue, before and after
kin : (a b : ℕ) (f g : ℕ → ℕ) → Kin (answering a f) (answering b g)
kin a b f g = record { inmutex = refl; hand = refl; waits = refl; sleeps = zero-le; joins = zero-le }

-- ---- what follows a read

module _ (z : Sizes) where
  looked-calm : (n : ℕ) (v : Word) → n < z.nodes → Calm z blank 0 (looked n v)
  unfolding place
  looked-calm n v h =
      looked-each (Calm z blank 0) n v (λ q. calm refl h) (λ q k. calm refl q)
      (λ q k. calm refl (record { route = h; below = omega arith; on = on-start z.fan n }))

  climbed-calm : (c n : ℕ) (v : Word) → Path z c n → (0 < c → NodeWord v) → Calm z blank 0 (climbed z.fan c n v)
  unfolding place
  climbed-calm c n v h pl =
      climbed-each (Calm z blank 0) z.fan c n v (λ k. calm refl h.route)
      (λ k q. calm refl (h, λ x. q, λ x. absurd (x k)))
      (λ k. calm refl (record { route = h.route; below = h.below; on = on-parent z.fan n c k h.on }))
      (λ k q. let (d, o) = pl (omega arith) in
      let m : v.tree ≢ 0 = same-ne v (opened 0 0) q d o in calm refl (h, λ x. absurd (k x), λ x. omega arith))

  -- granted or denied
  upgrade-calm : (v : Word) → 0 < z.nodes → Calm z entered 0 (granted (Phase.Reading 0) (upgrade_found v))
  unfolding place
  upgrade-calm v n = upgraded-each (Calm z entered 0) v (λ q. calm refl q) (calm refl n)

  -- the group woken, or nobody there to wake
  downgraded-calm : (b : ℕ) → 0 < z.nodes → Whole (readers b) → Calm z (handing 1 1 (readers b)) 0 (downgraded b)
  unfolding place
  downgraded-calm b n w =
      if-both (Calm z (handing 1 1 (readers b)) 0) (eqb b 0)
      (λ q. let e : b ≡ 0 = eqb-true b 0 q in
      calm (rw e (ap (λ (x : ℕ). answering (1 + x) nowhere) (sym size_none))) n)
      (λ q. calm refl (le_refl 1, w))

  write_looked-calm : (v : Word) → Calm z blank 0 (write_looked v)
  unfolding place
  write_looked-calm v = if-both (Calm z blank 0) (same v (opened 0 0)) (λ q. calm refl tt) (λ q. calm refl tt)

  write_found-calm : (v : Word) → Calm z (plain 0 0 0 1) 1 (write_found v)
  unfolding place
  write_found-calm v =
      if-both (Calm z (plain 0 0 0 1) 1) (is_closed v)
      (λ q. record { asleep = 0; coming = 1; alike = refl; sleeps = zero-le; joins = zero-le; fit = tt })
      (λ q. calm refl q)

-- ---- turns

module _ (z : Sizes) (s : State) (t : ℕ) (inv : Inv z s) (l : t < 64) where
  -- a node's word, whatever its count
  plain_at : (w : ℕ) (v : Word) → word_at s w ≡ v → 0 < w → NodeWord v
  plain_at w v q pos = subst NodeWord q (inv.plainly w pos)

  flag_at : (v : Word) → word_at s 0 ≡ v → v.closed ≤ 1
  flag_at v q = subst (λ (x : Word). x.closed ≤ 1) q inv.flag

  -- a count at a node changes; at the root, where neither v nor u is (0, 0, closed)
  count-node : (w : ℕ) (v u : Word) (a : ℕ) (f g : ℕ → ℕ) → role_at z s t ≡ answering a f → word_at s w ≡ v
      → 0 < w → w < z.nodes → (NodeWord v → NodeWord u)
      → ((c : ℕ) → u.tree * at w c + f c + kid z.fan c w v ≡ v.tree * at w c + g c + kid z.fan c w u)
      → Turn z s t (answering a f) (answering a g) (set s.words w u) s.mutex s.queue
  count-node w v u a f g e q pos n h cnt =
      node-turn z s t inv (answering a f) (answering a g) e w u pos n (h (plain_at w v q pos)) (kin a a f g)
      refl refl refl (λ c. rw q (cnt c))

  count-root : (v u : Word) (a b : ℕ) (f g : ℕ → ℕ) → role_at z s t ≡ answering a f → word_at s 0 ≡ v
      → u.closed ≡ v.closed → zero_shut v ≡ 0 → zero_shut u ≡ 0 → u.direct + a ≡ v.direct + b
      → ((c : ℕ) → u.tree * at 0 c + f c ≡ v.tree * at 0 c + g c)
      → Turn z s t (answering a f) (answering b g) (set s.words 0 u) s.mutex s.queue
  count-root v u a b f g e q k o o' di cnt =
      root-turn z s t inv (answering a f) (answering b g) e v u q (omega (arith, flag_at v q)) (kin a b f g) di cnt
      (omega arith) (omega (arith, some_same v u k o o'))

  -- a direct arrival; a departure by the tree, with a direct arrivals
  enter-root : (v : Word) (f : ℕ → ℕ) → role_at z s t ≡ owing f → word_at s 0 ≡ v → zero_shut v ≡ 0
      → Turn z s t (owing f) (answering 1 f) (set s.words 0 (up_direct v)) s.mutex s.queue
  enter-root v f e q o =
      count-root v (up_direct v) 0 1 f f e q refl o (zero-pos (up_direct v) (omega arith)) (omega arith) (λ c. refl)

  depart-root : (a : ℕ) (v : Word) (f g : ℕ → ℕ) → role_at z s t ≡ answering a f
      → word_at s 0 ≡ v → 0 < v.tree → ((c : ℕ) → f c ≡ at 0 c + g c) → zero_shut (down v) ≡ 0
      → Turn z s t (answering a f) (answering a g) (set s.words 0 (down v)) s.mutex s.queue
  depart-root a v f g e q h cnt o =
      count-root v (down v) a a f g e q refl (zero-pos v (omega arith)) o refl
      (λ c. omega (arith, cnt c, sub-mul v.tree (at 0 c) h))

  -- the last one to depart, by the tree or directly, leaves the word u
  last_turn : (v u : Word) (a : ℕ) (f : ℕ → ℕ)
      → role_at z s t ≡ answering a f → word_at s 0 ≡ v → 0 < total v → u.closed ≡ v.closed → same u (closed 0 0) ≡ true
      → u.direct + a ≡ v.direct → ((c : ℕ) → u.tree * at 0 c + f c ≡ v.tree * at 0 c)
      → Turn z s t (answering a f) (plain 1 1 0 0) (set s.words 0 u) s.mutex s.queue
  last_turn v u a f e q h k y di cnt =
      let i = same-eq u (closed 0 0) y in
      let c : v.closed ≡ 1 = omega (arith, ap (λ (x : Word). x.closed) i) in
      let n : some_shut v ≡ 1 = rw (eq-eqb _ _ c) (omega arith) in
      root-turn z s t inv (answering a f) (plain 1 1 0 0) e v u q (omega arith)
      (record { inmutex = refl; hand = refl; waits = refl; sleeps = zero-le; joins = zero-le }) (omega arith)
      (λ c. omega (arith, cnt c)) (omega (arith, ap zero_shut i, zero-pos v h)) (omega (arith, ap some_shut i))

  -- the root rewritten with its counts kept; its flag, its owner o and a coming writer j change
  shift-root : (v new : Word) (o m o' j' : ℕ) → role_at z s t ≡ plain o 0 0 m → word_at s 0 ≡ v → new.closed ≤ 1
      → new.direct ≡ v.direct → new.tree ≡ v.tree → zero_shut new + o ≡ zero_shut v + o'
      → some_shut new ≤ some_shut v + j'
      → Turn z s t (plain o 0 0 m) (plain o' 0 j' m) (set s.words 0 new) s.mutex s.queue
  shift-root v new o m o' j' e q fl d c k w =
      root-turn z s t inv (plain o 0 0 m) (plain o' 0 j' m) e v new q fl
      (record { inmutex = refl; hand = refl; waits = refl; sleeps = zero-le; joins = zero-le }) (rw d)
      (λ x. rw c) k (omega arith)

  -- who arrived directly and is alone comes to own the root
  upgrade-turn : (v : Word) → role_at z s t ≡ entered → word_at s 0 ≡ v → (v.direct ≡ 1) × (v.tree ≡ 0)
      → Turn z s t entered (plain 1 0 0 0) (set s.words 0 (closed 0 0)) s.mutex s.queue
  upgrade-turn v e q a =
      root-turn z s t inv entered (plain 1 0 0 0) e v (closed 0 0) q (le_refl 1)
      (record { inmutex = refl; hand = refl; waits = refl; sleeps = zero-le; joins = zero-le }) (omega arith)
      (λ c. rw a.1) (omega (arith, zero-pos v (omega arith))) (omega arith)

  -- t joins the queue
  join-turn : (j : ℕ) (q : Waiters) → role_at z s t ≡ plain 0 0 j 1
      → Joined t s.queue q j → Turn z s t (plain 0 0 j 1) (waiting 1 0) s.words s.mutex q
  join-turn j q e k =
      record {
        words = inv.words;
        plainly = inv.plainly;
        flag = inv.flag;
        direct = refl;
        counts = λ c. refl;
        owner = refl;
        mutex = refl;
        queued = λ u n. omega (arith, k.bits u, at_other t u n);
        queues = omega (arith, k.bits t, at_self t);
        handed = λ u n. omega (arith, inv.handed u);
        hands = omega (arith, inv.handed t, ap (λ (x : Role). x.sleeps) e);
        writers = λ L J a b. omega (arith, k.writers, inv.writers);
        named = k.named;
      }

  -- a group comes from the queue, which is now q, into t's hand; t goes on to own the root, as r'
  take-turn : (g : Group) (q : Waiters) (y : ℕ) (r' : Role)
      → ((u : ℕ) → bits_of u s.queue ≡ bit_at g.members u + bits_of u q) → Named q
      → role_at z s t ≡ plain 1 y 0 1 → ((c : ℕ) → r'.owes c ≡ 0)
      → r'.direct ≡ 0 → r'.own ≡ 1 → r'.inmutex ≡ 1 → r'.hand ≡ g.members → r'.waits ≡ 0
      → ((L J : ℕ) → L + y ≡ sums z s (λ r. r.last) + r'.last
      → J + 0 ≡ sums z s (λ r. r.joins) + r'.joins → min (some_shut (word_at s 0) + L) 1 ≤ writers_of q + J)
      → Turn z s t (plain 1 y 0 1) r' s.words s.mutex q
  take-turn g q y r' k n e ow di o m hand wa wr =
      record {
        words = inv.words;
        plainly = inv.plainly;
        flag = inv.flag;
        direct = omega arith;
        counts = λ c. omega (arith, ow c);
        owner = omega arith;
        mutex = omega arith;
        queued = λ u n. rw hand (omega (arith, k u, bit-zero u));
        queues = rw hand (omega (arith, k t, bit-zero t));
        handed = λ u n. rw hand (omega (arith, k u, inv.queued u, others-sleep z s t inv l e refl u n, bit-zero u));
        hands = rw hand (omega (arith, k t, inv.queued t, ap (λ (x : Role). x.waits) e, bit-zero t));
        writers = wr;
        named = n;
      }

  -- ---- the longer calls

  -- what is owed at d is counted there
  pub owed-count : (k : Then) (d : ℕ) → role_at z s t ≡ answering (direct_then k) (owes_then k d) → 0 < (word_at s d).tree
  owed-count k d e = omega (arith, owes-then k d d, at_self d, inv.counts d, part z s t inv l e (λ r. r.owes d))

  pub entered-count : role_at z s t ≡ entered → 0 < (word_at s 0).direct
  entered-count e = omega (arith, inv.direct, part z s t inv l e (λ r. r.direct))

  -- the last reader has a writer to hand over to
  pub last-writer : role_at z s t ≡ plain 1 1 0 1 → 0 < writers_of s.queue
  last-writer e =
      omega (arith, inv.writers, part z s t inv l e (λ r. r.last), only-joins z s t inv l e, taken-le s.mutex)

  -- who is counted at a node shows at the root
  pub counted-root : (n : ℕ) → role_at z s t ≡ owing (at n) → 0 < (word_at s 0).tree
  counted-root n e = word_count z s inv n (omega (arith, inv.counts n, at_self n, part z s t inv l e (λ r. r.owes n)))

  climb-turns : (c n : ℕ) (v : Word) → Path z c n
      → (c ≡ 0 → same v (closed 0 0) ≡ false) → (c ≢ 0 → 0 < v.tree) → role_at z s t ≡ blank → word_at s c ≡ v
      → Turns z s t blank (set s.words c (up v)) s.queue (arrived z.fan c n)
  climb-turns c n v h a b e q = (rw (arrived-role z c n h) (from c refl), arrived-right z c n h)
    where
      from : (d : ℕ) → c ≡ d → Turn z s t blank (owing (at c)) (set s.words c (up v)) s.mutex s.queue
      from zero i =
          rw i (count-root v (up v) 0 0 nowhere (at 0) e (rw i at q) refl (zero-not v (a i))
          (zero-pos (up v) (omega arith)) refl (λ c. omega arith))
      from (suc d) i =
          let m = b (λ x. omega arith) in
          count-node c v (up v) 0 nowhere (at c) e q (omega arith) (path-in z c n h) (λ x. x)
          (λ x. omega (arith, kid-pos z.fan x c v m, kid-pos z.fan x c (up v) (omega arith)))

  -- the node c swapped on the way down, from v
  down-turns : (c n : ℕ) (v : Word) → Under z c n → role_at z s t ≡ owing (at (parent z.fan c)) → word_at s c ≡ v
      → Turns z s t (owing (at (parent z.fan c))) (set s.words c (up v)) s.queue (settled z.fan c n v)
  unfolding place
  down-turns c n v h e q =
      if-both (Turns z s t (owing (at F')) (set s.words c (up v)) s.queue) (is_zero v)
      (λ y. let none : total v ≡ 0 = eqb-true _ _ y in (
        rw (arrived-role z c n h.0)
            (count-node c v (up v) 0 (at F') (at c) e q h.1 w (λ x. x)
            (λ x. omega (
              arith,
              kid-none z.fan x c v (omega arith),
              kid-pos z.fan x c (up v) (omega arith),
              node_at-pos z.fan x c h.1,
            ))),
        arrived-right z c n h.0,
      ))
      (λ y. let more : total v ≢ 0 = eqb-false _ _ y in (
        count-node c v (up v) 0 (at F') (owes_then (Inside n c) F') e q h.1 w (λ x. x)
            (λ x. omega (
              arith,
              kid-pos z.fan x c v (omega (arith, plain_at c v q h.1)),
              kid-pos z.fan x c (up v) (omega arith),
            )),
        (omega (arith, w, parent-le z.fan c), h),
      ))
    where
      F' : ℕ
      F' = parent z.fan c

      w : c < z.nodes
      w = path-in z c n h.0

  depart-turns : (d : ℕ) (k : Then) (v : Word) → d < z.nodes
      → Follows z k → 0 < v.tree → role_at z s t ≡ answering (direct_then k) (owes_then k d) → word_at s d ≡ v
      → Turns z s t (answering (direct_then k) (owes_then k d))
      (set s.words d (down v)) s.queue (departed z.fan d k (down v))
  unfolding place
  depart-turns d k v w r h e q =
      departed-each (Turns z s t (answering (direct_then k) (owes_then k d)) (set s.words d (down v)) s.queue)
      z.fan d k (down v) (at-root k (same (down v) (closed 0 0)) refl r e)
      (λ i j. let last : v.direct + (v.tree - 1) ≡ 0 = eqb-true _ _ j in (
        count-node d v (down v) (direct_then k) (owes_then k d) (owes_then k (parent z.fan d)) e q (omega arith) w
            (λ x. x)
            (λ c. omega (
              arith,
              owes-then k d c,
              owes-then k (parent z.fan d) c,
              kid-pos z.fan c d v h,
              kid-none z.fan c d (down v) (omega arith),
              node_at-pos z.fan c d (omega arith),
              sub-mul v.tree (at d c) h,
            )),
        (omega (arith, parent-le z.fan d), r),
      ))
      (λ i j. let more : v.direct + (v.tree - 1) ≢ 0 = eqb-false _ _ j in (
        rw (ended-role z k r) (count-node d v (down v) (direct_then k) (owes_then k d) (owes_end k) e q (omega arith) w
            (λ x. x)
            (λ c. omega (
              arith,
              owes-then k d c,
              kid-pos z.fan c d v h,
              kid-pos z.fan c d (down v) (omega (arith, plain_at d v q (omega arith))),
              sub-mul v.tree (at d c) h,
            ))),
        ended-right z k false r,
      ))
    where
      -- inside an arrival the root has one more
      two : (n b : ℕ) → role_at z s t ≡ owing (owes_then (Inside n b) d) → d ≡ 0 → 0 < b → 2 ≤ (word_at s 0).tree
      two n b e i h =
          let f = part z s t inv l e (λ r. r.owes b) in
          let g = part z s t inv l e (λ r. r.owes 0) in
          let up = up_root z s inv b b (le_refl b) h (omega (arith, inv.counts b, at_self b)) in
          omega (arith, inv.counts 0, at_self 0, ap (λ (x : ℕ). at x 0) i)

      at-root : (k : Then) (b : Bool) → same (down v) (closed 0 0) ≡ b
          → Follows z k → role_at z s t ≡ answering (direct_then k) (owes_then k d) → d ≡ 0
          → Turns z s t (answering (direct_then k) (owes_then k d))
          (set s.words d (down v)) s.queue (ended z.fan k b)
      at-root Leaving true y r e i =
          rw i (
            last_turn v (down v) 0 (at 0)
                (rw i at e) (rw i at q) (omega arith) refl y (omega arith) (λ c. sub-mul v.tree (at 0 c) h),
            tt,
          )
      at-root Leaving false y r e i =
          rw i (depart-root 0 v (at 0) nowhere (rw i at e) (rw i at q) h (λ c. omega arith) (zero-not (down v) y), tt)
      -- in an upgrade the thread has arrived directly
      at-root Upgrading b y r e i =
          let m : 0 < (word_at s 0).direct = omega (arith, inv.direct, part z s t inv l e (λ r. r.direct)) in
          let m' : 0 < v.direct = subst (λ (x : Word). 0 < x.direct) (rw i at q) m in
          rw i (
            depart-root 1 v
                (at 0) nowhere (rw i at e) (rw i at q) h (λ c. omega arith) (zero-pos (down v) (omega arith)),
            tt,
          )
      at-root (Inside n c) b y r e i =
          let m = two n c e i r.1 in (
            rw (arrived-role z c n r.0)
                (rw i (depart-root 0 v (owes_then (Inside n c) 0) (at c) (rw i at e) (rw i at q) h (λ c. refl)
                (zero-pos (down v) (omega (arith, ap (λ (x : Word). x.tree) (rw i at q)))))),
            arrived-right z c n r.0,
          )

  -- the direct departure: the last one, or not
  leave-turns : (v : Word) → 0 < v.direct → role_at z s t ≡ entered → word_at s 0 ≡ v
      → Turns z s t entered
      (set s.words 0 (down_direct v)) s.queue (ended z.fan Leaving (same (down_direct v) (closed 0 0)))
  unfolding place
  leave-turns v h e q =
      if-both (Turns z s t entered (set s.words 0 (down_direct v)) s.queue) (same (down_direct v) (closed 0 0))
      (λ y. (last_turn v (down_direct v) 1 nowhere e q (omega arith) refl y (omega arith) (λ c. omega arith), tt))
      (λ y. (
        count-root v (down_direct v) 1 0 nowhere nowhere e q refl (zero-pos v (omega arith)) (zero-not (down_direct v) y)
            (omega arith) (λ c. refl),
        tt,
      ))

  -- n is stored, the size of the set in hand and x more
  store-turn : (x b n : ℕ) → n ≡ x + size b → 0 < n → role_at z s t ≡ storing b
      → Turn z s t (storing b)
      (handing 1 x (readers b)) (set s.words 0 (stored n (writer_queued s.queue))) s.mutex s.queue
  store-turn x b n i h e =
      if-both
      (λ (v : Word). Turn z s t (storing b) (handing 1 x (readers b)) (set s.words 0 v) s.mutex s.queue)
      (writer_queued s.queue)
      (λ y. root-turn z s t inv (storing b) (handing 1 x (readers b)) e (closed 0 0) (closed n 0) q (le_refl 1) same-kin
      (omega arith) (λ c. refl) (omega arith) (omega (arith, any-writers s.queue inv.named y)))
      (λ y. root-turn z s t inv (storing b) (handing 1 x (readers b)) e (closed 0 0) (opened n 0) q zero-le same-kin
      (omega arith) (λ c. refl) refl (omega arith))
    where
      q : word_at s 0 ≡ closed 0 0
      q = zero-closed (word_at s 0) (owned z s t inv l e refl)

      same-kin : Kin (storing b) (handing 1 x (readers b))
      same-kin = record { inmutex = refl; hand = refl; waits = refl; sleeps = zero-le; joins = zero-le }

  -- ---- t, an owner with the mutex, takes a group: as the last reader (y is 1) or as a writer

  module _ (y : ℕ) (e : role_at z s t ≡ plain 1 y 0 1) where
    owned-root : zero_shut (word_at s 0) ≡ 1
    owned-root = owned z s t inv l e refl

    -- the writer who has waited longest
    writer-turns : (w : ℕ) (ws : List ℕ) → s.queue.writers ≡ w ∷ ws
        → Turns z s t (plain 1 y 0 1)
        s.words (with_writers ws (s.queue.waiting - 1) s.queue) (Phase.HandRelease (writer (only w)))
    unfolding place
    writer-turns w ws k =
        let a = subst (All (λ (w : ℕ). w < 64)) k inv.named.numbers in (
          take-turn (writer (only w)) (with_writers ws (s.queue.waiting - 1) s.queue) y
              (handing 1 0 (writer (only w))) (λ u. omega (arith, ap (numbers_of u) k))
              (record { set = inv.named.set; numbers = a.1; tally = omega (arith, inv.named.tally, ap length k) })
              e (λ c. refl) refl refl refl refl refl
              (λ L J a b. omega (arith, zero-some (word_at s 0) owned-root, only-last z s t inv l e, owned-root)),
          (zero-le, writer-whole w a.0),
        )

  -- the readers, whom only a writer takes
  readers-turn : role_at z s t ≡ plain 1 0 0 1
      → Turn z s t (plain 1 0 0 1) (storing s.queue.readers) s.words s.mutex (with_readers 0 s.queue)
  readers-turn e =
      take-turn (readers s.queue.readers)
      (with_readers 0 s.queue) 0 (storing s.queue.readers) (λ u. omega (arith, bit-zero u))
      (record { set = omega arith; numbers = inv.named.numbers; tally = inv.named.tally }) e
      (λ c. refl) refl refl refl refl refl
      (λ L J a b. omega (arith, inv.writers))

  readers-ok : Whole (readers s.queue.readers)
  readers-ok = readers-whole s.queue.readers inv.named.set

  -- ---- every row of a call

  pub calls : (p : Phase) → (thread_at s t).phase ≡ p → Keeps z s t (role z p) (op z.fan p)
  unfolding op place
  calls p q = from p (ap (role z) q) (subst (Right z) q (inv.right t))
    where
      F : ℕ
      F = z.fan

      root : Word
      root = word_at s 0

      nodes_least : 0 < z.nodes
      nodes_least = inv.sizes.nodes_least

      from : (p : Phase) → role_at z s t ≡ role z p → Right z p → Keeps z s t (role z p) (op z.fan p)
      from Phase.Idle e r = omega arith
      from Phase.Writing e r = omega arith
      from Phase.Asleep e r = tt
      from (Phase.Reading k) e r = omega arith
      from (Phase.Look n) e r = (nodes_least, looked-calm z n root r)
      from (Phase.Enter v) e r =
          (nodes_least, λ q. (enter-root v nowhere e q (zero-open v r), nodes_least), looked-calm z 0 root nodes_least)
      from (Phase.Climb c n) e r = (path-in z c n r, climbed-calm z c n (word_at s c) r (inv.plainly c))
      from (Phase.ClimbSwap c n v) e r = (
        path-in z c n r.0,
        climb-turns c n v r.0 r.1 r.2 e,
        (climbed-calm z c n (word_at s c) r.0 (inv.plainly c)),
      )
      from (Phase.Descend c n) e r = (path-in z c n r.0, down-turns c n (opened 0 0) r e, calm refl r)
      from (Phase.Again c n) e r = (path-in z c n r.0, calm refl r)
      from (Phase.AgainSwap c n v) e r = (path-in z c n r.0, down-turns c n v r e, calm refl r)
      from (Phase.Depart d k) e r = (r.0, calm refl (r.0, r.1, owed-count k d e))
      from (Phase.DepartSwap d k v) e r =
          (r.0, depart-turns d k v r.0 r.1 r.2 e, calm refl (r.0, r.1, owed-count k d e))
      from Phase.Leave e r = (nodes_least, calm refl (entered-count e))
      from (Phase.LeaveSwap v) e r = (nodes_least, leave-turns v r e, calm refl (entered-count e))
      from (Phase.QueueTake n) e r = (calm refl r, refl)
      from (Phase.QueueRead n) e r =
          (nodes_least, if-both (Calm z (plain 0 0 0 1) 1) (is_closed root) (λ q. calm refl tt) (λ q. calm refl r))
      from (Phase.QueueBack n) e r = (calm refl r, refl)
      from Phase.QueueJoin e r = (
        refl,
        (
          join-turn 0 _ e
              (join-reader t s.queue l (omega (arith, inv.queued t, ap (λ (x : Role). x.waits) e)) inv.named),
          tt,
        ),
      )
      from Phase.Sleep e r =
          (record { asleep = 1; coming = 0; alike = refl; sleeps = zero-le; joins = zero-le; fit = tt }, refl)
      from Phase.WriteLook e r = (nodes_least, write_looked-calm z root)
      from Phase.WriteEnter e r = (
        nodes_least,
        λ q. (shift-root (opened 0 0) (closed 0 0) 0 0 1 0 e q (le_refl 1) refl refl refl (omega arith), tt),
        write_looked-calm z root,
      )
      from Phase.WriteTake e r = (calm refl tt, refl)
      from Phase.WriteRead e r = (nodes_least, write_found-calm z root)
      from (Phase.WriteClose v) e r = (
        nodes_least,
        λ q. if-both (Turns z s t (plain 0 0 0 1) (set s.words 0 (shut v)) s.queue) (is_zero v)
            (λ y. let n : total v ≡ 0 = eqb-true _ _ y in (
              shift-root v (shut v) 0 1 1 0 e q (le_refl 1) refl refl (omega (arith, zero-open v r)) (omega arith),
              tt,
            ))
            (λ y. let n : total v ≢ 0 = eqb-false _ _ y in (
              shift-root v (shut v) 0 1 0 1 e q (le_refl 1) refl refl (omega (arith, zero-open v r)) (omega arith),
              tt,
            )),
        write_found-calm z root,
      )
      from Phase.WriteHold e r = (calm refl tt, refl)
      from Phase.WriteJoin e r = (refl, (join-turn 1 _ e (join-writer t s.queue l inv.named), tt))
      from Phase.UnlockTake e r = (calm refl tt, refl)
      from Phase.UnlockNext e r =
          unlock-each (Turns z s t (plain 1 0 0 1) s.words) s.queue (λ k. (readers-turn e, (k, readers-ok)))
          (λ k. last-each (Turns z s t (plain 1 0 0 1) s.words) s.queue
          (λ i. (
            subst (Turn z s t (plain 1 0 0 1) (plain 1 0 0 1) s.words s.mutex)
                (ap₂ (λ (ws : List ℕ) (n : ℕ). with_writers ws n s.queue) i
                (omega (arith, inv.named.tally, ap length i)))
                (calm-turn z s t inv
                (plain 1 0 0 1) (plain 1 0 0 1) e s.mutex (λ c. refl) refl refl refl refl refl refl zero-le zero-le),
            tt,
          )) (writer-turns 0 e))
      from Phase.UnlockOpen e r =
          let k : word_at s 0 ≡ closed 0 0 = zero-closed (word_at s 0) (owned z s t inv l e refl) in
          (shift-root (closed 0 0) (opened 0 0) 1 1 0 0 e k zero-le refl refl refl zero-le, tt)
      from Phase.UnlockEnd e r = (calm refl tt, refl)
      from (Phase.UnlockStore b) e r =
          (store-turn 0 b (size b) (omega arith) (size-pos 64 b r.0 r.1.within) e, (zero-le, r.1))
      from Phase.LastTake e r = (calm refl tt, refl)
      from Phase.LastNext e r =
          last-each (Turns z s t (plain 1 1 0 1) s.words) s.queue
          (λ i. absurd (omega (arith, last-writer e, ap length i))) (writer-turns 1 e)
      from (Phase.HandRelease g) e r = (calm refl r, refl)
      from (Phase.HandWake g) e r = record { own = 0; before = refl; group = r.1; after = refl; fit = tt }
      from (Phase.UpgradeTrade n) e r = (nodes_least, calm refl r)
      from (Phase.UpgradeEnter n v) e r = (
        nodes_least,
        λ q. (
          enter-root v (at n) e q (zero-pos v (omega (arith, counted-root n e, ap (λ (x : Word). x.tree) q))),
          (r, tt),
        ),
        calm refl r,
      )
      from Phase.UpgradeLook e r = (nodes_least, upgrade-calm z root nodes_least)
      from (Phase.UpgradeSwap v) e r =
          (nodes_least, λ q. (upgrade-turn v e q (sole v r), tt), upgrade-calm z root nodes_least)
      from Phase.DowngradeTake e r = (calm refl tt, refl)
      from Phase.DowngradeNext e r = (readers-turn e, readers-ok)
      from (Phase.DowngradeStore b) e r = (store-turn 1 b (1 + size b) refl (omega arith) e, (le_refl 1, r))
      from (Phase.DowngradeRelease b) e r = (downgraded-calm z b nodes_least r.1, refl)
      from (Phase.DowngradeWake b) e r = record { own = 1; before = refl; group = r.1; after = refl; fit = nodes_least }
