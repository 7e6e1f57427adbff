-- Upgrade and downgrade restore the root. At the swap the thread is the only one that is counted, and nobody waits;
-- its own rows move no other thread. So where it reads with ticket 0 again every role is what it was, and the root with
-- it. And where nobody has the mutex a downgrade comes to its end.
use Rattle.laws.proofs.Lock.{ℕ, zero, suc, ◌+◌, ◌-◌, ◌≤◌, ◌<◌, ◌≡◌, refl, sym, subst, ap, ◌∙◌, ◌≢◌, Bool, true}
use Rattle.laws.proofs.Lock.{false, List, [], ◌∷◌, none, some, take, arith, ℕ_discrete, dec_lt, length, replicate}
use Rattle.std.specs.Prelude.{if◌then◌else◌}
use Rattle.laws.proofs.Lock.{length-set, get_or-set_same, eqb-false, lt-ltb, not-both, dec-both}
use Rattle.laws.proofs.Lock.{clash, row-leads, state_at, row_at, Word, opened, closed, is_closed, is_writer, size}
use Rattle.laws.proofs.Lock.{without_readers, writer_queued, Phase, Writing, Reading, UpgradeSwap, DowngradeTake}
use Rattle.laws.proofs.Lock.{DowngradeNext, DowngradeStore, DowngradeRelease, standing, Thread, Entry, call_begun}
use Rattle.laws.proofs.Lock.{swap_done, plain_store, mutex_taken, mutex_released, queue_changed, Sizes, stored, op}
use Rattle.laws.proofs.Lock.{obey, State, fresh, fresh_thread, word_at, thread_at, with_word, with_mutex, with_queue}
use Rattle.laws.proofs.Lock.{goes, taken, locks, perform, runs, Row, row_op, step, run, InRange}
use Rattle.lock.proofs.Memory.{same_self}
use Rattle.laws.specs.Restoring.{row, Swaps, Restored, Ends}
use Rattle.laws.proofs.Sum.{sum_alike, bit_at, bit-zero, bit-pow, at_self, size-pos}
use Rattle.laws.proofs.Role.{Role, known, Place, outside, counted, entrant, departing, locked, joining, owner}
use Rattle.laws.proofs.Role.{last_reader, store, hand, drowsy, sleeper, role_of, RightOf, place, role, Right, Inv}
use Rattle.laws.proofs.Role.{role_at, sums, tot-mem, tot-some, bits_of, some_shut}
use Rattle.laws.proofs.Facts.{word-eq, sole, zero-open, word_count, tot-two}
use Rattle.laws.proofs.Aside.{Aside, aside}
use Rattle.laws.proofs.Runs.{held}
use Rattle.laws.proofs.Locks.{in-range, count-owed}
use Rattle.laws.proofs.Quiet.{Nobody, Quiet, joins-shut, held-quiet}
use Rattle.laws.proofs.Seen.{watch}
use Rattle.laws.proofs.Stage.{inv_at}

-- ---- at the swap

-- who has someone in hand owns the root or is counted there
hand-shows : (x : Place) (u : ℕ) → RightOf x → 0 < bit_at (role_of x).hand u
    → 0 < (role_of x).own + (role_of x).direct
hand-shows (outside R) u r h = absurd (omega (arith, bit-zero u))
hand-shows (counted c R) u r h = absurd (omega (arith, bit-zero u))
hand-shows (entrant R) u r h = absurd (omega (arith, bit-zero u))
hand-shows (departing d k R) u r h = absurd (omega (arith, bit-zero u))
hand-shows (locked R) u r h = absurd (omega (arith, bit-zero u))
hand-shows joining u r h = absurd (omega (arith, bit-zero u))
hand-shows (owner m) u r h = absurd (omega (arith, bit-zero u))
hand-shows (last_reader m) u r h = absurd (omega (arith, bit-zero u))
hand-shows (store b R) u r h = omega arith
hand-shows (hand m x g) u r h =
    dec-both (dec_lt 0 g.members) (λ a. from a (is_writer g))
    (λ a. let e : g.members ≡ 0 = omega arith in absurd (omega (arith, bit-zero u, rw e at h)))
  where
    from : 0 < g.members → (b : Bool) → 0 < (if b then 1 else 0) + (x + (if b then 0 else size g.members))
    from a true = omega arith
    from a false = omega (arith, size-pos 64 g.members a r.1.within)
hand-shows drowsy u r h = absurd (omega (arith, bit-zero u))
hand-shows sleeper u r h = absurd (omega (arith, bit-zero u))

module _ (z : Sizes) (s : State) (inv : Inv z s) (quiet : Quiet z s) (t : ℕ) (v : Word) (w : Swaps s t v) where
  -- alone and open
  pub found : opened 1 0 ≡ v
  unfolding place
  found =
      let (d, m) = sole v (subst (Right z) w.phase (inv.right t)) in
      let c : v.closed ≢ 1 = eqb-false _ _ w.is_open in
      word-eq (opened 1 0) v (sym d) (sym m) (omega (arith, subst (λ (x : Word). x.closed ≤ 1) w.found inv.flag))

  root : word_at s 0 ≡ opened 1 0
  root = w.found ∙ sym found

  opens : is_closed (word_at s 0) ≡ false
  opens = subst (λ (x : Word). is_closed x ≡ false) (sym w.found) w.is_open

  pub nobody : Nobody s.queue
  nobody = quiet.empty opens

  pub there : t < length s.threads
  there = in-range s t (λ i. let q = sym w.phase ∙ i in clash cc)

  -- nobody has another in hand: it would own the root, or be counted there beside t
  no-hand : (u : ℕ) → sums z s (λ r. bit_at r.hand u) ≡ 0
  unfolding place
  no-hand u =
      dec-both (dec_lt 0 (sums z s (λ r. bit_at r.hand u)))
      (λ a. let (x, q) = tot-some z (λ r. bit_at r.hand u) s.threads a in
      let mine : role_at z s t ≡ role z (UpgradeSwap v) = ap (role z) w.phase in
      let other : x ≢ t = (λ e. let k = subst (λ (y : ℕ). 0 < bit_at (role_at z s y).hand u) e q in
      omega (arith, bit-zero u, k, ap (λ (r : Role). bit_at r.hand u) mine)) in
      let in-x = in-range s x (λ e. omega (arith, bit-zero u, q, ap (λ (p : Phase). bit_at (role z p).hand u) e)) in
      absurd (omega (
        arith,
        hand-shows (place z (thread_at s x).phase) u (inv.right x) q,
        tot-mem z (λ r. r.own) s.threads x in-x,
        tot-two z (λ r. r.direct) refl s.threads x t in-x there other,
        ap (λ (r : Role). r.direct) mine,
        inv.owner,
        zero-open (word_at s 0) opens,
        inv.direct,
        ap (λ (y : Word). y.direct) root,
      )))
      (λ a. omega arith)

  -- so nobody waits or sleeps
  pub no-waits : (u : ℕ) → (role_at z s u).waits ≡ 0
  no-waits u =
      let b : bits_of u s.queue ≡ 0 = rw (nobody.readers, nobody.writers, bit-zero u) in
      omega (arith, inv.queued u, no-hand u)

  pub no-sleeps : (u : ℕ) → (role_at z s u).sleeps ≡ 0
  no-sleeps u =
      dec-both (dec_lt 0 (role_at z s u).sleeps)
      (λ a. absurd (omega (
        arith,
        no-waits u,
        ap (λ (r : Role). r.waits) ((known (place z (thread_at s u).phase)).sleeps a),
      )))
      (λ a. omega arith)

  no-owing : (c : ℕ) → sums z s (λ r. r.owes c) ≡ 0
  no-owing c =
      dec-both (dec_lt 0 (word_at s c).tree)
      (λ a. absurd (omega (arith, word_count z s inv c a, ap (λ (y : Word). y.tree) root)))
      (λ a. omega (arith, inv.counts c))

  no_joins : sums z s (λ r. r.joins) ≡ 0
  no_joins =
      dec-both (dec_lt 0 (sums z s (λ r. r.joins)))
      (λ a. let (u, q) = tot-some z (λ r. r.joins) s.threads a in
      not-both (is_closed (word_at s 0)) (joins-shut z (watch (thread_at s u).phase) (word_at s 0) _ q (quiet.sees u)) opens)
      (λ a. omega arith)

  -- ---- where t reads with ticket 0 and every other thread is as it was

  module _ (s' : State) (inv' : Inv z s') (same : (u : ℕ) → u ≢ t → thread_at s' u ≡ thread_at s u)
      (reads : (thread_at s' t).phase ≡ Reading 0) where
    alike : (u : ℕ) → role_at z s' u ≡ role_at z s u
    unfolding place
    alike u =
        dec-both (ℕ_discrete u t) (λ e. rw e (ap (role z) reads ∙ sym (ap (role z) w.phase)))
        (λ n. ap (λ (x : Thread). role z x.phase) (same u n))

    sums-alike : (f : Role → ℕ) → sums z s' f ≡ sums z s f
    sums-alike f =
        sum_alike (λ i (h : Thread). f (role z h.phase)) 0 s'.threads s.threads fresh_thread
        (inv'.threads ∙ sym inv.threads) (λ u. ap f (alike u))

    direct-same : (word_at s' 0).direct ≡ 1
    direct-same = omega (
      arith,
      inv'.direct,
      sums-alike (λ r. r.direct),
      inv.direct,
      ap (λ (y : Word). y.direct) root,
    )

    tree-same : (word_at s' 0).tree ≡ 0
    tree-same =
        dec-both (dec_lt 0 (word_at s' 0).tree)
        (λ a. let (d, k) = count-owed z s' inv' a in
        absurd (omega (arith, k, sums-alike (λ r. r.owes d), no-owing d)))
        (λ a. omega arith)

    -- a queued writer would wait in s too
    no-writers : (ws : List ℕ) → s'.queue.writers ≡ ws → length ws ≡ 0
    no-writers [] e = refl
    no-writers (u ∷ ws) e =
        let k = rw e at (inv'.queued u) in
        absurd (omega (arith, k, bit-pow u u, at_self u, ap (λ (r : Role). r.waits) (alike u), no-waits u))

    open-same : (word_at s' 0).closed ≡ 0
    open-same =
        dec-both (ℕ_discrete (word_at s' 0).closed 1)
        (λ c. let k : some_shut (word_at s' 0) ≡ 1 = rw c (omega (arith, direct-same)) in
        absurd (omega (arith, inv'.writers, k, no-writers _ refl, sums-alike (λ r. r.joins), no_joins)))
        (λ c. omega (arith, inv'.flag))

    pub root-same : word_at s' 0 ≡ v
    root-same = word-eq (word_at s' 0) (opened 1 0) direct-same tree-same open-same ∙ found

-- ---- of the states of a lock through a run, each with the invariant, whose rows leave other threads that are awake

pub restored_by : (z : Sizes) (state : ℕ → State) (rows : ℕ → Row) (n : ℕ)
    → ((i : ℕ) → Inv z (state i) × Quiet z (state i))
    → ((k : ℕ) → k < n → (u : ℕ) → u ≢ (rows k).thread → (role_at z (state k) u).sleeps ≡ 0
    → thread_at (state (suc k)) u ≡ thread_at (state k) u)
    → Restored state rows n
restored_by z state rows n holds leaves t i j v le most w by reads =
    root-same z (state i) inv quiet t v w (state j) (holds j).0
    (subst Same (omega arith) (stays (j - i) (omega arith))) reads
  where
    inv : Inv z (state i)
    inv = (holds i).0

    quiet : Quiet z (state i)
    quiet = (holds i).1

    Same : ℕ → Type 0
    Same k = (u : ℕ) → u ≢ t → thread_at (state k) u ≡ thread_at (state i) u

    stays : (d : ℕ) → i + d ≤ j → Same (i + d)
    stays zero h = subst Same (omega arith) (λ u m. refl)
    stays (suc d) h =
        subst Same (omega arith)
        (λ u m. let e = stays d (omega arith) u m in
        leaves (i + d) (omega arith) u (rw (by (i + d) (omega arith) (omega arith)) m)
        (ap (λ (x : Thread). (role z x.phase).sleeps) e ∙ no-sleeps z (state i) inv quiet t v w u)
        ∙ e)

pub restored : (z : Sizes) → InRange z → (rs : List Row)
    → Restored (state_at z rs) (row_at z rs) (run z fresh rs).taken
restored z range rs =
    restored_by z (state_at z rs) (row_at z rs) _ (λ i. (inv_at z range rs i, held-quiet z range (take i rs)))
    (λ k l. subst (Aside z (state_at z rs k) (row_at z rs k).thread) (row-leads z fresh rs k _ call_begun l)
    (aside z (state_at z rs k) (row_at z rs k) (inv_at z range rs k)))

-- ---- the downgrade's end

module _ (z : Sizes) (t : ℕ) (l : t < z.threads) where
  -- the row of thread t that goes on from the phase p
  goes_on : (s : State) (p : Phase) → (thread_at s t).phase ≡ p → step z s (row t 0) ≡ perform z s t (op z.fan p)
  unfolding step row_op obey
  goes_on s p e = rw (lt-ltb t z.threads l, e)

  -- t reads after n rows more
  abbrev Comes : State → ℕ → Type 0
  Comes s n = (thread_at (run z s (replicate n (row t 0))).state t).phase ≡ Reading 0

  phase-set : (s : State) (p : Phase) → t < length s.threads → (thread_at (goes s t p) t).phase ≡ p
  phase-set s p h = ap (λ (x : Thread). x.phase) (get_or-set_same s.threads t _ fresh_thread h)

  -- a row that takes t on from p, in the state s₁ to p'
  comes-on : (s s₁ : State) (p p' : Phase) (e : Entry) (n : ℕ) → (thread_at s t).phase ≡ p
      → t < length s₁.threads → perform z s t (op z.fan p) ≡ taken (goes s₁ t p') e
      → ((thread_at (goes s₁ t p') t).phase ≡ p' → t < length (goes s₁ t p').threads → Comes (goes s₁ t p') n)
      → Comes s (suc n)
  unfolding run runs
  comes-on s s₁ p p' e n i h q f = rw (goes_on s p i ∙ q) (f (phase-set s₁ p' h) (rw length-set h))

  releases : (s : State) → (thread_at s t).phase ≡ DowngradeRelease 0 → t < length s.threads → Comes s 1
  unfolding run runs op perform
  releases s e h =
      comes-on s (with_mutex s none) (DowngradeRelease 0) (Reading 0) mutex_released 0 e h refl (λ i j. i)

  stores : (s : State) → (thread_at s t).phase ≡ DowngradeStore 0 → t < length s.threads → Comes s 2
  unfolding op perform
  stores s e h =
      comes-on s (with_word s 0 (stored (1 + size 0) (writer_queued s.queue))) (DowngradeStore 0) (DowngradeRelease 0)
      (plain_store 0) 1 e h refl (λ i j. releases _ i j)

  -- nobody is woken
  takes : (s : State) → (thread_at s t).phase ≡ DowngradeNext → t < length s.threads → s.queue.readers ≡ 0
      → Comes s 3
  unfolding op perform
  takes s e h q =
      comes-on s (with_queue s (without_readers s.queue)) DowngradeNext (DowngradeStore s.queue.readers)
      queue_changed 2 e h refl (λ i j. stores _ (i ∙ ap DowngradeStore q) j)

  lowers : (s : State) → (thread_at s t).phase ≡ DowngradeTake → t < length s.threads → s.queue.readers ≡ 0
      → s.mutex ≡ none → Comes s 4
  unfolding op perform
  lowers s e h q m =
      comes-on s (with_mutex s (some t)) DowngradeTake DowngradeNext mutex_taken 3 e h
      (ap (locks s t DowngradeNext) m) (λ i j. takes _ i j q)

  -- order 4 to a thread that writes
  downgrades : (s : State)
      → (thread_at s t).phase ≡ Writing → step z s (row t 4) ≡ taken (goes s t DowngradeTake) call_begun
  unfolding step row_op obey standing perform
  downgrades s e = rw (lt-ltb t z.threads l, e)

  -- the swap of an upgrade that finds what it expects
  swaps : (s : State) (v : Word) → (thread_at s t).phase ≡ UpgradeSwap v → word_at s 0 ≡ v
      → step z s (row t 0) ≡ taken (goes (with_word s 0 (closed 0 0)) t Writing) (swap_done 0)
  unfolding op perform
  swaps s v e q = goes_on s (UpgradeSwap v) e ∙ rw (q, same_self v)

pub ends : (z : Sizes) → InRange z → (rs : List Row) → Ends z (run z fresh rs).state
unfolding run runs
ends z h rs t v l w m =
    let q = nobody z s (held z h rs).inv (held-quiet z h rs) t v w in
    let i = there z s (held z h rs).inv (held-quiet z h rs) t v w in
    let writes = phase-set z t l (with_word s 0 (closed 0 0)) Writing i in
    let begun = phase-set z t l s₁ DowngradeTake (rw length-set i) in
    rw (swaps z t l s v w.phase w.found, downgrades z t l s₁ writes)
    (lowers z t l s₂ begun (rw (length-set, length-set) i) q.readers m)
  where
    s : State
    s = (run z fresh rs).state

    -- after the swap, and at the downgrade's first row
    s₁ : State
    s₁ = goes (with_word s 0 (closed 0 0)) t Writing

    s₂ : State
    s₂ = goes s₁ t DowngradeTake
