-- The lock locks, in every state that has the invariant; and the stored number of waiting writers is theirs.
use Rattle.laws.proofs.Lock.{ℕ, zero, suc, ◌+◌, ◌*◌, ◌≤◌, ◌<◌, min, ◌≡◌, refl, sym, subst, ap, ◌∙◌, ◌≢◌, inl}
use Rattle.laws.proofs.Lock.{inr, true, List, not-suc-le-zero, arith, ℕ_discrete, dec_lt, length}
use Rattle.laws.proofs.Lock.{List·getD-eq-default, ◌⊎◌, Part, as_nobody, as_reader, as_writer, counts_as, Resting}
use Rattle.laws.proofs.Lock.{Reads, Writes, Locks, parent-lt, dec-both, clash, Word, opened, closed, is_closed}
use Rattle.laws.proofs.Lock.{total, parent, Phase, Idle, Reading, Standing, standing, Thread, Sizes, State}
use Rattle.laws.proofs.Lock.{fresh, fresh_thread, word_at, thread_at, Row, run, InRange, Asleep}
use Rattle.laws.specs.Waiting.{Tallied}
use Rattle.laws.specs.Departing.{Departs}
use Rattle.laws.proofs.Sum.{sum-some, at_other}
use Rattle.laws.proofs.Role.{Role, place, role, Right, tot-mem, node_at, kid, writers_of, zero_shut, some_shut}
use Rattle.laws.proofs.Role.{role_at, sums, Inv, tot-some}
use Rattle.laws.proofs.Facts.{zero-closed, zero-le-one, word_count, tot-two}
use Rattle.laws.proofs.Calls.{owed-count, entered-count, last-writer}
use Rattle.laws.proofs.Seen.{reads, writes, Shows, counted, by-seen}
use Rattle.laws.proofs.Runs.{held}

pub in-range : (s : State) (t : ℕ) → (thread_at s t).phase ≢ Idle → t < length s.threads
in-range s t h =
    dec-both (dec_lt t (length s.threads)) (λ a. a)
    (λ a. let q = List·getD-eq-default s.threads fresh_thread {n = t} (omega arith) in
    absurd (h (ap (λ (x : Thread). x.phase) q)))

-- who counts is there
counts-there : (s : State) (t : ℕ) (c : Part) → counts_as (thread_at s t).phase ≡ c → c ≢ as_nobody
    → t < length s.threads
unfolding counts_as
counts-there s t c e n = in-range s t (λ q. n (sym e ∙ ap counts_as q))

-- a product above 0 has both factors above 0
factors : (a b : ℕ) → 0 < a * b → (0 < a) × (0 < b)
factors zero b h = omega arith
factors (suc a) zero h = omega arith
factors (suc a) (suc b) h = omega arith

child-below : (F c w : ℕ) → 0 < node_at F c w → c < w
child-below F c zero h = absurd (not-suc-le-zero h)
child-below F c (suc w) h =
    dec-both (ℕ_discrete c (parent F (suc w))) (λ e. omega (arith, parent-lt F (suc w) (omega arith)))
    (λ e. omega (arith, at_other (parent F (suc w)) c e))

module _ (z : Sizes) (s : State) (inv : Inv z s) where
  -- what a thread that counts adds to a sum
  adds : (f : Role → ℕ) (t : ℕ) → t < length s.threads → f (role_at z s t) ≤ sums z s f
  adds f t l = tot-mem z f s.threads t l

  writer-owns : (t : ℕ) → counts_as (thread_at s t).phase ≡ as_writer → (role_at z s t).own ≡ 1
  writer-owns t e = subst (Shows z (thread_at s t).phase) e ((counted (thread_at s t).phase).shows z)

  writes-shut : (t : ℕ) → counts_as (thread_at s t).phase ≡ as_writer → word_at s 0 ≡ closed 0 0
  writes-shut t e =
      let a = adds (λ r. r.own) t (counts-there s t as_writer e writes) in
      zero-closed (word_at s 0) (omega (arith, inv.owner, zero-le-one (word_at s 0), writer-owns t e))

  pub reads-count : (t : ℕ) → counts_as (thread_at s t).phase ≡ as_reader → 0 < total (word_at s 0)
  reads-count t e = elim (subst (Shows z (thread_at s t).phase) e ((counted (thread_at s t).phase).shows z)) [
    | inl a ↦ omega (arith, inv.direct, adds (λ r. r.direct) t there)
    | inr a ↦
        let k = adds (λ r. r.owes a.0) t there in
        let h : 0 < (word_at s a.0).tree = omega (arith, inv.counts a.0, k, a.1) in
        omega (arith, word_count z s inv a.0 h)
  ]
    where
      there : t < length s.threads
      there = counts-there s t as_reader e reads

  -- from a word with a count down to one that is owed
  down-owed : (k c : ℕ) → length s.words ≤ c + k → 0 < (word_at s c).tree
      → (d : ℕ) × (0 < sums z s (λ r. r.owes d))
  down-owed zero c l h =
      let q = List·getD-eq-default s.words (opened 0 0) {n = c} (omega arith) in
      absurd (omega (arith, ap (λ (v : Word). v.tree) q))
  down-owed (suc k) c l h =
      dec-both (dec_lt 0 (sums z s (λ r. r.owes c))) (λ a. (c, a))
      (λ a. let (w, q) = sum-some (kid z.fan c) 0 s.words (opened 0 0) (omega (arith, inv.counts c)) in
      let j : 0 + w ≡ w = omega arith in
      let y = subst (λ (x : ℕ). 0 < kid z.fan c x (word_at s w)) j q in
      let (u, v) = factors (node_at z.fan c w) (min (word_at s w).tree 1) y in
      down-owed k w (omega (arith, child-below z.fan c w u)) (omega arith))

  pub count-owed : 0 < (word_at s 0).tree → (d : ℕ) × (0 < sums z s (λ r. r.owes d))
  count-owed h = down-owed (length s.words) 0 (omega arith) h

  -- ---- while every thread rests, only readers owe, only a writer owns, no writer is about to join, nobody has a group
  -- in hand, and only sleepers wait

  pub record Rested (t : ℕ) : Type 0 where
    pub reader : Reads s ⊎ (((c : ℕ) → (role_at z s t).owes c ≡ 0) × ((role_at z s t).direct ≡ 0))
    pub writer : Writes s ⊎ ((role_at z s t).own ≡ 0)
    pub joins : (role_at z s t).joins ≡ 0
    pub hand : (role_at z s t).hand ≡ 0
    pub waits : (thread_at s t).phase ≢ Asleep → (role_at z s t).waits ≡ 0

  pub rested : (t : ℕ) → standing (thread_at s t).phase ≢ Standing.Calling → Rested t
  unfolding place
  rested t =
      by-seen (λ (p : Phase). (thread_at s t).phase ≡ p → standing p ≢ Standing.Calling → Rested t)
      (λ e n. rests (inr (λ c. rw e, rw e)) (inr (rw e)) (rw e, rw e) (λ a. rw e))
      (λ e n. rests (inr (λ c. rw e, rw e)) (inl (record { thread = t; writes = e })) (rw e, rw e) (λ a. rw e))
      (λ e n. rests (inr (λ c. rw e, rw e)) (inr (rw e)) (rw e, rw e) (λ a. absurd (a e)))
      (λ k e n. let (o, j, h, w) = reads-role k in
      rests (inl (record { thread = t; ticket = k; reads = e })) (inr (rw e o)) (rw e j, rw e h) (λ a. rw e w))
      (λ p q c e n. absurd (n q)) (thread_at s t).phase refl
    where
      reads-role : (k : ℕ) → ((role z (Reading k)).own ≡ 0) × ((role z (Reading k)).joins ≡ 0)
          × ((role z (Reading k)).hand ≡ 0) × ((role z (Reading k)).waits ≡ 0)
      reads-role zero = (refl, refl, refl, refl)
      reads-role (suc k) = (refl, refl, refl, refl)

      rests : (Reads s ⊎ (((c : ℕ) → (role_at z s t).owes c ≡ 0) × ((role_at z s t).direct ≡ 0)))
          → (Writes s ⊎ ((role_at z s t).own ≡ 0)) → ((role_at z s t).joins ≡ 0) × ((role_at z s t).hand ≡ 0)
          → ((thread_at s t).phase ≢ Asleep → (role_at z s t).waits ≡ 0) → Rested t
      rests a b c d = record { reader = a; writer = b; joins = c.0; hand = c.1; waits = d }

  module _ (rest : Resting s) where
    total-reads : 0 < total (word_at s 0) → Reads s
    total-reads h =
        dec-both (dec_lt 0 (word_at s 0).direct)
        (λ a. let k : 0 < sums z s (λ r. r.direct) = omega (arith, inv.direct) in
        let (t, q) = tot-some z (λ r. r.direct) s.threads k in
        elim (rested t (rest t)).reader [ inl r ↦ r | inr n ↦ absurd (omega (arith, n.1)) ])
        (λ a. let (d, k) = count-owed (omega arith) in
        let (t, q) = tot-some z (λ r. r.owes d) s.threads k in
        elim (rested t (rest t)).reader [ inl r ↦ r | inr n ↦ absurd (omega (arith, n.0 d)) ])

    shut-writes : word_at s 0 ≡ closed 0 0 → Writes s
    shut-writes q =
        let (t, h) = tot-some z (λ r. r.own) s.threads (omega (arith, inv.owner, ap zero_shut q)) in
        elim (rested t (rest t)).writer [ inl w ↦ w | inr n ↦ absurd (omega arith) ]

    waits : is_closed (word_at s 0) ≡ true → 0 < total (word_at s 0) → 0 < writers_of s.queue
    waits q h =
        dec-both (dec_lt 0 (sums z s (λ r. r.joins)))
        (λ a. let (t, y) = tot-some z (λ r. r.joins) s.threads a in
        absurd (omega (arith, (rested t (rest t)).joins)))
        (λ a. let k : some_shut (word_at s 0) ≡ 1 = rw q (omega arith) in omega (arith, inv.writers))

  pub locks-of : Locks s
  unfolding place counts_as
  locks-of =
      record {
        alone =
            λ t u n e e'.
            let i = counts-there s t as_writer e writes in
            let j = counts-there s u as_writer e' writes in
            let k = tot-two z (λ r. r.own) refl s.threads t u i j n in
            omega (arith, inv.owner, zero-le-one (word_at s 0), writer-owns t e, writer-owns u e');
        unread = λ t u e e'. omega (arith, reads-count u e', ap total (writes-shut t e));
        reading = reads-count;
        writing = writes-shut;
        counted = λ rest. (total-reads rest, λ r. reads-count r.thread (ap counts_as r.reads));
        shut = λ rest. (shut-writes rest, λ r. writes-shut r.thread (ap counts_as r.writes));
        awaited = waits;
      }

  -- ---- what a departure and the last reader find

  pub departs-of : Departs s
  unfolding place
  departs-of =
      record {
        read = λ t d k e. owed-count z s t inv (busy t _ e (λ q. clash cc)) k d (ap (role z) e);
        swap = λ t d k v e. owed-count z s t inv (busy t _ e (λ q. clash cc)) k d (ap (role z) e);
        remembered = λ t d k v e. (subst (Right z) e (inv.right t)).2;
        read_direct = λ t e. entered-count z s t inv (busy t _ e (λ q. clash cc)) (ap (role z) e);
        swap_direct = λ t v e. entered-count z s t inv (busy t _ e (λ q. clash cc)) (ap (role z) e);
        remembered_direct = λ t v e. subst (Right z) e (inv.right t);
        hand_over = λ t e. last-writer z s t inv (busy t _ e (λ q. clash cc)) (ap (role z) e);
      }
    where
      busy : (t : ℕ) (p : Phase) → (thread_at s t).phase ≡ p → p ≢ Idle → t < 64
      busy t p e n = omega (arith, in-range s t (λ q. n (sym e ∙ q)), inv.threads)

-- the stored number of waiting writers
pub tallied : (z : Sizes) → InRange z → (rs : List Row) → Tallied (run z fresh rs).state
tallied z h rs = (held z h rs).inv.named.tally
