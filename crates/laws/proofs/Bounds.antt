-- What the invariant bounds: counts, the words that a row touches, the groups that it wakes, and the room in the queue.
use Rattle.laws.proofs.Lock.{ℕ, zero, suc, ◌+◌, ◌*◌, ◌^◌, ◌≤◌, ◌<◌, zero-le, min, ◌≡◌, refl, sym, subst, List, [], ◌∷◌}
use Rattle.laws.proofs.Lock.{arith, ℕ_discrete, eqb, length, if-both, Word, opened, parent, only, Thread, Sizes}
use Rattle.laws.proofs.Lock.{Op, begin, read, ask, swap, stay, store, lock, release, join, next, take_readers}
use Rattle.laws.proofs.Lock.{wake, note, refuse, op, State, fresh_thread, word_at, thread_at, Row, row_op, All}
use Rattle.laws.proofs.Lock.{dec-both}
use Rattle.laws.proofs.Sum.{sum-most, bit_at, at_self, at_other, bit-pow, pow-lt, size-pow, sum_to, sum_to-bits}
use Rattle.laws.proofs.Sum.{sum_to-add, sum_to-le}
use Rattle.laws.proofs.Role.{Whole, known, most, place, role, kid, numbers_of, bits_of, writers_of, role_at, Inv}
use Rattle.laws.proofs.Perform.{Keeps}
use Rattle.laws.proofs.Calls.{calls}
use Rattle.laws.proofs.Runs.{by_row}

-- ---- the queue: each thread is in it once at most, so its writers are few

-- k is 64, and kept a variable so that sums over it do not unfold
writers-le : (k : ℕ) → k ≡ 64 → (ws : List ℕ) → All (λ (w : ℕ). w < 64) ws → length ws ≤ sum_to k (λ u. numbers_of u ws)
writers-le k e [] a = zero-le
writers-le k e (w ∷ ws) a =
    let l : only w < 2 ^ k = rw e (pow-lt w 64 a.0) in
    omega (
      arith,
      writers-le k e ws a.1,
      sum_to-add k (bit_at (only w)) (λ u. numbers_of u ws),
      sum_to-bits k (only w) l,
      size-pow w,
    )

few : (k : ℕ) → k ≡ 64 → (ws : List ℕ) → All (λ (w : ℕ). w < 64) ws → ((u : ℕ) → numbers_of u ws ≤ 1) → length ws ≤ k
few k e ws a h = omega (arith, writers-le k e ws a, sum_to-le k (λ u. numbers_of u ws) h)

module _ (z : Sizes) (s : State) (inv : Inv z s) where
  bits-le : (u : ℕ) → bits_of u s.queue ≤ (role_at z s u).waits
  bits-le u = omega (arith, inv.queued u)

  -- with a thread that does not wait put before them, the writers still are few
  pub queue-room : (t : ℕ) → t < 64 → (role_at z s t).waits ≡ 0 → writers_of s.queue < 64
  queue-room t l w =
      few 64 refl (t ∷ s.queue.writers) (l, inv.named.numbers)
      (λ u. dec-both (ℕ_discrete u t)
      (λ e. subst (λ (x : ℕ). bit_at (only t) x + numbers_of x s.queue.writers ≤ 1) (sym e)
      (omega (arith, bit-pow t t, at_self t, bits-le t)))
      (λ n. omega (arith, bit-pow t u, at_other t u n, bits-le u, (known (place z (thread_at s u).phase)).once)))

  -- ---- counts

  kid-le : (c w : ℕ) (v : Word) → kid z.fan c w v ≤ 1
  kid-le c zero v = omega arith
  kid-le c (suc w) v = if-both (λ (x : ℕ). x * min v.tree 1 ≤ 1)
      (eqb c (parent z.fan (suc w))) (λ e. omega arith) (λ e. omega arith)

  -- by the tree 64 threads owe at most 2 each, and there are at most 32 children
  pub count_most : (w : ℕ) → (word_at s w).tree ≤ 160
  count_most w =
      omega (
        arith,
        inv.counts w,
        inv.threads,
        inv.words,
        sum-most (λ i (h : Thread). (role z h.phase).owes w) 2 0
            s.threads fresh_thread (λ j. (most (place z (thread_at s j).phase) (inv.right j)).0 w),
        sum-most (kid z.fan w) 1 0 s.words (opened 0 0) (λ j. kid-le w (0 + j) (word_at s j)),
      )

  -- directly each answers for at most 65
  pub direct-most : (word_at s 0).direct ≤ 4160
  direct-most =
      omega (
        arith,
        inv.direct,
        inv.threads,
        sum-most (λ i (h : Thread). (role z h.phase).direct) 65 0
            s.threads fresh_thread (λ j. (most (place z (thread_at s j).phase) (inv.right j)).1),
      )

-- ---- what a row does

-- the words that an operation touches are nodes, a group that it wakes is whole, and the queue has room for who joins
abbrev pub Bounded : Sizes → State → Op → Type 0
Bounded z s (begin p) = Unit {0}
Bounded z s (read w k) = w < z.nodes
Bounded z s (ask k p) = 0 < z.nodes
Bounded z s (swap w old new p back) = w < z.nodes
Bounded z s stay = Unit {0}
Bounded z s (store f p) = Unit {0}
Bounded z s (lock p) = Unit {0}
Bounded z s (release p) = Unit {0}
Bounded z s (join e p) = writers_of s.queue < 64
Bounded z s (next last k) = Unit {0}
Bounded z s (take_readers k) = Unit {0}
Bounded z s (wake g p) = Whole g
Bounded z s note = Unit {0}
Bounded z s (refuse n) = Unit {0}

module _ (z : Sizes) (s : State) (inv : Inv z s) where
  bounded : (t : ℕ) → t < 64 → (o : Op) → Keeps z s t (role_at z s t) o → Bounded z s o
  bounded t l (begin p) k = tt
  bounded t l (read w f) k = k.0
  bounded t l (ask f p) k = k.0
  bounded t l (swap w old new p back) k = k.0
  bounded t l stay k = tt
  bounded t l (store f p) k = tt
  bounded t l (lock p) k = tt
  bounded t l (release p) k = tt
  bounded t l (join e p) k = queue-room z s inv t l k.0
  bounded t l (next last f) k = tt
  bounded t l (take_readers f) k = tt
  bounded t l (wake g p) k = k.group
  bounded t l note k = tt
  bounded t l (refuse n) k = tt

  pub row-bounded : (r : Row) → Bounded z s (row_op z (thread_at s r.thread).phase r)
  row-bounded r = by_row z s r inv (Bounded z s) (bounded r.thread) (λ n h. tt)

  -- of a thread that goes on
  pub op-bounded : (t : ℕ) → t < 64 → Bounded z s (op z.fan (thread_at s t).phase)
  op-bounded t l = bounded t l (op z.fan (thread_at s t).phase) (calls z s t inv l (thread_at s t).phase refl)
