-- Demand 3 at each lock, from that of a single lock over its own rows: a count over the journal of both is a count over
-- theirs.
use Rattle.lock.proofs.Library.{◌||◌, ℕ, zero, suc, ◌+◌, ◌≤◌, ◌<◌, ◌≡◌, refl, sym, subst, ap, ◌∙◌, ◌≢◌, Bool, true}
use Rattle.lock.proofs.Library.{false, not, ◌&&◌, List, [], ◌∷◌, not-suc-le-zero, le_of_suc-le-suc, arith, ℕ_discrete}
use Rattle.lock.proofs.{Library.{eqb, ltb, length, take, eqb-true, eq-eqb, ne_eqb, lt-ltb, le-ltb}, Demand.counted-all}
use Rattle.lock.proofs.{Library.{zero-le, le_refl}, Run.entries-taken, Machine.entries-take}
use Rattle.laws.proofs.Lock.{Entry, Sizes, fresh, InRange, one, tally, is_failure, is_on, is_by, All, Counted, Row}
use Rattle.laws.proofs.Cases.{dec-both}
use Rattle.pair.specs.Pair.{Side, first, second, lock_of, fresh_pair, own_row, Note, turn, run, base, written}
use Rattle.pair.specs.{Pair.journal, Apart.{is, keep, own_rows, own_entries}, Demand.{is_at, others_changes, CountedAt, Demand3}}
use Rattle.pair.proofs.{Apart.separate, Words.{Below, kept_pair}}

-- ---- a count over the rows of both locks is one over a lock's own, where no row of the other lock counts

abbrev note : Side → Entry → Note
note y e = record { side = y; entry = e }

abbrev Agrees : Bool → Bool → Bool → Type 0
Agrees true a b = a ≡ b
Agrees false a b = a ≡ false

module _ (z : Sizes) (x : Side) (test test' : Row → Entry → Bool)
    (agree : (y : Side) (r : Row) (e : Entry) → e.word < 64 → Agrees (is x y) (test r
    (written (note y e))) (test' (own_row r) e)) where
  own-tally : (rs : List Row) (ms : List Note)
      → All (Below z) ms → tally test rs (journal ms) ≡ tally test' (own_rows x rs ms) (own_entries x ms)
  own-tally [] ms h = refl
  own-tally (r ∷ rs) [] h = refl
  own-tally (r ∷ rs) (m ∷ ms) h = from (is x m.side) (agree m.side r m.entry h.0.below) (own-tally rs ms h.1)
    where
      from : (b : Bool) → Agrees b (test r (written m)) (test' (own_row r) m.entry)
          → tally test rs (journal ms) ≡ tally test' (own_rows x rs ms) (own_entries x ms)
          → one (test r (written m)) + tally test rs (journal ms)
          ≡ tally test' (keep b (own_row r) (own_rows x rs ms)) (keep b m.entry (own_entries x ms))
      from true a k = rw (a, k)
      from false a k = rw (a, k) (omega arith)

-- ---- the tests

plus-eqb : (a w c : ℕ) → eqb (a + c) (w + c) ≡ eqb a w
plus-eqb a w c =
    dec-both (ℕ_discrete a w) (λ e. eq-eqb (a + c) (w + c) (omega arith) ∙ sym (eq-eqb a w e))
    (λ n. ne_eqb (a + c) (w + c) (λ q. n (omega arith)) ∙ sym (ne_eqb a w n))

far : (a : ℕ) → ltb (a + 64) 64 ≡ false
far a = le-ltb (a + 64) 64 (omega arith)

pub at_own : (x y : Side) (e : Entry) → e.word < 64 → is_at x (written (note y e)) ≡ is x y
at_own first first e h = lt-ltb (e.word + 0) 64 (omega arith)
at_own first second e h = far e.word
at_own second first e h = ap not (lt-ltb (e.word + 0) 64 (omega arith))
at_own second second e h = ap not (far e.word)

on-own : (x y : Side) (w : ℕ) (e : Entry)
    → w < 64 → e.word < 64 → is_on (w + base x) (written (note y e)) ≡ (is x y && is_on w e)
on-own first first w e l h = plus-eqb e.word w 0
on-own first second w e l h = ne_eqb (e.word + 64) (w + 0) (λ q. omega arith)
on-own second first w e l h = ne_eqb (e.word + 0) (w + 64) (λ q. omega arith)
on-own second second w e l h = plus-eqb e.word w 64

agree_on : (i f o b : Bool) → Agrees i (f && (i && o) && b) (f && o && b)
agree_on true f o b = refl
agree_on false true o b = refl
agree_on false false o b = refl

agree_at : (i a : Bool) → Agrees i (a && i) a
agree_at true true = refl
agree_at true false = refl
agree_at false true = refl
agree_at false false = refl

-- ---- the rows of one thread

all-by : (t : ℕ) (rs : List Row) (es : List Entry)
    → length rs ≤ length es → tally (λ r e. not (is_by t r)) rs es ≡ 0 → All (λ (r : Row). r.thread ≡ t) rs
all-by t [] es l h = tt
all-by t (r ∷ rs) [] l h = absurd (not-suc-le-zero l)
all-by t (r ∷ rs) (e ∷ es) l h = (from (is_by t r) refl (omega arith), all-by t rs es (le_of_suc-le-suc l) (omega arith))
  where
    from : (b : Bool) → is_by t r ≡ b → one (not b) ≡ 0 → r.thread ≡ t
    from true q k = eqb-true r.thread t q
    from false q k = absurd (omega arith)

none-kind : (rs : List Row) (es : List Entry)
    → All (λ (e : Entry). e.kind ≢ 3) es → tally (λ r e. is_failure e) rs es ≡ 0
none-kind [] es a = refl
none-kind (r ∷ rs) [] a = refl
none-kind (r ∷ rs) (e ∷ es) a = rw (ne_eqb e.kind 3 a.0, none-kind rs es a.1)

take-journal : (i : ℕ) (ms : List Note) → journal (take i ms) ≡ take i (journal ms)
take-journal zero ms = refl
take-journal (suc i) [] = refl
take-journal (suc i) (m ∷ ms) = ap (λ (es : List Entry). written m ∷ es) (take-journal i ms)

-- ---- failures, word by word

-- f 0 + … + f (n − 1)
abbrev summed : (ℕ → ℕ) → ℕ → ℕ
summed f zero = 0
summed f (suc n) = summed f n + f n

summed-one : (f : ℕ → ℕ) (n k : ℕ) → k < n → f k ≤ summed f n
summed-one f zero k h = absurd (omega arith)
summed-one f (suc n) k h =
    dec-both (ℕ_discrete k n) (λ e. rw e (omega arith)) (λ q. let i = summed-one f n k (omega (arith, q)) in omega arith)

summed-more : (f g : ℕ → ℕ) (n : ℕ) → summed f n + summed g n ≡ summed (λ w. f w + g w) n
summed-more f g zero = refl
summed-more f g (suc n) = let i = summed-more f g n in omega arith

-- each failure is on one of the words, so that all are at most the sum over these
by-words : (N t : ℕ) (rs : List Row) (es : List Entry) → All (λ (e : Entry). is_failure e ≡ true → e.word < N) es
    → tally (λ r e. is_failure e && is_by t r) rs es
    ≤ summed (λ w. tally (λ r e. is_failure e && is_on w e && is_by t r) rs es) N
by-words N t [] es h = zero-le
by-words N t (r ∷ rs) [] h = zero-le
by-words N t (r ∷ rs) (e ∷ es) h =
    let i = by-words N t rs es h.1 in
    let m = summed-more (λ w. one (is_failure e && is_on w e && is_by t r))
    (λ w. tally (λ r e. is_failure e && is_on w e && is_by t r) rs es) N in
    let f = first (is_failure e) (is_by t r) refl in
    omega arith
  where
    first : (a b : Bool) → is_failure e ≡ a → one (a && b) ≤ summed (λ w. one (a && is_on w e && b)) N
    first false b q = zero-le
    first true false q = zero-le
    first true true q =
        let s = summed-one (λ w. one (true && is_on w e && true)) N e.word (h.0 q) in
        let o : is_on e.word e ≡ true = eq-eqb e.word e.word refl in
        let k = rw o at s in k

-- a lock's own entries
own-failed : (z : Sizes) (x : Side) (ms : List Note) → All (Below z) ms
    → All (λ (e : Entry). is_failure e ≡ true → e.word < z.nodes) (own_entries x ms)
own-failed z x [] h = tt
own-failed z x (m ∷ ms) h = from (is x m.side) (own-failed z x ms h.1)
  where
    from : (b : Bool) → All (λ (e : Entry). is_failure e ≡ true → e.word < z.nodes) (own_entries x ms)
        → All (λ (e : Entry). is_failure e ≡ true → e.word < z.nodes) (keep b m.entry (own_entries x ms))
    from true k = (h.0.failed, k)
    from false k = k

-- ---- the claims

module _ (z : Sizes) (range : InRange z) where
  -- of rows of both locks, all that the run takes
  pub counted : (x : Side) (rs : List Row)
      → CountedAt z x rs (journal (run z fresh_pair rs).entries) (run z fresh_pair rs).state
  counted x rs =
      record {
        bounded = λ t w ht hw. let l : w < 64 = omega (arith, range.nodes) in omega (
          arith,
          on-x (λ k. eqb k 3) (λ u. eqb u t) w l,
          on-x (λ k. eqb k 2 || eqb k 5) (λ u. not (eqb u t)) w l,
          single.bounded t w ht hw,
        );
        printed = λ t ht. single.printed t ht ∙ sym (at_x (λ u k. eqb k 3 && eqb u t));
        summed = λ t ht.
            let a = at_x (λ u k. eqb k 3 && eqb u t) in
            let b = by-words z.nodes t (own_rows x rs ms) (own_entries x ms) (own-failed z x ms below) in
            let c = others t ht z.nodes (le_refl _) in
            omega arith;
        alone = λ t h.
            let a = all-by t (own_rows x rs ms)
            (own_entries x ms) (omega (arith, long)) (sym (at_x (λ u k. not (eqb u t))) ∙ h) in
            at_x (λ u k. eqb k 3) ∙ none-kind (own_rows x rs ms) (own_entries x ms) (single.alone t a);
      }
    where
      ms : List Note
      ms = (run z fresh_pair rs).entries

      below : All (Below z) ms
      below = (kept_pair z range rs).entries

      single : Counted z (own_rows x rs ms) (own_entries x ms) (lock_of x (run z fresh_pair rs).state)
      single = let c = counted-all z range (own_rows x rs ms) in rw (separate z x rs).alone at c

      long : length (own_entries x ms) ≡ length (own_rows x rs ms)
      long = let k = entries-taken z fresh (own_rows x rs ms) in rw (separate z x rs).alone at k

      -- of a test on a word, which besides that reads the kind and the thread; and of one that reads these alone
      on-x : (K B : ℕ → Bool) (w : ℕ) → w < 64
          → tally (λ r e. K e.kind && is_on (w + base x) e && B r.thread) rs (journal ms)
          ≡ tally (λ r e. K e.kind && is_on w e && B r.thread) (own_rows x rs ms) (own_entries x ms)
      on-x K B w l =
          own-tally z x _ _
          (λ y r e h. subst (λ (c : Bool). Agrees (is x y) (K e.kind && c && B r.thread)
          (K e.kind && is_on w e && B r.thread))
          (sym (on-own x y w e l h)) (agree_on (is x y) (K e.kind) (is_on w e) (B r.thread))) rs ms below

      -- word by word a thread's failures are at most the others' changes, and so are the sums
      others : (t : ℕ) → t < z.threads → (n : ℕ) → n ≤ z.nodes
          → summed (λ w. tally (λ r e. is_failure e && is_on w e && is_by t r) (own_rows x rs ms) (own_entries x ms)) n
          ≤ others_changes x t n rs (journal ms)
      others t ht zero h = zero-le
      others t ht (suc n) h =
          omega (
            arith,
            others t ht n (omega arith),
            on-x (λ k. eqb k 2 || eqb k 5) (λ u. not (eqb u t)) n (omega (arith, range.nodes)),
            single.bounded t n ht (omega arith),
          )

      at_x : (T : ℕ → ℕ → Bool) → tally (λ r e. T r.thread e.kind && is_at x e) rs (journal ms)
          ≡ tally (λ r e. T r.thread e.kind) (own_rows x rs ms) (own_entries x ms)
      at_x T =
          own-tally z x _ _
          (λ y r e h. subst (λ (c : Bool). Agrees (is x y) (T r.thread e.kind && c) (T r.thread e.kind))
          (sym (at_own x y e h)) (agree_at (is x y) (T r.thread e.kind))) rs ms below

pub demand3-pair : Demand3
unfolding run
demand3-pair z range x rs i l =
    subst (λ (es : List Entry). CountedAt z x (take i rs) es (run z fresh_pair (take i rs)).state)
    (ap journal (entries-take (turn z) fresh_pair rs i) ∙ take-journal i (run z fresh_pair rs).entries)
    (counted z range x (take i rs))
