-- What both engines show of the threads, as a list of standings: how it changes, and how many read.
use Rattle.lock.proofs.Library.{ℕ, zero, suc, ◌+◌, ◌/◌, ◌%◌, ◌^◌, ◌≤◌, ◌<◌, zero-le, ◌≡◌, refl, ap, ap₂, Bool, true}
use Rattle.lock.proofs.Library.{false, List, [], ◌∷◌, le_refl, not-suc-le-zero, le_of_suc-le-suc, pow-suc, arith}
use Rattle.lock.proofs.Library.{ℕ_discrete, eqb, length, get_or, set, eq-eqb, ne_eqb}
use Rattle.std.specs.Prelude.{if◌then◌else◌}
use Rattle.laws.proofs.Lock.{size, Phase, Standing, standing, Thread, fresh_thread, woken}
use Rattle.laws.{proofs.Cases.dec-both, proofs.Sum.bit_at, proofs.Sum.size_none, proofs.Sum.size_step}
use Rattle.plain_model.specs.Equal.{ticketless}

-- ---- the standings

unfoldable pub look_of : Phase → Standing
unfolding standing
look_of p = ticketless (standing p)

abbrev pub looks : List Thread → List Standing
looks [] = []
looks (h ∷ hs) = look_of h.phase ∷ looks hs

-- each standing whose bit is set in b becomes x
abbrev pub awake : Standing → ℕ → List Standing → List Standing
awake x b [] = []
awake x b (y ∷ l) = (if eqb (b % 2) 1 then x else y) ∷ awake x (b / 2) l

pub looks-length : (hs : List Thread) → length (looks hs) ≡ length hs
looks-length [] = refl
looks-length (h ∷ hs) = ap suc (looks-length hs)

pub looks-at : (hs : List Thread) (u : ℕ) → get_or (looks hs) u Standing.Idle ≡ look_of (get_or hs u fresh_thread).phase
unfolding look_of standing
looks-at [] u = refl
looks-at (h ∷ hs) zero = refl
looks-at (h ∷ hs) (suc u) = looks-at hs u

pub looks-set : (hs : List Thread) (t : ℕ) (h : Thread) → looks (set hs t h) ≡ set (looks hs) t (look_of h.phase)
looks-set [] t h = refl
looks-set (x ∷ hs) zero h = refl
looks-set (x ∷ hs) (suc t) h = ap (λ (l : List Standing). look_of x.phase ∷ l) (looks-set hs t h)

pub looks-woken : (p : Phase) (b : ℕ) (hs : List Thread) → looks (woken p b hs) ≡ awake (look_of p) b (looks hs)
looks-woken p b [] = refl
looks-woken p b (h ∷ hs) =
    ap₂ (λ (x : Standing) (l : List Standing). x ∷ l) (first (eqb (b % 2) 1)) (looks-woken p (b / 2) hs)
  where
    first : (c : Bool) → look_of (if c then record { phase = p; failures = h.failures } else h).phase
        ≡ (if c then look_of p else look_of h.phase)
    first true = refl
    first false = refl

-- what stood at t before the wake does not matter if t is set after it
pub awake-set : (x : Standing) (b : ℕ) (l : List Standing) (t : ℕ) (a c : Standing)
    → set (awake x b (set l t a)) t c ≡ set (awake x b l) t c
awake-set x b [] t a c = refl
awake-set x b (y ∷ l) zero a c = refl
awake-set x b (y ∷ l) (suc t) a c =
    ap (λ (m : List Standing). (if eqb (b % 2) 1 then x else y) ∷ m) (awake-set x (b / 2) l t a c)

pub awake-length : (x : Standing) (b : ℕ) (l : List Standing) → length (awake x b l) ≡ length l
awake-length x b [] = refl
awake-length x b (y ∷ l) = ap suc (awake-length x (b / 2) l)

pub awake-out : (x : Standing) (b : ℕ) (l : List Standing) (u : ℕ)
    → bit_at b u ≡ 0 → get_or (awake x b l) u Standing.Idle ≡ get_or l u Standing.Idle
awake-out x b [] u h = refl
awake-out x b (y ∷ l) zero h = rw (ne_eqb (b % 2) 1 (λ q. omega arith))
awake-out x b (y ∷ l) (suc u) h = awake-out x (b / 2) l u h

-- ---- how many read

abbrev pub reads : Standing → ℕ
reads Standing.Idle = 0
reads (Standing.Reading k) = 1
reads Standing.Writing = 0
reads Standing.Calling = 0
reads Standing.Asleep = 0

abbrev pub readers_in : List Standing → ℕ
readers_in [] = 0
readers_in (x ∷ l) = reads x + readers_in l

pub readers-set : (l : List Standing) (t : ℕ) (x : Standing)
    → t < length l → readers_in (set l t x) + reads (get_or l t Standing.Idle) ≡ readers_in l + reads x
readers-set [] t x h = absurd (not-suc-le-zero h)
readers-set (y ∷ l) zero x h = omega arith
readers-set (y ∷ l) (suc t) x h = omega (arith, readers-set l t x (le_of_suc-le-suc h))

pub readers-mem : (l : List Standing) (t : ℕ) → reads (get_or l t Standing.Idle) ≤ readers_in l
readers-mem [] t = zero-le
readers-mem (y ∷ l) zero = omega arith
readers-mem (y ∷ l) (suc t) = omega (arith, readers-mem l t)

-- where none reads, none is counted
pub readers-none : (l : List Standing) → ((u : ℕ) → reads (get_or l u Standing.Idle) ≡ 0) → readers_in l ≡ 0
readers-none [] h = refl
readers-none (x ∷ l) h = omega (arith, h 0, readers-none l (λ u. h (suc u)))

-- those who are woken to write do not read
woken-reads : (x y : Standing) (d : Bool) → reads x ≡ 0 → reads (if d then x else y) ≤ reads y
woken-reads x y true h = omega arith
woken-reads x y false h = le_refl _

awake-reads : (x : Standing) (b : ℕ) (l : List Standing) → reads x ≡ 0 → readers_in (awake x b l) ≤ readers_in l
awake-reads x b [] h = zero-le
awake-reads x b (y ∷ l) h = omega (arith, woken-reads x y (eqb (b % 2) 1) h, awake-reads x (b / 2) l h)

pub readers-awake : (x : Standing) → reads x ≡ 0
    → (b : ℕ) (l : List Standing) (t : ℕ) (c : Standing) → readers_in (set (awake x b l) t c) ≤ readers_in (set l t c)
readers-awake x h b [] t c = zero-le
readers-awake x h b (y ∷ l) zero c = omega (arith, awake-reads x (b / 2) l h)
readers-awake x h b (y ∷ l) (suc t) c =
    omega (arith, woken-reads x y (eqb (b % 2) 1) h, readers-awake x h (b / 2) l t c)

-- where none reads, a set that is woken to read is all that reads
pub readers-woken : (k b : ℕ) (l : List Standing)
    → b < 2 ^ length l → readers_in l ≡ 0 → readers_in (awake (Standing.Reading k) b l) ≡ size b
readers-woken k b [] h n = let q : b ≡ 0 = omega arith in rw (q, size_none)
readers-woken k b (y ∷ l) h n =
    let r = readers-woken k (b / 2) l (omega (arith, pow-suc 2 (length l))) (omega arith) in
    dec-both (ℕ_discrete (b % 2) 1) (λ e. rw (eq-eqb (b % 2) 1 e) (omega (arith, size_step b)))
    (λ e. rw (ne_eqb (b % 2) 1 e) (omega (arith, size_step b)))
