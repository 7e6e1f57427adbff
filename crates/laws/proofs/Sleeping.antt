-- No sleeper is forgotten, after any rows: from the invariant, and from nobody's waiting while the root is open.
use Rattle.laws.proofs.Lock.{ℕ, zero, suc, ◌≡◌, refl, sym, ap, ◌∙◌, ◌⊎◌, inl, inr, ◌≢◌, Bool, true, false, List}
use Rattle.laws.proofs.Lock.{[], ◌∷◌, Option, none, some, arith, dec_lt, eqb-true, eqb-false, Resting, Reads}
use Rattle.laws.proofs.Lock.{Writes, dec-both, clash, opened, closed, is_closed, total, Waiters, nobody_waits}
use Rattle.laws.proofs.Lock.{Phase, Idle, Writing, Asleep, Reading, Standing, standing, Sizes, State, fresh}
use Rattle.laws.proofs.Lock.{word_at, thread_at, Row, run, InRange}
use Rattle.laws.specs.Sleeping.{bit_at, places_of, times_in, Remembers}
use Rattle.laws.proofs.Sum.{bit-pow, bit-zero}
use Rattle.laws.proofs.Role.{place, role, numbers_of, is_taken, role_at, sums, Inv, tot-some}
use Rattle.laws.proofs.Facts.{word-eq, word_count}
use Rattle.laws.proofs.Runs.{held}
use Rattle.laws.proofs.Locks.{locks-of, rested}
use Rattle.laws.proofs.Quiet.{Nobody, Quiet, held-quiet}

places-numbers : (t : ℕ) (ws : List ℕ) → places_of t ws ≡ numbers_of t ws
places-numbers t [] = refl
places-numbers t (w ∷ ws) = omega (arith, bit-pow w t, places-numbers t ws)

nobody-bits : (q : Waiters) (t : ℕ) → Nobody q → times_in q t ≡ 0
nobody-bits q t n =
    let a = ap (λ (b : ℕ). bit_at b t) n.readers ∙ bit-zero t in let b = ap (places_of t) n.writers in omega arith

empty-queue : (q : Waiters) → q.readers ≡ 0 → q.writers ≡ [] → q.waiting ≡ 0 → q ≡ nobody_waits
empty-queue q a b c = λ i. record { readers = a i; writers = b i; waiting = c i }

module _ (z : Sizes) (s : State) (inv : Inv z s) (quiet : Quiet z s) where
  module _ (rest : Resting s) where
    no-hand : (u : ℕ) → sums z s (λ r. bit_at r.hand u) ≡ 0
    no-hand u =
        dec-both (dec_lt 0 (sums z s (λ r. bit_at r.hand u)))
        (λ a. let (t, q) = tot-some z (λ r. bit_at r.hand u) s.threads a in
        let e = ap (λ (b : ℕ). bit_at b u) (rested z s inv t (rest t)).hand ∙ bit-zero u in
        absurd (omega (arith, q, e)))
        (λ a. omega arith)

    times : (t : ℕ) → times_in s.queue t ≡ (role_at z s t).waits
    times t = omega (arith, inv.queued t, no-hand t, places-numbers t s.queue.writers)

    once-in : (t : ℕ) → (thread_at s t).phase ≡ Asleep → times_in s.queue t ≡ 1
    unfolding place
    once-in t e = times t ∙ ap (λ (p : Phase). (role z p).waits) e

    someone : (t : ℕ) → (thread_at s t).phase ≡ Asleep → Reads s ⊎ Writes s
    someone t e = from (is_closed (word_at s 0)) refl
      where
        from : (b : Bool) → is_closed (word_at s 0) ≡ b → Reads s ⊎ Writes s
        from true c =
            dec-both (dec_lt 0 (total (word_at s 0))) (λ a. inl (((locks-of z s inv).counted rest).0 a))
            (λ a. inr (((locks-of z s inv).shut rest).0
            (word-eq (word_at s 0) (closed 0 0) (omega arith) (omega arith) (eqb-true _ _ c))))
        from false c = absurd (omega (arith, nobody-bits s.queue t (quiet.empty c), once-in t e))

  -- ---- everybody is idle

  module _ (idles : (t : ℕ) → (thread_at s t).phase ≡ Idle) where
    rests : Resting s
    unfolding standing
    rests t e = let q : standing Idle ≡ Standing.Calling = rw (idles t) at e in clash cc

    no_reader : Reads s → ⊥
    no_reader r = let q : Idle ≡ Reading r.ticket = sym (idles r.thread) ∙ r.reads in clash cc

    no-writer : Writes s → ⊥
    no-writer r = let q : Idle ≡ Writing = sym (idles r.thread) ∙ r.writes in clash cc

    empty-root : total (word_at s 0) ≡ 0
    empty-root =
        dec-both (dec_lt 0 (total (word_at s 0))) (λ a. absurd (no_reader (((locks-of z s inv).counted rests).0 a)))
        (λ a. omega arith)

    open-root : is_closed (word_at s 0) ≡ false
    open-root = from (is_closed (word_at s 0)) refl
      where
        from : (b : Bool) → is_closed (word_at s 0) ≡ b → b ≡ false
        from true c =
            absurd (no-writer (((locks-of z s inv).shut rests).0 (word-eq (word_at s 0)
            (closed 0 0) (omega (arith, empty-root)) (omega (arith, empty-root)) (eqb-true _ _ c))))
        from false c = refl

    empty-word : (w : ℕ) → word_at s w ≡ opened 0 0
    empty-word zero =
        let g : (word_at s 0).closed ≢ 1 = eqb-false _ _ open-root in
        word-eq (word_at s 0)
        (opened 0 0) (omega (arith, empty-root)) (omega (arith, empty-root)) (omega (arith, inv.flag))
    empty-word (suc w) =
        let (d, o) = inv.plainly (suc w) (omega arith) in
        let n : (word_at s (suc w)).tree ≡ 0 = dec-both (dec_lt 0 (word_at s (suc w)).tree)
        (λ a. absurd (omega (arith, word_count z s inv (suc w) a, empty-root))) (λ a. omega arith) in
        word-eq (word_at s (suc w)) (opened 0 0) d n o

    free-mutex : s.mutex ≡ none
    unfolding place
    free-mutex = from s.mutex refl
      where
        from : (m : Option ℕ) → s.mutex ≡ m → m ≡ none
        from none e = refl
        from (some u) e =
            let (t, q) = tot-some z (λ r. r.inmutex) s.threads (omega (arith, inv.mutex, ap is_taken e)) in
            absurd (omega (arith, q, ap (λ (p : Phase). (role z p).inmutex) (idles t)))

    nobody-queued : s.queue ≡ nobody_waits
    nobody-queued = let n = quiet.empty open-root in empty-queue s.queue n.readers n.writers n.waiting

  pub remembers-of : Remembers s
  remembers-of =
      record {
        held = someone;
        once = once-in;
        only = λ rest t n. times rest t ∙ (rested z s inv t (rest t)).waits n;
        free = λ i. record { words = empty-word i; mutex = free-mutex i; queue = nobody-queued i };
      }

pub remembers : (z : Sizes) → InRange z → (rs : List Row) → Remembers (run z fresh rs).state
remembers z h rs = remembers-of z (run z fresh rs).state (held z h rs).inv (held-quiet z h rs)
