-- Demand 3, for every size in range and every list of rows.
use Rattle.lock.proofs.{Choice.and-false, Machine.{by_rows, entries-taken, taken-le, entries-take}, Library.ℕ}
use Rattle.lock.proofs.Library.{zero, suc, ◌+◌, ◌≤◌, ◌≡◌, refl, sym, ◌∙◌, ◌≢◌, ◌&&◌, List, [], ◌∷◌, le_refl}
use Rattle.lock.proofs.Library.{add-zero, not-suc-le-zero, le_of_suc-le-suc, arith, length, get_or, take}
use Rattle.lock.proofs.{Library.{replicate, eq-eqb}, Memory.{memory, stale-nothing, Fits}, Row.recalls}
use Rattle.lock.proofs.Row.{pending, steps}
use Rattle.lock.specs.Demand.{Counted, one, tally, is_change, is_on, failed_swap, others_change, failure, All}
use Rattle.lock.specs.{Demand.Demand3, Journal.Entry, State.{Sizes, State, fresh_thread, fresh, thread_at}, Run.Row}
use Rattle.lock.specs.{Run.{step, run}, File.InRange}

-- ---- a run

-- what a state of the sizes z has: its threads, and memories that fit
record Sound (z : Sizes) (s : State) : Type 0 where
  len : length s.threads ≡ 64
  fits : (u : ℕ) → Fits z.fan (recalls s u)

-- the claim on one row, summed over the rows from s to s'
record Summed (z : Sizes) (s s' : State) (rs : List Row) (es : List Entry) : Type 0 where
  bound : (u w : ℕ) → tally (failed_swap u w) rs es
      + pending z.fan s' u w ≤ tally (others_change u w) rs es + pending z.fan s u w
  fails : (u : ℕ) → (thread_at s' u).failures ≡ (thread_at s u).failures + tally (failure u) rs es

summed : (z : Sizes) → z.threads ≤ 64 → (s : State) (rs : List Row)
    → Sound z s → Summed z s (run z s rs).state rs (run z s rs).entries
unfolding run
summed z range =
    by_rows (step z) (λ s rs x. Sound z s → Summed z s x.state rs x.entries) (λ s h. nothing s [])
    (λ s r rs n q h. nothing s (r ∷ rs))
    (λ s r rs s' e q k h.
    let m = rw q at (steps z s r (omega (arith, h.len)) h.fits) in
    let j = k (record { len = m.len ∙ h.len; fits = m.fit }) in
    record {
      bound = λ u w. omega (arith, m.bound u w, j.bound u w);
      fails = λ u. omega (arith, m.fails u, j.fails u);
    })
  where
    nothing : (s : State) (rs : List Row) → Summed z s s rs []
    nothing s [] = record { bound = λ u w. le_refl _; fails = λ u. sym (add-zero _) }
    nothing s (r ∷ rs) = record { bound = λ u w. le_refl _; fails = λ u. sym (add-zero _) }

-- ---- the fresh lock

pub idle-at : (n u : ℕ) → get_or (replicate n fresh_thread) u fresh_thread ≡ fresh_thread
idle-at zero u = refl
idle-at (suc n) zero = refl
idle-at (suc n) (suc u) = idle-at n u

fresh-sound : (z : Sizes) → Sound z fresh
unfolding Fits memory
fresh-sound z = record { len = refl; fits = λ u. rw (idle-at 64 u) tt }

fresh-pending : (z : Sizes) (u w : ℕ) → pending z.fan fresh u w ≡ 0
unfolding memory
fresh-pending z u w = rw (idle-at 64 u) (stale-nothing z.fan w _)

-- ---- a thread alone

no_change : (t w : ℕ) (rs : List Row) (es : List Entry)
    → All (λ (r : Row). r.thread ≡ t) rs → tally (others_change t w) rs es ≡ 0
no_change t w [] es a = refl
no_change t w (r ∷ rs) [] a = refl
no_change t w (r ∷ rs) (e ∷ es) a =
    rw (no_change t w rs es a.1, eq-eqb r.thread t a.0, and-false (is_change e && is_on w e))

-- where all rows are t's and t failed no swap on any word, no entry is of kind 3
none-failed : (t : ℕ) (rs : List Row) (es : List Entry) → All (λ (r : Row). r.thread ≡ t) rs → length es ≤ length rs
    → ((w : ℕ) → tally (failed_swap t w) rs es ≡ 0) → All (λ (e : Entry). e.kind ≢ 3) es
none-failed t rs [] a l h = tt
none-failed t [] (e ∷ es) a l h = absurd (not-suc-le-zero l)
none-failed t (r ∷ rs) (e ∷ es) a l h = (
  λ k. let x = h e.word in
      let y : one (failed_swap t e.word r e) ≡ 1 =
      rw (k, eq-eqb e.word e.word refl, eq-eqb r.thread t a.0) in
      omega arith,
  none-failed t rs es a.1 (le_of_suc-le-suc l) (λ w. let x = h w in omega arith),
)

-- ---- the claim

-- of all rows that a run takes
pub counted-all : (z : Sizes) → InRange z → (rs : List Row)
    → Counted z rs (run z fresh rs).entries (run z fresh rs).state
unfolding run
counted-all z range rs =
    record {
      bounded = λ t w ht hw. le t w;
      printed = λ t ht. rw (sum.fails t, idle-at 64 t) (omega arith);
      alone = λ t a. none-failed t rs es a
          (omega (arith, entries-taken (step z) fresh rs, taken-le (step z) fresh rs))
          (λ w. omega (arith, le t w, no_change t w rs es a));
    }
  where
    es : List Entry
    es = (run z fresh rs).entries

    sum : Summed z fresh (run z fresh rs).state rs es
    sum = summed z range.threads fresh rs (fresh-sound z)

    le : (t w : ℕ) → tally (failed_swap t w) rs es ≤ tally (others_change t w) rs es
    le t w = omega (arith, sum.bound t w, fresh-pending z t w)

-- the first rows, run alone, make the first entries
pub demand3 : Demand3
unfolding run
demand3 z range rs i l =
    rw (entries-take (step z) fresh rs i) at (counted-all z range (take i rs))
