-- What rows keep of a state, and lists of rows that are all taken.
use Rattle.lock.proofs.Library.{subst, ℕ, ◌≤◌, ◌<◌, ◌≡◌, refl, ap, ◌∙◌, ◌≢◌, inl, inr, Bool, true, List, [], ◌∷◌, ◌++◌}
use Rattle.lock.proofs.Library.{arith, zero, suc, ◌+◌, ◌⊎◌, ⊎_elim, le_refl, length-append, dec_lt, length, le-ltb}
use Rattle.lock.proofs.Choice.{clash}
use Rattle.laws.proofs.Lock.{Entry, Phase, Idle, Standing, standing, Thread, Sizes, State, fresh, fresh_thread, Outcome}
use Rattle.laws.proofs.Lock.{taken, refused, perform, runs, Row, row_op, step, run, InRange, All}
use Rattle.laws.proofs.Runs.{steps, same_at, held}
use Rattle.laws.proofs.Quiet.{Quiet, QuietAfter, quiet_step, held-quiet}
use Rattle.laws.{proofs.Cases.dec-both, proofs.Role.place, proofs.Role.role, proofs.Role.Inv, proofs.Perform.Safe}
use Rattle.laws.{proofs.Aside.Aside, proofs.Aside.aside, specs.Restoring.row}
use Rattle.progress.specs.Progress.{alone, GoesOnOrUnlocks}
use Rattle.progress.proofs.{Ran.Ran, Ran.ran-more, Rows.phase_of, Mutex.Owner, Mutex.owner-step}
use Rattle.lock.proofs.Machine as machine

-- ---- what rows keep

pub record Kept (z : Sizes) (s : State) : Type 0 where
  -- the one invariant of all runs, and that no sleeper is forgotten (`laws`)
  pub inv : Inv z s
  pub quiet : Quiet z s
  -- the mutex has its owner's number
  pub owner : Owner z s
  -- from T on no thread does anything
  pub absent : (u : ℕ) → z.threads ≤ u → phase_of s u ≡ Idle

abbrev pub KeptAfter : Sizes → Outcome → Type 0
KeptAfter z (taken s e) = Kept z s
KeptAfter z (refused n) = Unit {0}

idle-awake : (z : Sizes) (p : Phase) → p ≡ Idle → (role z p).sleeps ≡ 0
unfolding place
idle-awake z p h = rw h

pub far-row : (z : Sizes) (s : State) (r : Row) → z.threads ≤ r.thread → step z s r ≡ refused 5
unfolding step row_op perform
far-row z s r h = rw (le-ltb r.thread z.threads h)

-- a row that is taken is one of the T threads'
pub taken-present : (z : Sizes) (s : State) (r : Row) (s' : State) (e : Entry) → step z s r ≡ taken s' e
    → r.thread < z.threads
taken-present z s r s' e q =
    dec-both (dec_lt r.thread z.threads) (λ a. a)
    (λ a. let p = far-row z s r (omega arith) in clash cc)

-- who is idle stays so in the rows of others
pub idle-stays : (z : Sizes) (s : State) (r : Row) (s' : State) (e : Entry) → Inv z s → step z s r ≡ taken s' e
    → (u : ℕ) → u ≢ r.thread → phase_of s u ≡ Idle → phase_of s' u ≡ Idle
idle-stays z s r s' e inv q u n i =
    ap (λ (x : Thread). x.phase)
    (subst (Aside z s r.thread) q (aside z s r inv) u n (idle-awake z (phase_of s u) i)) ∙ i

pub kept_step : (z : Sizes) (s : State) (r : Row) → Kept z s → KeptAfter z (step z s r)
kept_step z s r kept =
    from (step z s r) refl (steps z s r kept.inv) (quiet_step z s r kept.inv kept.quiet)
    (aside z s r kept.inv)
  where
    below : r.thread < z.threads → r.thread < 64
    below l = omega (arith, kept.inv.sizes.threads)

    from : (o : Outcome) → step z s r ≡ o → Safe z o → QuietAfter z o → Aside z s r.thread o → KeptAfter z o
    from (taken s' e) q i h k =
        record {
          inv = i;
          quiet = h;
          owner = owner-step z s r s' e kept.inv i (below (taken-present z s r s' e q)) q kept.owner k;
          absent =
              λ u n. idle-stays z s r s' e kept.inv q u (λ i. omega (arith, taken-present z s r s' e q))
              (kept.absent u n);
        }
    from (refused n) q i h k = tt

pub kept-after : (z : Sizes) → InRange z → (rs : List Row) → Kept z (run z fresh rs).state
unfolding run runs
kept-after z h rs =
    (machine.kept (Kept z) machine.Any machine.Any
    (step z) (λ s r k. next (step z s r) (kept_step z s r k)) fresh rs made).state
  where
    next : (o : Outcome) → KeptAfter z o → machine.Keeps (Kept z) machine.Any machine.Any o
    next (taken s e) k = (k, tt)
    next (refused n) k = tt

    made : Kept z fresh
    made =
        record {
          inv = (held z h []).inv;
          quiet = held-quiet z h [];
          owner = λ u q. clash cc;
          absent = λ u n. ap (λ (x : Thread). x.phase) (same_at 64 u fresh_thread);
        }

-- ---- rows that are all taken

-- Rows that are all taken, each of which A allows in the state before it.
pub data Leads (z : Sizes) (A : State → Row → Type 0) : State → List Row → State → Type 0 where
  here : {s : State} → Leads z A s [] s
  on : {s s' s'' : State} {r : Row} {rs : List Row} {e : Entry} → A s r → step z s r ≡ taken s' e → Leads z A s' rs s''
      → Leads z A s (r ∷ rs) s''

-- thread t goes on with its call
pub data OwnRow (t : ℕ) (s : State) : Row → Type 0 where
  own : standing (phase_of s t) ≡ Standing.Calling → OwnRow t s (row t 0)

-- a thread goes on with its call or, if `unlocks`, begins an unlock
pub data AnyRow (unlocks : Bool) (s : State) : Row → Type 0 where
  goes_on : (t : ℕ) → standing (phase_of s t) ≡ Standing.Calling → AnyRow unlocks s (row t 0)
  begins : (t : ℕ) → unlocks ≡ true → phase_of s t ≢ Idle → AnyRow unlocks s (row t 2)

module _ {z : Sizes} {A : State → Row → Type 0} where
  pub leads-on : {s s' s'' : State} {rs rs' : List Row} → Leads z A s rs s' → Leads z A s' rs' s''
      → Leads z A s (rs ++ rs') s''
  leads-on here k = k
  leads-on (on a q h) k = on a q (leads-on h k)

  -- from a state of which P holds to one of which it does not there is a row
  pub leads-moved : (P : State → Type 0) {s s' : State} {rs : List Row} → Leads z A s rs s' → P s → ¬ (P s')
      → 0 < length rs
  leads-moved P here p n = absurd (n p)
  leads-moved P (on a q h) p n = omega arith

  pub leads-run : {s s' : State} {rs : List Row} → Leads z A s rs s' → Ran (run z s rs) (length rs) s'
  unfolding run runs
  leads-run here = record { answer = refl; taken = refl; state = refl }
  leads-run (on {s} {r} {rs} a q h) = ran-more (step z) s r rs q (leads-run h)

-- rows of one thread alone are rows that anybody may make
pub leads-own : {z : Sizes} {t : ℕ} {b : Bool} {s s' : State} {rs : List Row} → Leads z (OwnRow t) s rs s'
    → Leads z (AnyRow b) s rs s'
leads-own here = here
leads-own {t} (on (own c) q h) = on (goes_on t c) q (leads-own h)

pub leads-alone : {z : Sizes} {t : ℕ} {s s' : State} {rs : List Row} → Leads z (OwnRow t) s rs s'
    → rs ≡ alone t (length rs)
leads-alone here = refl
leads-alone {t} (on (own c) q h) = ap (λ (rs : List Row). row t 0 ∷ rs) (leads-alone h)

pub leads-orders : {z : Sizes} {b : Bool} {s s' : State} {rs : List Row} → Leads z (AnyRow b) s rs s'
    → All GoesOnOrUnlocks rs
leads-orders here = tt
leads-orders (on (goes_on t c) q h) = (inl refl, leads-orders h)
leads-orders (on (begins t b n) q h) = (inr refl, leads-orders h)

-- ---- until a state is reached

-- Rows lead to a state of which P holds, with the measure μ less by as many at least.
pub record Reaches (z : Sizes) (A : State → Row → Type 0) (μ : State → ℕ) (P : State → Type 0) (s : State)
    : Type 0 where
  pub rows : List Row
  pub state : State
  pub leads : Leads z A s rows state
  pub holds : P state
  pub few : length rows + μ state ≤ μ s

-- at least one row
abbrev pub Falls : Sizes → (State → Row → Type 0) → (State → ℕ) → (State → Type 0) → State → Type 0
Falls z A μ P s = (k : Reaches z A μ P s) × (0 < length k.rows)

-- Where each state of P is one of Q or leads on, one of both is reached.
pub reaches : {z : Sizes} {A : State → Row → Type 0} {μ : State → ℕ} {P Q : State → Type 0}
    → ((s : State) → P s → Q s ⊎ Falls z A μ P s) → (s : State) → P s → Reaches z A μ (λ s'. P s' × Q s') s
reaches {z} {A} {μ} {P} {Q} next s p = within (μ s) s p (le_refl _)
  where
    there : (s : State) → P s → Q s → Reaches z A μ (λ s'. P s' × Q s') s
    there s p q = record { rows = []; state = s; leads = here; holds = (p, q); few = omega arith }

    more : {s : State} (d : Reaches z A μ P s) → Reaches z A μ (λ s'. P s' × Q s') d.state
        → Reaches z A μ (λ s'. P s' × Q s') s
    more d k =
        record {
          rows = d.rows ++ k.rows;
          state = k.state;
          leads = leads-on d.leads k.leads;
          holds = k.holds;
          few = omega (arith, length-append d.rows k.rows, d.few, k.few);
        }

    within : (n : ℕ) (s : State) → P s → μ s ≤ n → Reaches z A μ (λ s'. P s' × Q s') s
    within zero s p h = ⊎_elim (there s p) (λ d. absurd (omega (arith, d.1, d.0.few))) (next s p)
    within (suc n) s p h =
        ⊎_elim (there s p)
        (λ d. more d.0 (within n d.0.state d.0.holds (omega (arith, d.1, d.0.few)))) (next s p)
