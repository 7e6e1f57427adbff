-- The rows of one thread alone end its call, where it has the mutex or nobody has it: each comes nearer to the end
-- (proofs/Nearer), and the mutex stays with that thread or with nobody.
use Rattle.lock.proofs.Library.{ℕ, zero, suc, ◌+◌, ◌*◌, ◌≤◌, ◌<◌, zero-le, ◌≡◌, refl, sym, subst, ap, ◌∙◌, ◌≢◌, Bool}
use Rattle.lock.proofs.Library.{true, false, List, [], ◌∷◌, Option, none, some, le_refl, arith, get_or, ◌⊎◌, inl, inr}
use Rattle.lock.proofs.Library.{⊎_elim, length}
use Rattle.lock.proofs.Choice.{clash, if-both, not-both}
use Rattle.laws.proofs.Lock.{Group, is_writer, holding, Phase, Idle, Reading, Standing, standing, Thread, Sizes, op}
use Rattle.laws.proofs.Lock.{State, fresh_thread, Outcome, taken, refused, step, Row, run}
use Rattle.laws.proofs.Role.{place, role, is_taken, role_at}
use Rattle.laws.{proofs.Seen.by-seen, proofs.Cases.dec-both, specs.Restoring.row}
use Rattle.progress.specs.Progress.{longest_call, EndsAlone}
use Rattle.progress.proofs.Measure.{rows_to_end, ends_idle, unlock_owed_by, call_bound_by, unlock_owed, call_bound}
use Rattle.progress.proofs.Rows.{phase_of, measures_from, measures, AdvancesAfter, goes_on}
use Rattle.progress.proofs.Kept.{Kept, KeptAfter, kept_step, here, on, OwnRow, own, AnyRow, leads-run, leads-own}
use Rattle.progress.proofs.Kept.{leads-alone, leads-moved, Reaches, Falls, reaches}
use Rattle.progress.proofs.{Measure.measure, Measure.fails-le, Nearer.onward, Mutex.own-mutex, Ran.Ran}

-- ---- standings

-- 1 for who is in a call
abbrev pub calls : Standing → ℕ
calls Standing.Idle = 0
calls (Standing.Reading k) = 0
calls Standing.Writing = 0
calls Standing.Calling = 1
calls Standing.Asleep = 0

-- in a call, or counted for none
rests : (x : Standing) → (x ≡ Standing.Calling) ⊎ ((calls x ≡ 0) × ((z : Sizes) (b : Bool) → call_bound_by z b x ≡ 0))
rests Standing.Idle = inr (refl, λ z b. refl)
rests (Standing.Reading k) = inr (refl, λ z b. refl)
rests Standing.Writing = inr (refl, λ z b. refl)
rests Standing.Calling = inl refl
rests Standing.Asleep = inr (refl, λ z b. refl)

pub calling? : (x : Standing) → Dec (x ≡ Standing.Calling)
calling? x = ⊎_elim yes (λ r. no (λ e. omega (arith, r.0, ap calls e))) (rests x)

pub calls-so : (x : Standing) → 0 < calls x → x ≡ Standing.Calling
calls-so x h = ⊎_elim (λ e. e) (λ r. absurd (omega (arith, r.0))) (rests x)

-- who is in a call is not idle
pub calling-busy : (p : Phase) → standing p ≡ Standing.Calling → p ≢ Idle
unfolding standing
calling-busy p c e =
    let q : standing Idle ≡ Standing.Calling = ap standing (sym e) ∙ c in clash cc

-- who is woken is in no call
pub holding-rests : (g : Group) → standing (holding g) ≢ Standing.Calling
unfolding standing
holding-rests g =
    if-both (λ (p : Phase). standing p ≢ Standing.Calling) (is_writer g)
    (λ e q. clash cc)
    (λ e q. clash cc)

-- who rests does not have the mutex
pub rest-free : (z : Sizes) (p : Phase) → standing p ≢ Standing.Calling → (role z p).inmutex ≡ 0
unfolding place
rest-free z =
    by-seen (λ (p : Phase). standing p ≢ Standing.Calling → (role z p).inmutex ≡ 0) (λ h. refl) (λ h. refl) (λ h. refl)
    (λ k h. holds k) (λ p e c h. absurd (h e))
  where
    holds : (k : ℕ) → (role z (Reading k)).inmutex ≡ 0
    holds zero = refl
    holds (suc k) = refl

-- ---- the measure

module _ (z : Sizes) where
  rest-bound : (b : Bool) (x : Standing) → x ≢ Standing.Calling → call_bound_by z b x ≡ 0
  rest-bound b x h = ⊎_elim (λ e. absurd (h e)) (λ r. r.1 z b) (rests x)

  owed-less : (a b : Bool) → (a ≡ true → b ≡ true) → unlock_owed_by z b ≤ unlock_owed_by z a
  owed-less true true h = le_refl _
  owed-less true false h = not-both false (h refl) refl
  owed-less false true h = zero-le
  owed-less false false h = le_refl _

  -- it is 0 only for who is idle
  pub measure-idle : (p : Phase) → measure z p ≡ 0 → p ≡ Idle
  unfolding ends_idle standing
  measure-idle =
      by-seen (λ (p : Phase). measure z p ≡ 0 → p ≡ Idle) (λ h. refl) (λ h. absurd (omega arith))
      (λ h. absurd (omega arith)) (λ k h. absurd (omega arith))
      (λ p e c h. absurd (some-bound (ends_idle p) (rw e at h)))
    where
      some-bound : (b : Bool) → unlock_owed_by z b + call_bound_by z b Standing.Calling ≡ 0 → ⊥
      some-bound true h = omega arith
      some-bound false h = omega arith

  pub idle-measure : (p : Phase) → p ≡ Idle → measure z p ≡ 0
  unfolding ends_idle standing
  idle-measure p e = rw e

  bound-most : 1 ≤ z.nodes → (b : Bool) (x : Standing) → call_bound_by z b x ≤ longest_call z
  bound-most h b x =
      ⊎_elim (λ e. rw e (if-both (λ (n : ℕ). n ≤ longest_call z) b (λ q. omega arith) (λ q. omega arith)))
      (λ r. omega (arith, r.1 z b)) (rests x)

  measure-most : 1 ≤ z.nodes → (p : Phase) → measure z p ≤ longest_call z + 2 * z.nodes + 6
  measure-most h p =
      let owed : unlock_owed z p ≤ 2 * z.nodes + 6 =
      if-both (λ (n : ℕ). n ≤ 2 * z.nodes + 6) (ends_idle p) (λ e. zero-le) (λ e. le_refl _) in
      omega (arith, owed, bound-most h (ends_idle p) (standing p))

  -- of all threads, where those from k on are idle
  pub measures-most : 1 ≤ z.nodes → (i k : ℕ) (hs : List Thread)
      → ((u : ℕ) → k ≤ u → measure z (get_or hs u fresh_thread).phase ≡ 0)
      → measures_from z i hs ≤ (longest_call z + 2 * z.nodes + 6) * k
  measures-most l i k [] h = zero-le
  measures-most l i zero (x ∷ hs) h =
      omega (arith, h 0 zero-le, measures-most l (suc i) 0 hs (λ u n. h (suc u) zero-le))
  measures-most l i (suc k) (x ∷ hs) h =
      omega (arith, measure-most l x.phase, measures-most l (suc i) k hs (λ u n. h (suc u) (omega arith)))

-- ---- a call alone

-- Thread t has moved alone since s₀: nobody else has the mutex, and the others have no more to do.
pub record Solo (z : Sizes) (t : ℕ) (s₀ s : State) : Type 0 where
  pub kept : Kept z s
  pub mutex : is_taken s.mutex ≤ (role_at z s t).inmutex
  pub measured : measures z s + measure z (phase_of s₀ t) ≤ measures z s₀ + measure z (phase_of s t)
  pub owed : unlock_owed z (phase_of s t) ≤ unlock_owed z (phase_of s₀ t)

abbrev to_end : Sizes → ℕ → State → ℕ
to_end z t s = rows_to_end z s.words (phase_of s t)

-- its call is over
abbrev Over : ℕ → State → Type 0
Over t s = standing (phase_of s t) ≢ Standing.Calling

solo-next : (z : Sizes) (t : ℕ) → t < z.threads → (s₀ s : State) → Solo z t s₀ s
    → Over t s ⊎ Falls z (OwnRow t) (to_end z t) (Solo z t s₀) s
solo-next z t there s₀ s h =
    dec-both (calling? (standing (phase_of s t)))
    (λ c. inr (from c (step z s (row t 0)) refl (goes_on z s t h.kept.inv below h.mutex there c)
    (kept_step z s (row t 0) h.kept))) inl
  where
    below : t < 64
    below = omega (arith, h.kept.inv.sizes.threads)

    from : standing (phase_of s t) ≡ Standing.Calling → (o : Outcome) → step z s (row t 0) ≡ o → AdvancesAfter z s t o
        → KeptAfter z o → Falls z (OwnRow t) (to_end z t) (Solo z t s₀) s
    from c (taken s' e) q g k = (
      record {
        rows = row t 0 ∷ [];
        state = s';
        leads = on (own c) q here;
        holds =
            record {
              kept = k;
              mutex = own-mutex z s (row t 0) s' e h.kept.inv k.inv below q h.mutex;
              measured = omega (arith, g.measured, h.measured);
              owed = omega (arith, h.owed, owed-less z (ends_idle (phase_of s t)) (ends_idle (phase_of s' t)) g.keeps);
            };
        few = omega (arith, g.less);
      },
      omega arith,
    )
    from c (refused n) q g k = absurd g

module _ (z : Sizes) (t : ℕ) (there : t < z.threads) (s : State) (kept : Kept z s)
    (c : standing (phase_of s t) ≡ Standing.Calling) (m : is_taken s.mutex ≤ (role_at z s t).inmutex) where
  -- The call of thread t ends by its rows alone.
  finishes : Reaches z (OwnRow t) (to_end z t) (λ s'. Solo z t s s' × Over t s') s
  finishes =
      reaches (solo-next z t there s) s
      (record { kept = kept; mutex = m; measured = le_refl _; owed = le_refl _ })

  end-in-bound : rows_to_end z s.words (phase_of s t) ≤ call_bound z (phase_of s t)
  end-in-bound =
      omega (
        arith,
        (onward z kept.inv.sizes s (phase_of s t) c (kept.inv.right t)).0,
        fails-le s.words (op z.fan (phase_of s t)),
      )

  -- with the measure of all less by as many rows at least
  pub call-falls : (b : Bool) → Falls z (AnyRow b) (measures z) (Kept z) s
  call-falls b =
      let k = finishes in
      let (h, over) = k.holds in (
        record {
          rows = k.rows;
          state = k.state;
          leads = leads-own k.leads;
          holds = h.kept;
          few =
              omega (
                arith,
                k.few,
                end-in-bound,
                h.measured,
                h.owed,
                rest-bound z (ends_idle (phase_of k.state t)) (standing (phase_of k.state t)) over,
              );
        },
        leads-moved (λ s'. standing (phase_of s' t) ≡ Standing.Calling) k.leads c over,
      )

  pub over : EndsAlone z s t
  over =
      let k = finishes in
      let (h, over) = k.holds in
      let r = subst (λ (rs : List Row). Ran (run z s rs) (length k.rows) k.state) (leads-alone k.leads)
      (leads-run k.leads) in
      record {
        rows = length k.rows;
        few =
            omega (
              arith,
              k.few,
              end-in-bound,
              bound-most z kept.inv.sizes.nodes_least (ends_idle (phase_of s t)) (standing (phase_of s t)),
            );
        taken = r.taken;
        over = λ e. over (ap (λ (x : State). standing (phase_of x t)) (sym r.state) ∙ e);
        mutex =
            ap (λ (x : State). x.mutex) r.state
            ∙ free_of k.state.mutex (omega (arith, h.mutex, rest-free z (phase_of k.state t) over));
      }
    where
      free_of : (o : Option ℕ) → is_taken o ≡ 0 → o ≡ none
      free_of none e = refl
      free_of (some u) e = absurd (omega arith)
