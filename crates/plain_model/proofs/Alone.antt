-- A thread that moves alone: a row that is taken keeps its fate, and no swap of it fails.
use Rattle.lock.proofs.Library.{some, ℕ, ◌<◌, ◌≡◌, refl, sym, subst, ap, fun_ext, ◌≢◌, Bool, true, false, not, ◌&&◌}
use Rattle.lock.proofs.Library.{List, arith, length, get_or-set_same, set-set, lt-ltb, eq-eqb}
use Rattle.lock.proofs.Memory.{Fits}
use Rattle.lock.proofs.Row.{recalls, pending, Moved, Fine, steps as fine-steps}
use Rattle.laws.proofs.Lock.{Entry, Phase, Standing, standing, Thread, op, obey, Sizes, State, fresh_thread, word_at}
use Rattle.laws.proofs.Lock.{thread_at, Outcome, taken, refused, row_op, step, one, is_change, is_failure, is_on, is_by}
use Rattle.laws.proofs.Lock.{failed_swap, failure}
use Rattle.laws.proofs.Made.{Becomes, Made, still, goes, denied, others-length, made}
use Rattle.laws.{specs.Restoring.row, proofs.Role.Inv, proofs.Staying.others-stay}
use Rattle.progress.proofs.Kept.{Kept, KeptAfter, kept_step}
use Rattle.progress.{proofs.Rows.phase_of, proofs.Alone.holding-rests}
use Rattle.plain_model.specs.Equal.{OthersRest}
use Rattle.plain_model.proofs.Sight.{look_of, looks, looks-set}
use Rattle.plain_model.proofs.Fate.{Sight, hole, fate_of, Goes, moved, Fated, onward}

-- once t is at p, its fate is that of p
pub settled : (s : State) {t : ℕ} {f : Sight} (p : Phase) (n : ℕ) → t < length s.threads → Goes t f s p
    → Goes t f (moved s t p n) (phase_of (moved s t p n) t)
settled s {t} {f} p n l g =
    subst (λ (x : Phase). fate_of t (word_at s 0) s.queue (hole (moved s t p n) t) x ≡ some f) (sym at)
    (subst (λ (k : Standing → List Standing). fate_of t (word_at s 0) s.queue k p ≡ some f) (sym (fun_ext holes)) g)
  where
    h : Thread
    h = record { phase = p; failures = n }

    at : phase_of (moved s t p n) t ≡ p
    at = ap (λ (x : Thread). x.phase) (get_or-set_same s.threads t h fresh_thread l)

    holes : (x : Standing) → hole (moved s t p n) t x ≡ hole s t x
    holes x = rw (looks-set s.threads t h) (set-set (looks s.threads) t (look_of p) x)

-- thread t is in a call of the fate f, or has ended it, and the others rest
pub record Mid (z : Sizes) (s : State) (t : ℕ) (f : Sight) : Type 0 where
  pub kept : Kept z s
  pub fits : (u : ℕ) → Fits z.fan (recalls s u)
  pub here : t < z.threads
  pub rest : OthersRest s t
  pub unspoilt : (w : ℕ) → pending z.fan s t w ≡ 0
  pub unfailed : (u : ℕ) → (thread_at s u).failures ≡ 0
  pub met : Goes t f s (phase_of s t)

module _ (z : Sizes) (s : State) (t : ℕ) (f : Sight) (mid : Mid z s t f) where
  below : t < 64
  below = omega (arith, mid.here, mid.kept.inv.sizes.threads)

  abbrev Ends : Outcome → Type 0
  Ends (taken s' e) = is_failure e ≡ false → Inv z s' → Goes t f s' (phase_of s' t)
  Ends (refused n) = Unit {0}

  ends : Ends (step z s (row t 0))
  unfolding step row_op obey
  ends =
      rw (lt-ltb t z.threads mid.here)
      (from (made z s t (Fated z t f) (op z.fan (phase_of s t)))
      (onward z s t mid.kept.inv below mid.rest f (phase_of s t) (mid.kept.inv.right t) refl mid.met))
    where
      from : {o : Outcome} → Made z s t (Fated z t f) (op z.fan (phase_of s t)) o
          → Becomes z s t (Fated z t f) (op z.fan (phase_of s t)) → Ends o
      from (still e j) b = λ k i. mid.met
      from (goes e ws m q hs p n j k₀ c) b =
          λ k i. settled (record { words = ws; mutex = m; queue = q; threads = hs }) p n
          (omega (arith, others-length j, mid.kept.inv.threads, below)) (c b k n i)
      from (denied n) b = tt

  -- a row that is taken
  module _ (s' : State) (e : Entry) (q : step z s (row t 0) ≡ taken s' e) where
    fine : Moved z.fan s s' (row t 0) e
    fine =
        subst (Fine z.fan s (row t 0)) q
        (fine-steps z s (row t 0) (omega (arith, mid.kept.inv.threads, mid.kept.inv.sizes.threads)) mid.fits)

    own-change : (w : ℕ) → one (is_change e && is_on w e && not (is_by t (row t 0))) ≡ 0
    own-change w = rw (eq-eqb t t refl) (none_of (is_change e && is_on w e))
      where
        none_of : (b : Bool) → one (b && false) ≡ 0
        none_of true = refl
        none_of false = refl

    -- a failed swap on the word of its entry would have used up a stale memory
    unmissed : is_failure e ≡ false
    unmissed = from (is_failure e) (rw (eq-eqb e.word e.word refl, eq-eqb t t refl) at none_here)
      where
        none_here : one (failed_swap t e.word (row t 0) e) ≡ 0
        none_here = omega (arith, fine.bound t e.word, own-change e.word, mid.unspoilt e.word)

        from : (b : Bool) → one (b && true && true) ≡ 0 → b ≡ false
        from true q = absurd (omega arith)
        from false q = refl

    pub moves : Mid z s' t f
    moves =
        let k : Kept z s' = subst (KeptAfter z) q (kept_step z s (row t 0) mid.kept) in
        record {
          kept = k;
          fits = fine.fit;
          here = mid.here;
          rest = λ u n. others-stay
              (λ (p : Phase). standing p ≢ Standing.Calling) holding-rests z s (row t 0) u s' e n (mid.rest u n) q;
          unspoilt = λ w. omega (arith, fine.bound t w, own-change w, mid.unspoilt w);
          unfailed = λ u. let i : one (failure u (row t 0) e) ≡ 0 = rw unmissed in
              omega (arith, fine.fails u, mid.unfailed u);
          met = subst Ends q ends unmissed k.inv;
        }
