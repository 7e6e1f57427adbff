-- The calls that are over after a row: its own thread's, and only a row that wakes has others.
use Rattle.lock.proofs.Library.{ℕ, zero, suc, ◌≤◌, ◌<◌, ◌≡◌, refl, sym, ap, ◌∙◌, ◌≢◌, false}
use Rattle.lock.proofs.Library.{List, arith, length, get_or, set, set_out, get_or-set_same, get_or-set_other, ℕ_discrete}
use Rattle.lock.proofs.Library.{dec_lt, subst, List·getD-eq-default}
use Rattle.lock.proofs.Choice.{if-both}
use Rattle.laws.proofs.Cases.{dec-both}
use Rattle.laws.proofs.Lock.{State, Sizes, Entry, Row, row_op, step, taken, thread_at, fresh_thread}
use Rattle.lock.proofs.Row.{woken-none}
use Rattle.dispatch_model.proofs.Sets.{WakesAfter, row-wakes}
use Rattle.site_model.specs.Site.{Site, Going, stands_at, is_over, finished_at, finished, makes}
use Rattle.site_model.specs.Site.{begins}
use Rattle.site_model.specs.Code.{Settled}

module _ (hold think : ℕ) where
  -- ---- one thread's

  -- a thread that was finished is in no call
  order-none : (os : List ℕ) (u : ℕ) → get_or (set os u 0) u 0 ≡ 0
  order-none os u =
      dec-both (dec_lt u (length os)) (λ k. get_or-set_same os u 0 0 k)
      (λ k. rw (set_out os u 0 (omega arith)) (out os u (omega arith)))
    where
      out : (os : List ℕ) (u : ℕ) → length os ≤ u → ◌≡◌ {A = ℕ} (get_or os u 0) 0
      out os u l = List·getD-eq-default os 0 {n = u} l

  stays : (g : Going) (u : ℕ) → is_over g u ≡ false → finished_at hold think u g ≡ g
  stays g u e = rw e

  own-settled : (g : Going) (u : ℕ) → is_over (finished_at hold think u g) u ≡ false
  own-settled g u =
      if-both (λ h. is_over h u ≡ false) (is_over g u)
      (λ e. rw (order-none g.order u)) (λ e. e)

  -- the others are over or not as before
  other-same : (g : Going) (u v : ℕ) → v ≢ u → is_over (finished_at hold think u g) v ≡ is_over g v
  other-same g u v n =
      if-both (λ h. is_over h v ≡ is_over g v) (is_over g u)
      (λ e. rw (get_or-set_other g.order u v 0 0 n)) (λ e. refl)

  -- ---- all threads'

  pub finished-settled : (n : ℕ) (g : Going) → Settled n (finished hold think n g)
  unfolding finished
  finished-settled zero g u l = absurd (omega arith)
  finished-settled (suc n) g u l = elim (ℕ_discrete u n) [
    | yes e ↦ rw e (own-settled (finished hold think n g) n)
    | no k ↦
        other-same (finished hold think n g) n u k ∙ finished-settled n g u (omega arith)
  ]

  -- where only thread t's can be over
  module _ (g : Going) (t : ℕ) where
    none_before : (n : ℕ) → n ≤ t → ((u : ℕ) → u < n → u ≢ t → is_over g u ≡ false) → finished hold think n g ≡ g
    unfolding finished
    none_before zero l h = refl
    none_before (suc n) l h =
        ap (finished_at hold think n) (none_before n (omega arith) (λ u k. h u (omega arith)))
        ∙ stays g n (h n (omega arith) (λ e. omega arith))

    pub finished-one : (n : ℕ) → t < n → ((u : ℕ) → u < n → u ≢ t → is_over g u ≡ false)
        → finished hold think n g ≡ finished_at hold think t g
    unfolding finished
    finished-one zero l h = absurd (omega arith)
    finished-one (suc n) l h = elim (ℕ_discrete t n) [
      | yes e ↦
          ap (finished_at hold think n) (none_before n (omega arith) (λ u k. h u (omega arith)))
          ∙ ap (λ (v : ℕ). finished_at hold think v g) (sym e)
      | no k ↦
          ap (finished_at hold think n) (finished-one n (omega arith) (λ u k. h u (omega arith)))
          ∙ stays (finished_at hold think t g) n
          (other-same g t n (λ e. k (sym e)) ∙ h n (omega arith) (λ e. k (sym e)))
    ]

-- ---- a row that does not wake

-- leaves the other threads where they are
pub others-stand : (z : Sizes) (s s' : State) (t o : ℕ) (e : Entry)
    → step z s (record { thread = t; order = o }) ≡ taken s' e → e.kind ≢ 9
    → (u : ℕ) → u ≢ t → stands_at s' u ≡ stands_at s u
unfolding stands_at
others-stand z s s' t o e p n u k =
    let r : Row = record { thread = t; order = o } in
    let w = subst (WakesAfter 0 s t (row_op z (thread_at s t).phase r)) p (row-wakes 0 z s r) in
    rw (w.threads, get_or-set_other _ t u w.me fresh_thread k, w.nobody n, woken-none _ s.threads)

-- so that where every call that was over had been finished, only its own thread's can be over
pub others-settled : (x : Site) (g : Going) (s' : State) (t o : ℕ) (e : Entry)
    → step x.sizes g.state (record { thread = t; order = o }) ≡ taken s' e → e.kind ≢ 9
    → Settled x.sizes.threads g
    → (u : ℕ) → u < x.sizes.threads → u ≢ t → is_over (makes t s' e g) u ≡ false
others-settled x g s' t o e p n h u l k =
    rw (others-stand x.sizes g.state s' t o e p n u k) (h u l)

-- the call that its thread begins is not another's
pub begins-settled : (ts : List ℕ) (t o : ℕ) (g : Going) (T : ℕ)
    → ((u : ℕ) → u < T → u ≢ t → is_over g u ≡ false) → (u : ℕ) → u < T → u ≢ t → is_over (begins ts t o g) u ≡ false
begins-settled ts t o g T h u l k = rw (get_or-set_other g.order t u o 0 k) (h u l k)
