-- A fact of a thread's phase that every holder has: another's row leaves it, and so do its own where they lead to no
-- phase without it.
use Rattle.laws.proofs.Lock.{ℕ, ◌≡◌, sym, subst, ◌≢◌, List, some, ℕ_discrete, get_or, get_or-set_same}
use Rattle.laws.proofs.Lock.{get_or-set_other, dec-both, Group, Entry, Phase, Thread, Sizes, Op, op, Order, decode}
use Rattle.laws.proofs.Lock.{State, fresh_thread, thread_at, holding, woken, Outcome, taken, refused, Row, row_op}
use Rattle.laws.proofs.Lock.{step}
use Rattle.laws.proofs.Role.{Inv}
use Rattle.laws.proofs.Made.{Others, stayed, roused, Becomes, Made, still, goes, denied, made}
use Rattle.laws.proofs.Orders.{Starts, row_makes}
use Rattle.laws.proofs.Wake.{woken-each}

-- a fact of what a wake gives a thread
pub woken-at : (P : Phase → Type 0) (p : Phase) (b : ℕ) (hs : List Thread) (u : ℕ) → P p
    → P (get_or hs u fresh_thread).phase → P (get_or (woken p b hs) u fresh_thread).phase
woken-at P p b hs u h k = woken-each (λ (x : Thread). P x.phase) p b hs u (λ a. h) (λ n. k)

module _ (P : Phase → Type 0) (holds : (g : Group) → P (holding g)) where
  -- of thread u after a row that is taken
  abbrev pub Stays : ℕ → Outcome → Type 0
  Stays u (taken s e) = P (thread_at s u).phase
  Stays u (refused n) = Unit {0}

  pub others-kept : {s : State} {o : Op} {hs : List Thread} (u : ℕ) → Others s o hs → P (thread_at s u).phase
      → P (get_or hs u fresh_thread).phase
  others-kept u stayed h = h
  others-kept {s} u (roused g p) h = woken-at P (holding g) g.members s.threads u (holds g) h

  -- a row of another thread leaves u as it is or makes it hold
  other-stays : (z : Sizes) (s : State) (r : Row) (u : ℕ) → u ≢ r.thread → P (thread_at s u).phase
      → Stays u (step z s r)
  unfolding step
  other-stays z s r u n h =
      from (made z s r.thread (λ e s₁ p. Unit {0}) (row_op z (thread_at s r.thread).phase r))
    where
      from : {o : Op} {x : Outcome} → Made z s r.thread (λ e s₁ p. Unit {0}) o x → Stays u x
      from (still e i) = h
      from (goes e ws m q hs p f i a k) = rw (get_or-set_other hs r.thread u _ fresh_thread n) (others-kept u i h)
      from (denied k) = tt

  pub others-stay : (z : Sizes) (s : State) (r : Row) (u : ℕ) (s' : State) (e : Entry) → u ≢ r.thread
      → P (thread_at s u).phase → step z s r ≡ taken s' e → P (thread_at s' u).phase
  others-stay z s r u s' e n h q = subst (Stays u) q (other-stays z s r u n h)

  -- a row of its own thread, by what its operation makes
  own-stays : (z : Sizes) (s : State) (r : Row) → Inv z s → P (thread_at s r.thread).phase
      → Becomes z s r.thread (λ e s₁. P) (op z.fan (thread_at s r.thread).phase)
      → ((w : Order) (p' : Phase) → decode z r.order ≡ some w
      → Starts z r.order w (thread_at s r.thread).phase p' → P p')
      → Stays r.thread (step z s r)
  own-stays z s r inv h g f =
      row_makes z s r inv (λ e s₁. P) (Stays r.thread) (λ e i. h) (λ n. tt)
      (λ o e ws m q hs p f l i n k. rw (get_or-set_same hs r.thread _ fresh_thread l) k)
      (λ w p' q k l. rw (get_or-set_same s.threads r.thread _ fresh_thread l) (f w p' q k)) (λ l. g)

  -- any row; of its own thread this is asked only where it is u
  pub phase-stays : (z : Sizes) (s : State) (r : Row) (u : ℕ) → Inv z s
      → (u ≡ r.thread → P (thread_at s r.thread).phase
      → Becomes z s r.thread (λ e s₁. P) (op z.fan (thread_at s r.thread).phase))
      → (u ≡ r.thread → P (thread_at s r.thread).phase → (w : Order) (p' : Phase) → decode z r.order ≡ some w
      → Starts z r.order w (thread_at s r.thread).phase p' → P p')
      → P (thread_at s u).phase → Stays u (step z s r)
  phase-stays z s r u inv g f h =
      dec-both (ℕ_discrete u r.thread)
      (λ i. let k = subst (λ (v : ℕ). P (thread_at s v).phase) i h in
      subst (λ (v : ℕ). Stays v (step z s r)) (sym i) (own-stays z s r inv k (g i k) (f i k)))
      (λ n. other-stays z s r u n h)
