-- A row moves its own thread, and of the others only sleepers.
use Rattle.laws.proofs.Lock.{ℕ, ◌≤◌, ◌<◌, ◌≡◌, refl, subst, ◌∙◌, ◌≢◌, arith, get_or, set, get_or-set_other, Group}
use Rattle.laws.proofs.Lock.{Thread, Sizes, Op, State, fresh_thread, thread_at, holding, woken, Outcome, taken}
use Rattle.laws.proofs.Lock.{refused, perform, Row, step}
use Rattle.laws.proofs.Sum.{bit_at}
use Rattle.laws.proofs.Role.{Role, handing, role_at, sums, tot-mem, Inv}
use Rattle.laws.proofs.Wake.{woken-out}
use Rattle.laws.proofs.Perform.{Keeps}
use Rattle.laws.proofs.Made.{stayed, roused, Made, still, goes, denied, made}
use Rattle.laws.proofs.Runs.{by_row}

-- thread u, who is not asleep, stays as it is in the row of another
abbrev pub Aside : Sizes → State → ℕ → Outcome → Type 0
Aside z s t (taken s' e) = (u : ℕ) → u ≢ t → (role_at z s u).sleeps ≡ 0 → thread_at s' u ≡ thread_at s u
Aside z s t (refused n) = Unit {0}

module _ (z : Sizes) (s : State) (t : ℕ) (inv : Inv z s) (l : t < 64) where
  wakes-aside : (g : Group) (x : ℕ) (h : Thread)
      → role_at z s t ≡ handing 0 x g → (u : ℕ) → u ≢ t → (role_at z s u).sleeps ≡ 0
      → get_or (set (woken (holding g) g.members s.threads) t h) u fresh_thread ≡ thread_at s u
  wakes-aside g x h e u n w =
      get_or-set_other (woken (holding g) g.members s.threads) t u h fresh_thread n
      ∙ woken-out (holding g) g.members s.threads u (omega (arith, inv.handed u, mine))
    where
      mine : bit_at g.members u ≤ sums z s (λ r. bit_at r.hand u)
      mine = subst (λ (r : Role). bit_at r.hand u ≤ sums z s (λ r. bit_at r.hand u)) e
          (tot-mem z (λ r. bit_at r.hand u) s.threads t (omega (arith, inv.threads)))

  made-aside : {o : Op} {x : Outcome} → Made z s t (λ e s₁ p. Unit {0}) o x → Keeps z s t (role_at z s t) o
      → Aside z s t x
  made-aside (still e i) a = λ u n w. refl
  made-aside (goes e ws m q hs p f stayed i k) a = λ u n w. get_or-set_other s.threads t u _ fresh_thread n
  made-aside (goes e ws m q hs p f (roused g p') i k) a = λ u n w. wakes-aside g a.own _ a.before u n w
  made-aside (denied n) a = tt

pub aside : (z : Sizes) (s : State) (r : Row) → Inv z s → Aside z s r.thread (step z s r)
unfolding step perform
aside z s r inv =
    by_row z s r inv (λ (o : Op). Aside z s r.thread (perform z s r.thread o))
    (λ l o k. made-aside z s r.thread inv l (made z s r.thread (λ e s₁ p. Unit {0}) o) k) (λ n h. tt)
