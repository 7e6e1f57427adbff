-- Rows in lock order keep every state in order, and from a state in order both locks come free. First all calls of the
-- lock that is taken first end, since who is in a call of one lock is in none of the other. Now nobody who holds or
-- waits at the second lock is in a call of the first or asleep there, so the second comes free; then the first.
use Rattle.lock.proofs.Library.{⊎_elim, ℕ, zero, suc, ◌+◌, ◌≤◌, ◌≡◌, refl, sym, subst, ap, ◌∙◌, ◌≢◌, ◌⊎◌, inl, inr}
use Rattle.lock.proofs.Library.{Bool, true, false, ◌&&◌, List, [], ◌∷◌, ◌++◌, arith, ℕ_discrete, eqb, length, take}
use Rattle.lock.{proofs.Choice.not-both, proofs.Machine.row-leads, proofs.Machine.state-taken}
use Rattle.std.specs.Prelude.{if◌then◌else◌}
use Rattle.laws.proofs.Lock.{call_begun, Entry, Phase, Idle, Standing, standing, Sizes, Row, OutcomeOf}
use Rattle.laws.proofs.Lock.{runs, decode, State, Outcome, taken, refused, step, InRange, All}
use Rattle.laws.{proofs.Cases.dec-both, proofs.Staying.others-stay, specs.Exclusion.Resting, specs.Restoring.row}
use Rattle.laws.{specs.Sleeping.Free, specs.Late.row_at}
use Rattle.pair.specs.Pair.{Side, first, second, Pair, lock_of, other, fresh_pair, busy, side_of, own_row, barred, Note}
use Rattle.pair.{specs.Pair.turned, specs.Pair.turn, specs.Pair.run, specs.Apart.is, specs.Calls.OneCall}
use Rattle.pair.{proofs.Apart.separate, proofs.Apart.idle-fresh, proofs.Calls.rests-there, proofs.Calls.one-call}
use Rattle.progress.specs.LockOrder.{GoesOnOrUnlocksOne, DeadlockFreePair, is_lock_call, asks_for, pair_at, LockOrder}
use Rattle.progress.specs.LockOrder.{acquires, InOrder, OrderedOf}
use Rattle.progress.proofs.Kept.{Kept, KeptAfter, idle-stays, kept_step, kept-after, Leads, here, on, AnyRow}
use Rattle.progress.proofs.Progress.{AllIdle, comes-to-rest, comes-free, free-lock, measures-enough}
use Rattle.progress.proofs.Acquiring.{rests-not, not-rests, step-not, other-not, leads-not}
use Rattle.progress.proofs.{Kept.goes_on, Kept.begins, Kept.Reaches, Ran.Ran, Ran.ran-more, Ran.ran-behind}
use Rattle.progress.proofs.{Rows.phase_of, Rows.measures, Alone.calling?, Alone.calling-busy, Alone.holding-rests}
use Rattle.lock.specs.Run as lock

-- rows of both keep of each lock what its own rows keep
pub kept-lock : (z : Sizes) → InRange z → (rs : List Row) (x : Side) → Kept z (lock_of x (run z fresh_pair rs).state)
kept-lock z h rs x = subst (Kept z) (ap (λ (r : lock.Result). r.state) (separate z x rs).alone) (kept-after z h _)

-- ---- a row in lock order keeps a state in order

-- the lock a is taken first
abbrev Order : State → State → Type 0
Order a b = (t : ℕ) → (phase_of b t ≡ Idle) ⊎ (acquires (phase_of a t) ≡ false)

module _ (z : Sizes) (a b : State) (r : Row) (o : Order a b) where
  -- a row at the first lock
  first-moves : (a' : State) (e : Entry) → Kept z a → step z a r ≡ taken a' e
      → (is_lock_call (decode z r.order) ≡ true → phase_of b r.thread ≡ Idle) → Order a' b
  first-moves a' e kept q asks t = from (is_lock_call (decode z r.order)) refl (ℕ_discrete t r.thread) (o t)
    where
      from : (k : Bool) → is_lock_call (decode z r.order) ≡ k → Dec (t ≡ r.thread)
          → (phase_of b t ≡ Idle) ⊎ (acquires (phase_of a t) ≡ false)
          → (phase_of b t ≡ Idle) ⊎ (acquires (phase_of a' t) ≡ false)
      from k p d (inl i) = inl i
      from false p d (inr n) = inr (step-not z a r a' e kept p q t n)
      from true p (yes d) (inr n) = inl (ap (phase_of b) d ∙ asks p)
      from true p (no d) (inr n) = inr (other-not z a r t a' e d n q)

  -- a row at the second, by a thread that rests at the first
  second-moves : (b' : State) (e : Entry) → Kept z b → step z b r ≡ taken b' e → busy a r.thread ≡ false → Order a b'
  second-moves b' e kept q rest t =
      ⊎_elim
      (λ i. dec-both (ℕ_discrete t r.thread)
      (λ d. inr (subst (λ (u : ℕ). acquires (phase_of a u) ≡ false) (sym d) (rests-not (phase_of a r.thread) rest)))
      (λ d. inl (idle-stays z b r b' e kept.inv q t d i)))
      inr (o t)

abbrev OrderAfter : Side → OutcomeOf Pair Note → Type 0
OrderAfter x (taken s m) = InOrder x s
OrderAfter x (refused n) = Unit {0}

module _ (z : Sizes) (x : Side) (s : Pair) (r : Row) (kept : (y : Side) → Kept z (lock_of y s)) (one : OneCall s)
    (o : InOrder x s) where
  turned-order : (x y : Side) → InOrder x s → (l : State) (e : Entry) → step z (lock_of y s) (own_row r) ≡ taken l e
      → busy (lock_of (other y) s) r.thread ≡ false
      → (x ≡ y → is_lock_call (decode z (own_row r).order) ≡ true → phase_of (lock_of (other x) s) r.thread ≡ Idle)
      → OrderAfter x (turned s y false (taken l e))
  turned-order first first o l e q rest asks =
      first-moves z s.one s.two (own_row r) o l e (kept first) q (asks refl)
  turned-order second second o l e q rest asks =
      first-moves z s.two s.one (own_row r) o l e (kept second) q (asks refl)
  turned-order first second o l e q rest asks = second-moves z s.one s.two (own_row r) o l e (kept second) q rest
  turned-order second first o l e q rest asks = second-moves z s.two s.one (own_row r) o l e (kept first) q rest

  asks_at : (y : Side) → side_of s r ≡ y → x ≡ y → is_lock_call (decode z (own_row r).order) ≡ true
      → asks_for z x s r ≡ true
  asks_at y p e k = from x (side_of s r) (e ∙ sym p)
    where
      same : (a : Side) → (is a a && is_lock_call (decode z (own_row r).order)) ≡ true
      same first = k
      same second = k

      from : (a b : Side) → a ≡ b → (is a b && is_lock_call (decode z (own_row r).order)) ≡ true
      from a b e = subst (λ (c : Side). (is a c && is_lock_call (decode z (own_row r).order)) ≡ true) e (same a)

  next-at : (asks_for z x s r ≡ true → phase_of (lock_of (other x) s) r.thread ≡ Idle) → (y : Side) → side_of s r ≡ y
      → (b : Bool) → barred s y r ≡ b → (out : Outcome) → step z (lock_of y s) (own_row r) ≡ out
      → OrderAfter x (turned s y b out)
  next-at asks y p true k (taken l e) q = tt
  next-at asks y p true k (refused n) q = tt
  next-at asks y p false k (refused n) q = tt
  next-at asks y p false k (taken l e) q =
      turned-order x y o l e q (rests-there z s r one y p k) (λ e k. asks (asks_at y p e k))

  order-next : (asks_for z x s r ≡ true → phase_of (lock_of (other x) s) r.thread ≡ Idle) → OrderAfter x (turn z s r)
  unfolding turn
  order-next asks =
      next-at asks (side_of s r) refl (barred s (side_of s r) r) refl (step z (lock_of (side_of s r) s) (own_row r)) refl

fresh-order : (x : Side) → InOrder x fresh_pair
unfolding acquires
fresh-order first t = inr (rests-not _ (idle-fresh t))
fresh-order second t = inr (rests-not _ (idle-fresh t))

pub order-kept : (z : Sizes) → InRange z → (x : Side) (rs : List Row) → LockOrder z x rs → (i : ℕ)
    → i ≤ (run z fresh_pair rs).taken → InOrder x (pair_at z rs i)
unfolding run runs
order-kept z h x rs o zero l = fresh-order x
order-kept z h x rs o (suc i) l =
    subst (OrderAfter x)
    (row-leads (turn z) fresh_pair rs i (row 0 0) (record { side = first; entry = call_begun }) (omega arith))
    (order-next z x (pair_at z rs i) (row_at z rs i) (kept-lock z h (take i rs)) (one-call z (take i rs))
    (order-kept z h x rs o i (omega arith)) (o i (omega arith)))

-- ---- the rows of one lock, in the run of both

-- the lock l on the side x, the lock m on the other
abbrev put : Side → State → State → Pair
put first l m = record { one = l; two = m }
put second l m = record { one = m; two = l }

put_both : (x : Side) (s : Pair) → s ≡ put x (lock_of x s) (lock_of (other x) s)
put_both first s = refl
put_both second s = refl

put_other : (x : Side) (l m : State) → put x l m ≡ put (other x) m l
put_other first l m = refl
put_other second l m = refl

put_all : (P : State → Type 0) (x y : Side) (l m : State) → P l → P m → P (lock_of y (put x l m))
put_all P first first l m a b = a
put_all P first second l m a b = b
put_all P second first l m a b = b
put_all P second second l m a b = a

-- the orders at the lock x
abbrev raised : Side → ℕ → ℕ
raised first o = o
raised second o = if eqb o 0 then 0 else o + 128

any_order : (x : Side) {b : Bool} {l : State} {r : Row} → AnyRow b l r
    → GoesOnOrUnlocksOne (row r.thread (raised x r.order))
any_order first (goes_on t c) = inl refl
any_order second (goes_on t c) = inl refl
any_order first (begins t i n) = inr (inl refl)
any_order second (begins t i n) = inr (inr refl)

abbrev note : Side → Entry → Note
note x e = record { side = x; entry = e }

-- a row at the lock x, by a thread that is not busy at the other
turn-any : (z : Sizes) {b : Bool} {l l' : State} (m : State) {r : Row} {e : Entry} (x : Side) → AnyRow b l r
    → busy m r.thread ≡ false → step z l r ≡ taken l' e
    → turn z (put x l m) (row r.thread (raised x r.order)) ≡ taken (put x l' m) (note x e)
unfolding turn
turn-any z m first (goes_on t c) free q = rw (free, q)
turn-any z m second (goes_on t c) free q = rw (c, q)
turn-any z m first (begins t i n) free q = rw (free, q)
turn-any z m second (begins t i n) free q = rw (free, q)

-- who makes such rows: threads in a call and, if unlocks may begin, all that are not idle
abbrev Moves : Bool → Phase → Type 0
Moves true p = p ≢ Idle
Moves false p = standing p ≡ Standing.Calling

any-moves : (b : Bool) {l : State} {r : Row} → AnyRow b l r → Moves b (phase_of l r.thread)
any-moves true (goes_on t c) = calling-busy _ c
any-moves false (goes_on t c) = c
any-moves true (begins t i n) = n
any-moves false (begins t i n) = not-both false i refl

-- nobody of them is in a call of the other lock, m, or asleep there
abbrev Unhindered : Bool → State → State → Type 0
Unhindered b l m = (u : ℕ) → Moves b (phase_of l u) → busy m u ≡ false

-- a row adds no other thread to them
moves_before : (z : Sizes) (b : Bool) (l : State) (r : Row) (l' : State) (e : Entry) → Kept z l
    → step z l r ≡ taken l' e → (u : ℕ) → u ≢ r.thread → Moves b (phase_of l' u) → Moves b (phase_of l u)
moves_before z true l r l' e kept q u n k = λ i. k (idle-stays z l r l' e kept.inv q u n i)
moves_before z false l r l' e kept q u n k =
    dec-both (calling? (standing (phase_of l u))) (λ c. c)
    (λ c. absurd (others-stay (λ (p : Phase). standing p ≢ Standing.Calling) holding-rests z l r u l' e n c q k))

unhindered-step : (z : Sizes) (b : Bool) (l : State) (r : Row) (l' : State) (e : Entry) (m : State) → Kept z l
    → step z l r ≡ taken l' e → Moves b (phase_of l r.thread) → Unhindered b l m → Unhindered b l' m
unhindered-step z b l r l' e m kept q n h u k =
    dec-both (ℕ_discrete u r.thread) (λ i. ap (busy m) i ∙ h r.thread n)
    (λ i. h u (moves_before z b l r l' e kept q u i k))

-- n rows of both locks, all taken, lead from s to `end`
record Joint (z : Sizes) (s end : Pair) (n : ℕ) : Type 0 where
  rows : List Row
  long : length rows ≡ n
  orders : All GoesOnOrUnlocksOne rows
  ran : Ran (run z s rows) (length rows) end

-- rows of the lock x, and others behind them
lifts : {z : Sizes} {b : Bool} {l l' : State} {rs : List Row} {n : ℕ} {end : Pair} (x : Side) (m : State) → Kept z l
    → Unhindered b l m → Leads z (AnyRow b) l rs l' → Joint z (put x l' m) end n
    → Joint z (put x l m) end (length rs + n)
unfolding run
lifts x m kept h here k =
    record { rows = k.rows; long = omega (arith, k.long); orders = k.orders; ran = k.ran }
lifts {z} {b} x m kept h (on {s = l} {s' = l'} {r} {e} a q d) k =
    let i = any-moves b a in
    let j = lifts x m (subst (KeptAfter z) q (kept_step z l r kept)) (unhindered-step z b l r l' e m kept q i h) d k in
    record {
      rows = row r.thread (raised x r.order) ∷ j.rows;
      long = omega (arith, j.long);
      orders = (any_order x a, j.orders);
      ran =
          ran-more (turn z) (put x l m) (row r.thread (raised x r.order)) j.rows
          (turn-any z m x a (h r.thread i) q) j.ran;
    }

-- ---- both come free

idle-free : (l : State) → ((t : ℕ) → phase_of l t ≡ Idle) → (u : ℕ) → busy l u ≡ false
unfolding standing
idle-free l i u = rw (i u)

-- who is in a call of the lock x is busy in no other
calls-apart : (x : Side) (s : Pair) → OneCall s → Unhindered false (lock_of x s) (lock_of (other x) s)
calls-apart first s one u c = rw c at (one u)
calls-apart second s one u c = from (busy s.one u) (rw c at (one u))
  where
    from : (b : Bool) → (b && true) ≡ false → b ≡ false
    from true e = e
    from false e = e

module _ (z : Sizes) (h : InRange z) (x : Side) (rs : List Row) (o : InOrder x (run z fresh_pair rs).state) where
  abbrev s : Pair
  s = (run z fresh_pair rs).state

  abbrev a : State
  a = lock_of x s

  abbrev b : State
  b = lock_of (other x) s

  kept : (y : Side) → Kept z (lock_of y s)
  kept y = kept-lock z h rs y

  -- the calls at the first lock end
  calm : Reaches z (AnyRow false) (measures z) (λ s'. Kept z s' × Resting s') a
  calm = comes-to-rest z a (kept x)

  -- the second lock comes free
  clear : Reaches z (AnyRow true) (measures z) (λ s'. Kept z s' × AllIdle s') b
  clear = comes-free z b (kept (other x))

  -- and then the first
  last : Reaches z (AnyRow true) (measures z) (λ s'. Kept z s' × AllIdle s') calm.state
  last = comes-free z calm.state calm.holds.0

  end : Pair
  end = put x last.state clear.state

  -- who is not idle at the second lock is in no call of the first now, and does not sleep there
  second-free : Unhindered true b calm.state
  second-free u n = from (o u)
    where
      from : (phase_of b u ≡ Idle) ⊎ (acquires (phase_of a u) ≡ false) → busy calm.state u ≡ false
      from (inl i) = absurd (n i)
      from (inr i) = not-rests (phase_of calm.state u) (calm.holds.1 u) (leads-not z (kept x) calm.leads u i)

  rows₃ : Joint z (put x calm.state clear.state) end (length last.rows + 0)
  unfolding run runs end
  rows₃ =
      lifts x clear.state calm.holds.0 (λ u n. idle-free clear.state clear.holds.1 u) last.leads
      (record { rows = []; long = refl; orders = tt; ran = record { answer = refl; taken = refl; state = refl } })

  rows₂ : Joint z (put (other x) b calm.state) end (length clear.rows + (length last.rows + 0))
  rows₂ =
      lifts (other x) calm.state (kept (other x)) second-free clear.leads
      (subst (λ (p : Pair). Joint z p end (length last.rows + 0)) (put_other x calm.state clear.state) rows₃)

  abbrev all : ℕ
  all = length calm.rows + (length clear.rows + (length last.rows + 0))

  rows₁ : Joint z s end all
  rows₁ =
      subst (λ (p : Pair). Joint z p end all) (sym (put_both x s))
      (lifts x b (kept x) (calls-apart x s (one-call z rs)) calm.leads
      (subst (λ (p : Pair). Joint z p end (length clear.rows + (length last.rows + 0)))
      (sym (put_other x calm.state b)) rows₂))

  ran : Ran (run z fresh_pair (take (run z fresh_pair rs).taken rs ++ rows₁.rows))
      (length (take (run z fresh_pair rs).taken rs ++ rows₁.rows)) end
  unfolding run
  ran = ran-behind (turn z) fresh_pair end rs rows₁.rows rows₁.ran

  comes-free-both : DeadlockFreePair z rs
  unfolding end
  comes-free-both =
      record {
        more = rows₁.rows;
        orders = rows₁.orders;
        few =
            omega (
              arith,
              rows₁.long,
              calm.few,
              clear.few,
              last.few,
              measures-enough z a (kept x),
              measures-enough z b (kept (other x)),
            );
        frees =
            record {
              answer = ran.answer;
              taken = ran.taken;
              idle =
                  λ y t. subst (λ (p : Pair). phase_of (lock_of y p) t ≡ Idle) (sym ran.state)
                  (put_all (λ (l : State). phase_of l t ≡ Idle) x y _ _ (last.holds.1 t) (clear.holds.1 t));
              free =
                  λ y. subst (λ (p : Pair). Free (lock_of y p)) (sym ran.state)
                  (put_all Free x y _ _ (free-lock z _ last.holds.0 last.holds.1)
                  (free-lock z _ clear.holds.0 clear.holds.1));
            };
      }

pub ordered : OrderedOf
unfolding run
ordered z h x rs =
    record {
      kept = order-kept z h x rs;
      comes_free = comes-free-both z h x rs;
      deadlock_free = λ o. comes-free-both z h x rs (at-end o);
    }
  where
    at-end : LockOrder z x rs → InOrder x (run z fresh_pair rs).state
    at-end o =
        subst (InOrder x) (state-taken (turn z) fresh_pair rs)
        (order-kept z h x rs o (run z fresh_pair rs).taken (omega arith))
