-- What the order of a row makes of it: its thread goes on, begins a call, books, or is refused.
use Rattle.laws.proofs.Lock.{ℕ, zero, suc, ◌+◌, ◌-◌, ◌<◌, ◌≡◌, refl, Option, none, some, arith, eqb, ltb}
use Rattle.std.specs.Prelude.{if◌then◌else◌}
use Rattle.laws.proofs.Lock.{eqb-true, ltb-true, ltb-false, List, length, if-both, booking-both}
use Rattle.laws.proofs.Lock.{Phase, Standing, standing, Idle, Writing, Reading, Look, Depart, Leave, WriteLook}
use Rattle.laws.proofs.Lock.{UnlockTake, UpgradeTrade, UpgradeLook, DowngradeTake, Leaving, Sizes, Op, begin}
use Rattle.laws.proofs.Lock.{note, refuse, op, Order, go_on, write_lock, unlock, upgrade, downgrade, read_lock}
use Rattle.laws.proofs.Lock.{book, decode, beginning, unlocking, upgrading, downgrading, obey, OfRow, Row, row_op}
use Rattle.laws.proofs.Lock.{State, thread_at, Entry, call_begun, held_up, booking_taken, Outcome, taken}
use Rattle.laws.proofs.Lock.{refused as denies, Word, Waiters, Thread, goes, perform, step}
use Rattle.laws.proofs.Seen.{Seen, idle, writing, asleep, reading, calling, seen, by-seen}
use Rattle.laws.proofs.Role.{Inv, moves}
use Rattle.laws.proofs.Made.{Others, others-length, Steps, Becomes, Made, still, denied, made}

-- what an order's number tells of it; a route is a node
abbrev Decoded : Sizes → ℕ → Option Order → Type 0
Decoded z o none = Unit {0}
Decoded z o (some go_on) = Unit {0}
Decoded z o (some write_lock) = o ≡ 1
Decoded z o (some unlock) = o ≡ 2
Decoded z o (some upgrade) = o ≡ 3
Decoded z o (some downgrade) = o ≡ 4
Decoded z o (some (read_lock n)) = (o ≡ 64 + n) × (n < z.nodes)
Decoded z o (some (book e)) = Unit {0}

decoded : (z : Sizes) (o : ℕ) → Decoded z o (decode z o)
decoded z o =
    if-both (Decoded z o) (eqb o 0) (λ e. tt)
    (λ e. if-both (Decoded z o) (eqb o 1) (λ e. eqb-true o 1 e)
    (λ e. if-both (Decoded z o) (eqb o 2) (λ e. eqb-true o 2 e)
    (λ e. if-both (Decoded z o) (eqb o 3) (λ e. eqb-true o 3 e)
    (λ e. if-both (Decoded z o) (eqb o 4) (λ e. eqb-true o 4 e)
    (λ e. if-both (Decoded z o) (ltb o 64) (λ e. tt)
    (λ e. if-both (Decoded z o) (ltb o 96)
    (λ k. if-both (Decoded z o) (ltb (o - 64) z.nodes)
    (λ l. (omega (arith, ltb-false o 64 e), ltb-true (o - 64) z.nodes l)) (λ l. tt))
    (λ k. if-both (Decoded z o) (ltb o 128)
    (λ e. if-both (Decoded z o) (ltb (o - 96) z.items) (λ l. tt) (λ l. tt)) (λ e. tt))))))))

-- order w, with the number o, takes a thread from the phase p to the first of a call
pub data Starts (z : Sizes) (o : ℕ) : Order → Phase → Phase → Type 0 where
  writes : o ≡ 1 → Starts z o write_lock Idle WriteLook
  reads : (n : ℕ) → o ≡ 64 + n → n < z.nodes → Starts z o (read_lock n) Idle (Look n)
  leaves : o ≡ 2 → Starts z o unlock (Reading 0) Leave
  departs : (k : ℕ) → o ≡ 2 → Starts z o unlock (Reading (suc k)) (Depart (suc k) Leaving)
  unlocks : o ≡ 2 → Starts z o unlock Writing UnlockTake
  upgrades : o ≡ 3 → Starts z o upgrade (Reading 0) UpgradeLook
  trades : (k : ℕ) → o ≡ 3 → Starts z o upgrade (Reading (suc k)) (UpgradeTrade (suc k))
  lowers : o ≡ 4 → Starts z o downgrade Writing DowngradeTake

-- of a choice by a ticket, that of a node is the second
node-ticket : (P : Phase → Type 0) (k : ℕ) (x : Phase) {y : Phase} → P y → P (if eqb (suc k) 0 then x else y)
node-ticket P k x h = if-both P (eqb (suc k) 0) (λ q. absurd (omega (arith, eqb-true (suc k) 0 q))) (λ q. h)

module _ (z : Sizes) (o : ℕ) (P : Op → Type 0) (denied : (n : ℕ) → OfRow n → P (refuse n)) where
  abbrev Begins : Order → Phase → Type 0
  Begins w p = (p' : Phase) → Starts z o w p p' → P (begin p')

  refused : P (refuse 7)
  refused = denied 7 (omega arith)

  idles : (w : Order) (p p' : Phase) (x : Standing) → Seen p x → Starts z o w Idle p' → Begins w p → P (beginning p' x)
  idles w p p' x idle h f = f p' h
  idles w p p' x writing h f = refused
  idles w p p' x asleep h f = refused
  idles w p p' x (reading k) h f = refused
  idles w p p' x (calling c) h f = refused

  leaving : (p : Phase) (x : Standing) → Seen p x → o ≡ 2 → Begins unlock p → P (unlocking x)
  leaving p x idle e f = refused
  leaving p x writing e f = f _ (unlocks e)
  leaving p x asleep e f = refused
  leaving p x (reading zero) e f = f _ (leaves e)
  leaving p x (reading (suc k)) e f = node-ticket (λ (p : Phase). P (begin p)) k Leave (f _ (departs k e))
  leaving p x (calling c) e f = refused

  raising : (p : Phase) (x : Standing) → Seen p x → o ≡ 3 → Begins upgrade p → P (upgrading x)
  raising p x idle e f = refused
  raising p x writing e f = refused
  raising p x asleep e f = refused
  raising p x (reading zero) e f = f _ (upgrades e)
  raising p x (reading (suc k)) e f = node-ticket (λ (p : Phase). P (begin p)) k UpgradeLook (f _ (trades k e))
  raising p x (calling c) e f = refused

  lowering : (p : Phase) (x : Standing) → Seen p x → o ≡ 4 → Begins downgrade p → P (downgrading x)
  lowering p x idle e f = refused
  lowering p x writing e f = f _ (lowers e)
  lowering p x asleep e f = refused
  lowering p x (reading k) e f = refused
  lowering p x (calling c) e f = refused

  by_order : (p : Phase) (d : Option Order) → Decoded z o d → P (op z.fan p)
      → ((w : Order) → d ≡ some w → Begins w p) → P note → P (obey z.fan p d)
  unfolding obey
  by_order p none k g f b = denied 6 (omega arith)
  by_order p (some go_on) k g f b = g
  by_order p (some write_lock) k g f b = idles write_lock p WriteLook _ (seen p) (writes k) (f _ refl)
  by_order p (some unlock) k g f b = leaving p _ (seen p) k (f _ refl)
  by_order p (some upgrade) k g f b = raising p _ (seen p) k (f _ refl)
  by_order p (some downgrade) k g f b = lowering p _ (seen p) k (f _ refl)
  by_order p (some (read_lock n)) k g f b = idles (read_lock n) p (Look n) _ (seen p) (reads n k.0 k.1) (f _ refl)
  by_order p (some (book e)) k g f b = booking-both P (standing p) b refused

-- A fact P of the operation of a row whose thread is in the phase p: of that which the thread goes on with, of each
-- that begins a call, of a booking, all of a thread that is there; and of a refusal.
pub of-phase : (z : Sizes) (p : Phase) (r : Row) (P : Op → Type 0) → (r.thread < z.threads → P (op z.fan p))
    → (r.thread < z.threads → (w : Order) → decode z r.order ≡ some w
    → (p' : Phase) → Starts z r.order w p p' → P (begin p'))
    → (r.thread < z.threads → P note) → ((n : ℕ) → OfRow n → P (refuse n)) → P (row_op z p r)
unfolding row_op
of-phase z p r P g f b d =
    if-both P (ltb r.thread z.threads)
    (λ e. let l = ltb-true r.thread z.threads e in
    by_order z r.order P d p (decode z r.order) (decoded z r.order) (g l) (f l) (b l))
    (λ e. d 5 (omega arith))

-- the same of a row at a state of a run, which has 64 threads
pub of_row : (z : Sizes) (s : State) (r : Row) → Inv z s → (P : Op → Type 0)
    → (r.thread < 64 → P (op z.fan (thread_at s r.thread).phase))
    → (r.thread < 64 → (w : Order) → decode z r.order ≡ some w
    → (p' : Phase) → Starts z r.order w (thread_at s r.thread).phase p' → P (begin p'))
    → (r.thread < 64 → P note) → ((n : ℕ) → OfRow n → P (refuse n))
    → P (row_op z (thread_at s r.thread).phase r)
of_row z s r inv P g f b d = of-phase z _ r P (λ l. g (there l)) (λ l. f (there l)) (λ l. b (there l)) d
  where
    there : r.thread < z.threads → r.thread < 64
    there l = omega (arith, inv.sizes.threads)

-- A fact Q of a row's outcome, by what the row makes: nothing moves; its thread goes on with its call, of which P
-- tells; it begins one; the row is refused.
pub row_makes : (z : Sizes) (s : State) (r : Row)
    → Inv z s → (P : Entry → State → Phase → Type 0) (Q : Outcome → Type 0)
    → ((e : Entry) → 0 < e.kind → Q (taken s e)) → ((n : ℕ) → Q (denies n))
    → ((o : Op) (e : Entry) (ws : List Word) (m : Option ℕ) (q : Waiters) (hs : List Thread) (p : Phase) (f : ℕ)
    → r.thread < length hs → Others s o hs → 0 < e.kind
    → P e (record { words = ws; mutex = m; queue = q; threads = hs }) p
    → Q (taken (moves r.thread ws m q hs p f) e))
    → ((w : Order) (p' : Phase) → decode z r.order ≡ some w
    → Starts z r.order w (thread_at s r.thread).phase p' → r.thread < length s.threads
    → Q (taken (goes s r.thread p') call_begun))
    → (r.thread < 64 → Becomes z s r.thread P (op z.fan (thread_at s r.thread).phase))
    → Q (step z s r)
unfolding step perform op
row_makes z s r inv P Q st re go be k =
    of_row z s r inv (λ (o : Op). Q (perform z s t o)) (λ l. goes_on l (thread_at s t).phase (k l))
    (λ l w q p' h. be w p' q h (omega (arith, inv.threads))) (λ l. st booking_taken (omega arith)) (λ n h. re n)
  where
    t : ℕ
    t = r.thread

    from : {o : Op} {x : Outcome} → t < 64 → Steps o → Becomes z s t P o → Made z s t P o x → Q x
    from l a h (still e i) = st e i
    from {o} l a h (Made.goes e ws m q hs p f i n c) =
        go o e ws m q hs p f (omega (arith, others-length i, inv.threads)) i (n a) (c h)
    from l a h (denied n) = re n

    goes_on : t < 64 → (p : Phase) → Becomes z s t P (op z.fan p) → Q (perform z s t (op z.fan p))
    goes_on l = by-seen (λ (p : Phase). Becomes z s t P (op z.fan p) → Q (perform z s t (op z.fan p)))
        (λ h. re 7) (λ h. re 7) (λ h. st held_up (omega arith)) (λ n h. re 7)
        (λ p e c h. from l (c.0 z.fan) h (made z s t P (op z.fan p)))
