-- What a thread remembers of the words, and that each row keeps to it: a swap is only tried from a value that was read,
-- and what is remembered of a word goes stale only through others. This carries demand 3: a failed swap is a stale
-- memory that was noticed.
use Rattle.lock.proofs.Library.{ℕ, ◌≤◌, ◌<◌, zero-le, ◌≡◌, refl, ◌≢◌, true, Option, none, some, le_refl, arith}
use Rattle.lock.proofs.{Library.{ℕ_discrete, eqb, eqb-false, eq-eqb, ne_eqb}, Choice.if-both, Path.Below}
use Rattle.lock.proofs.Path.{below-dec, below-lt, below-mono, toward-below, On, on-parent, on-climb, on-le}
use Rattle.lock.proofs.Path.{toward-on, toward-lt}
use Rattle.std.specs.Prelude.{if◌then◌else◌}
use Rattle.lock.specs.{Word.{Word, opened, same}, Tree.{parent, toward}, Phase.Then}
use Rattle.lock.specs.Phase.{Leaving, Upgrading, Inside, Phase, Idle, Writing, Asleep, Reading, Look, Enter}
use Rattle.lock.specs.Phase.{Climb, ClimbSwap, Descend, Again, AgainSwap, Depart, DepartSwap, Leave, LeaveSwap}
use Rattle.lock.specs.Phase.{QueueTake, QueueRead, QueueBack, QueueJoin, Sleep, WriteLook, WriteEnter, WriteTake}
use Rattle.lock.specs.Phase.{WriteRead, WriteClose, WriteHold, WriteJoin, UnlockTake, UnlockNext, UnlockOpen}
use Rattle.lock.specs.Phase.{UnlockEnd, UnlockStore, LastTake, LastNext, HandRelease, HandWake, UpgradeTrade}
use Rattle.lock.specs.Phase.{UpgradeEnter, UpgradeLook, UpgradeSwap, DowngradeTake, DowngradeNext, DowngradeStore}
use Rattle.lock.specs.{Phase.{DowngradeRelease, DowngradeWake}, Call.arrived}

-- ---- memories

-- `zeros n c d`: the route is n, and of each node on its path strictly below c the 0 read on the way up; the row is at
-- node d. `expects w v m`: the next row swaps word w from v; over the memory m.
pub data Memory : Type 0 where
  nothing : Memory
  zeros : ℕ → ℕ → ℕ → Memory
  expects : ℕ → Word → Memory → Memory

-- a departure from d inside an arrival
abbrev pub during : Then → ℕ → Memory
during Leaving d = nothing
during Upgrading d = nothing
during (Inside n c) d = zeros n c d

unfoldable pub memory : Phase → Memory
memory Idle = nothing
memory Writing = nothing
memory Asleep = nothing
memory (Reading k) = nothing
memory (Look n) = nothing
memory (Enter v) = expects 0 v nothing
memory (Climb c n) = zeros n c c
memory (ClimbSwap c n v) = expects c v (zeros n c c)
memory (Descend c n) = expects c (opened 0 0) (zeros n c c)
memory (Again c n) = zeros n c c
memory (AgainSwap c n v) = expects c v (zeros n c c)
memory (Depart d k) = during k d
memory (DepartSwap d k v) = expects d v (during k d)
memory Leave = nothing
memory (LeaveSwap v) = expects 0 v nothing
memory (QueueTake n) = nothing
memory (QueueRead n) = nothing
memory (QueueBack n) = nothing
memory QueueJoin = nothing
memory Sleep = nothing
memory WriteLook = nothing
memory WriteEnter = expects 0 (opened 0 0) nothing
memory WriteTake = nothing
memory WriteRead = nothing
memory (WriteClose v) = expects 0 v nothing
memory WriteHold = nothing
memory WriteJoin = nothing
memory UnlockTake = nothing
memory UnlockNext = nothing
memory UnlockOpen = nothing
memory UnlockEnd = nothing
memory (UnlockStore b) = nothing
memory LastTake = nothing
memory LastNext = nothing
memory (HandRelease g) = nothing
memory (HandWake g) = nothing
memory (UpgradeTrade n) = nothing
memory (UpgradeEnter n v) = expects 0 v nothing
memory UpgradeLook = nothing
memory (UpgradeSwap v) = expects 0 v nothing
memory DowngradeTake = nothing
memory DowngradeNext = nothing
memory (DowngradeStore b) = nothing
memory (DowngradeRelease b) = nothing
memory (DowngradeWake b) = nothing

-- what a memory has of the word w
abbrev zero_if : {A : Type 0} → Dec A → Option Word
zero_if (yes a) = some (opened 0 0)
zero_if (no a) = none

abbrev pub recall : ℕ → Memory → ℕ → Option Word
recall F nothing w = none
recall F (zeros n c d) w = zero_if (below-dec n F n c w)
recall F (expects x v m) w = if eqb w x then some v else recall F m w

-- 1 where another value than u is remembered of the word w
abbrev differs : Option Word → Word → ℕ
differs none u = 0
differs (some v) u = if same u v then 0 else 1

unfoldable pub stale : ℕ → Memory → ℕ → Word → ℕ
stale F m w u = differs (recall F m w) u

-- the nodes of a memory: c is on the path from n, and the row is at c or above
unfoldable pub Fits : ℕ → Memory → Type 0
Fits F nothing = Unit {0}
Fits F (zeros n c d) = On F n c × (d ≤ c)
Fits F (expects w v m) = Fits F m

-- ---- laws of staleness

pub same_self : (v : Word) → same v v ≡ true
same_self v =
    rw (eq-eqb v.direct v.direct refl, eq-eqb v.tree v.tree refl, eq-eqb v.closed v.closed refl)

pub stale-le : (F : ℕ) (m : Memory) (w : ℕ) (u : Word) → stale F m w u ≤ 1
unfolding stale
stale-le F m w u = from (recall F m w)
  where
    from : (o : Option Word) → differs o u ≤ 1
    from none = zero-le
    from (some v) = if-both (λ (x : ℕ). x ≤ 1) (same u v) (λ e. zero-le) (λ e. le_refl 1)

pub stale-nothing : (F w : ℕ) (u : Word) → stale F nothing w u ≡ 0
unfolding stale
stale-nothing F w u = refl

-- at the word that is to be swapped, and at another
pub stale-at : (F w : ℕ) (v : Word) (m : Memory) (u : Word) → stale F (expects w v m) w u ≡ (if same u v then 0 else 1)
unfolding stale
stale-at F w v m u = rw (eq-eqb w w refl)

pub stale-off : (F w : ℕ) (v : Word) (m : Memory) (x : ℕ) (u : Word)
    → x ≢ w → stale F (expects w v m) x u ≡ stale F m x u
unfolding stale
stale-off F w v m x u h = rw (ne_eqb x w h)

module _ (F n c d : ℕ) where
  -- whether the memory of the word x is stale, by whether x is on the path
  by-path : (P : ℕ → Type 0) (x : ℕ) (u : Word) → (Below n F n c x → P (if same u (opened 0 0) then 0 else 1))
      → ((Below n F n c x → ⊥) → P 0) → P (stale F (zeros n c d) x u)
  unfolding stale
  by-path P x u f g =
      elim (below-dec n F n c x) as (λ o. P (differs (zero_if o) u)) [ yes b ↦ f b | no b ↦ g b ]

  -- off the path, and at a node that still has 0
  pub zeros-off : (x : ℕ) (u : Word) → (Below n F n c x → ⊥) → stale F (zeros n c d) x u ≡ 0
  zeros-off x u h = by-path (λ k. k ≡ 0) x u (λ b. absurd (h b)) (λ b. refl)

  zeros-fresh : (x : ℕ) (u : Word) → same u (opened 0 0) ≡ true → stale F (zeros n c d) x u ≡ 0
  zeros-fresh x u e = by-path (λ k. k ≡ 0) x u (λ b. rw e) (λ b. refl)

  zeros-on : (x : ℕ) (u : Word) → Below n F n c x → stale F (zeros n c d) x u ≡ (if same u (opened 0 0) then 0 else 1)
  zeros-on x u b = by-path (λ k. k ≡ (if same u (opened 0 0) then 0 else 1)) x u (λ a. refl) (λ a. absurd (a b))

  -- at c and above, nothing is remembered
  pub zeros-above : (x : ℕ) (u : Word) → x ≤ c → stale F (zeros n c d) x u ≡ 0
  zeros-above x u l = zeros-off x u (λ b. let h = below-lt n F n c x b in omega arith)

zeros-less : (F n c d c' d' x : ℕ) (u : Word)
    → (Below n F n c' x → Below n F n c x) → stale F (zeros n c' d') x u ≤ stale F (zeros n c d) x u
zeros-less F n c d c' d' x u h =
    by-path F n c' d' (λ k. k ≤ stale F (zeros n c d) x u) x u (λ b. rw (zeros-on F n c d x u (h b)) (le_refl _))
    (λ b. zero-le)

-- ---- what may follow a row

-- The memory m' may follow m, once the word w has been seen to have the value v: of w it has nothing else, of other
-- words no more than m.
pub record After (F : ℕ) (m : Memory) (w : ℕ) (v : Word) (m' : Memory) : Type 0 where
  pub at : stale F m' w v ≡ 0
  pub off : (x : ℕ) (u : Word) → x ≢ w → stale F m' x u ≤ stale F m x u
  pub fit : Fits F m'

pub forget : (F : ℕ) (m : Memory) (w : ℕ) (v : Word) → After F m w v nothing
unfolding Fits
forget F m w v = record { at = stale-nothing F w v; off = λ x u h. rw (stale-nothing F x u) zero-le; fit = tt }

-- the word is to be swapped from what it was seen to have
pub remember-same : (F : ℕ) (m : Memory) (w : ℕ) (v old : Word)
    → same v old ≡ true → Fits F m → After F m w v (expects w old m)
unfolding Fits
remember-same F m w v old e f =
    record { at = rw (stale-at F w old m v, e); off = λ x u h. rw (stale-off F w old m x u h) (le_refl _); fit = f }

pub remember : (F : ℕ) (m : Memory) (w : ℕ) (v : Word) → Fits F m → After F m w v (expects w v m)
remember F m w v f = remember-same F m w v v (same_self v) f

-- the same zeros, the row at another node at c or above
pub stay-below : (F n c d d' : ℕ) (v : Word) → Fits F (zeros n c d) → d' ≤ c → After F (zeros n c d) d v (zeros n c d')
unfolding Fits
stay-below F n c d d' v f l =
    record {
      at = zeros-above F n c d' d v f.1;
      off = λ x u h. zeros-less F n c d c d' x u (λ b. b);
      fit = (f.0, l);
    }

-- a 0 was read at c, and the climb goes on to its parent
pub climb-on : (F n c : ℕ) (v : Word) → c ≢ 0
    → same v (opened 0 0) ≡ true → Fits F (zeros n c c) → After F (zeros n c c) c v (zeros n (parent F c) (parent F c))
unfolding Fits
climb-on F n c v z e f =
    record {
      at = zeros-fresh F n (parent F c) (parent F c) c v e;
      off = λ x u h. zeros-less F n c c (parent F c) (parent F c) x u (on-climb F n c x z f.0 h);
      fit = (on-parent F n c z f.0, le_refl _);
    }

-- success at c: the node b below it on the path is swapped from the 0 read on the way up
come-down : (F n c d b : ℕ) (v : Word)
    → d ≤ c → c < b → Below n F n c b → On F n b → After F (zeros n c d) d v (expects b (opened 0 0) (zeros n b b))
unfolding Fits
come-down F n c d b v l lower below on =
    record {
      at = rw (stale-off F b (opened 0 0) (zeros n b b) d v (λ q. omega arith)) (zeros-above F n b b d v (omega arith));
      off = λ x u h. elim (ℕ_discrete x b) [
        | yes q ↦ rw (q, stale-at F b (opened 0 0) (zeros n b b) u, zeros-on F n c d b u below) (le_refl _)
        | no q ↦ rw (stale-off F b (opened 0 0) (zeros n b b) x u q)
            (zeros-less F n c d b b x u (below-mono n F n c b x (omega arith)))
      ];
      fit = (on, le_refl _);
    }

pub arrive : (F n c d : ℕ) (v : Word) → Fits F (zeros n c d) → After F (zeros n c d) d v (memory (arrived F c n))
unfolding Fits memory
arrive F n c d v f =
    if-both (λ (p : Phase). After F (zeros n c d) d v (memory p)) (eqb c n)
    (λ e. forget F _ d v)
    (λ e. let ne = eqb-false c n e in let l : c < n = omega (arith, on-le F n c f.0) in
    come-down F n c d (toward F n c) v f.1 (toward-lt F n c l) (toward-below F n c l) (toward-on F n c l))
