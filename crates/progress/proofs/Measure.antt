-- The measures that the proofs rest on: how many rows of its thread alone a call is from its end, and how many a thread
-- is from being idle.
use Rattle.lock.proofs.Library.{ℕ, zero, suc, ◌+◌, ◌*◌, ◌-◌, ◌≤◌, ◌<◌, zero-le, ◌≡◌, refl, ap, Bool, true, false, ◌&&◌}
use Rattle.lock.proofs.Library.{not, List, Option, none, some, le_refl, arith, ℕ_discrete, get_or}
use Rattle.lock.proofs.Choice.{if-both}
use Rattle.std.specs.Prelude.{if◌then◌else◌}
use Rattle.laws.proofs.Lock.{Word, opened, is_closed, same, Then, Leaving, Upgrading, Inside, Phase}
use Rattle.laws.proofs.Lock.{Standing, standing, Sizes, Op, begin, read, ask, swap, stay, note, store, lock, release}
use Rattle.laws.proofs.Lock.{join, next, take_readers, wake, refuse, op}
use Rattle.laws.proofs.{Cases.dec-both, Role.place, Role.role, Seen.by-seen}
use Rattle.laws.specs.Exclusion.{Part, as_nobody, as_reader, as_writer, counts_as}
use Rattle.progress.specs.LockOrder.{acquires}

-- ---- the way down

-- Where n was arrived at by way of the root: at each node j of its path a failed swap, another, and a departure from
-- the parent, of at most j nodes with two rows each. The sum of 2 * j + 2 for j up to n, which is n * n + 3 * n.
pub way_down : ℕ → ℕ
way_down zero = 0
way_down (suc n) = way_down n + 2 * n + 4

pub way_step : (c n : ℕ) → c < n → way_down c + 2 * n + 2 ≤ way_down n
unfolding way_down
way_step c zero h = absurd (omega arith)
way_step c (suc n) h =
    dec-both (ℕ_discrete c n) (λ e. omega (arith, ap way_down e))
    (λ e. omega (arith, way_step c n (omega arith)))

pub way-le : (c n : ℕ) → c ≤ n → way_down c ≤ way_down n
way-le c n h =
    dec-both (ℕ_discrete c n) (λ e. omega (arith, ap way_down e)) (λ e. omega (arith, way_step c n (omega arith)))

way-square : (n : ℕ) → way_down n ≡ n * n + 3 * n
unfolding way_down
way-square zero = refl
way-square (suc n) = omega (arith, way-square n)

pub way-most : (n N : ℕ) → n < N → way_down n + 2 ≤ N * N + N
way-most n N h = omega (arith, way_step n N h, way-square N)

-- ---- rows to the end of a call

-- once its departure is over
abbrev pub after_departure : Then → ℕ
after_departure Leaving = 5
after_departure Upgrading = 2
after_departure (Inside n c) = way_down n - way_down c

-- where no swap fails, by whether the root is closed, which tells a reader whether it will join the queue
unfoldable pub rows_to_go : Bool → Phase → ℕ
rows_to_go shut Phase.Idle = 0
rows_to_go shut Phase.Writing = 0
rows_to_go shut Phase.Asleep = 0
rows_to_go shut (Phase.Reading k) = 0
rows_to_go shut (Phase.Look n) = if shut then 5 else way_down n + n + 5
rows_to_go shut (Phase.Enter v) = 4
rows_to_go shut (Phase.Climb c n) = way_down n + c + 2
rows_to_go shut (Phase.ClimbSwap c n v) = way_down n + c + 1
rows_to_go shut (Phase.Descend c n) = way_down n - way_down c + 2 * c + 1
rows_to_go shut (Phase.Again c n) = way_down n - way_down c + 2 * c + 2
rows_to_go shut (Phase.AgainSwap c n v) = way_down n - way_down c + 2 * c + 1
rows_to_go shut (Phase.Depart d k) = after_departure k + 2 * d + 2
rows_to_go shut (Phase.DepartSwap d k v) = after_departure k + 2 * d + 1
rows_to_go shut Phase.Leave = 7
rows_to_go shut (Phase.LeaveSwap v) = 6
rows_to_go shut (Phase.QueueTake n) = if shut then 4 else way_down n + n + 8
rows_to_go shut (Phase.QueueRead n) = if shut then 3 else way_down n + n + 7
rows_to_go shut (Phase.QueueBack n) = if shut then 6 else way_down n + n + 6
rows_to_go shut Phase.QueueJoin = 2
rows_to_go shut Phase.Sleep = 1
rows_to_go shut Phase.WriteLook = 6
rows_to_go shut Phase.WriteEnter = 5
rows_to_go shut Phase.WriteTake = 5
rows_to_go shut Phase.WriteRead = 4
rows_to_go shut (Phase.WriteClose v) = 3
rows_to_go shut Phase.WriteHold = 1
rows_to_go shut Phase.WriteJoin = 2
rows_to_go shut Phase.UnlockTake = 5
rows_to_go shut Phase.UnlockNext = 4
rows_to_go shut Phase.UnlockOpen = 2
rows_to_go shut Phase.UnlockEnd = 1
rows_to_go shut (Phase.UnlockStore b) = 3
rows_to_go shut Phase.LastTake = 5
rows_to_go shut Phase.LastNext = 4
rows_to_go shut (Phase.HandRelease g) = 2
rows_to_go shut (Phase.HandWake g) = 1
rows_to_go shut (Phase.UpgradeTrade n) = 2 * n + 6
rows_to_go shut (Phase.UpgradeEnter n v) = 2 * n + 5
rows_to_go shut Phase.UpgradeLook = 2
rows_to_go shut (Phase.UpgradeSwap v) = 1
rows_to_go shut Phase.DowngradeTake = 5
rows_to_go shut Phase.DowngradeNext = 4
rows_to_go shut (Phase.DowngradeStore b) = 3
rows_to_go shut (Phase.DowngradeRelease b) = 2
rows_to_go shut (Phase.DowngradeWake b) = 1

-- the word of the next row, and from what it swaps, where it is a swap
abbrev swap_of : Op → Option (ℕ × Word)
swap_of (begin p) = none
swap_of (read w k) = none
swap_of (ask k p) = none
swap_of (swap w old new p back) = some (w, old)
swap_of stay = none
swap_of note = none
swap_of (store f p) = none
swap_of (lock p) = none
swap_of (release p) = none
swap_of (join e p) = none
swap_of (next last k) = none
swap_of (take_readers k) = none
swap_of (wake g p) = none
swap_of (refuse n) = none

-- 1 where there is one
abbrev some? : Option (ℕ × Word) → ℕ
some? none = 0
some? (some x) = 1

-- and where it will fail. That is the next read too, so that the next swap of a thread alone does not fail.
abbrev fails? : List Word → Option (ℕ × Word) → ℕ
fails? ws none = 0
fails? ws (some (w, old)) = if same (get_or ws w (opened 0 0)) old then 0 else 1

fails-some : (ws : List Word) (o : Option (ℕ × Word)) → fails? ws o ≤ some? o
fails-some ws none = zero-le
fails-some ws (some (w, old)) =
    if-both (λ (n : ℕ). n ≤ 1) (same (get_or ws w (opened 0 0)) old) (λ e. zero-le) (λ e. le_refl 1)

abbrev pub swaps : Op → ℕ
swaps o = some? (swap_of o)

abbrev pub fails_next : List Word → Op → ℕ
fails_next ws o = fails? ws (swap_of o)

pub fails-le : (ws : List Word) (o : Op) → fails_next ws o ≤ swaps o
fails-le ws o = fails-some ws (swap_of o)

abbrev pub root_closed : List Word → Bool
root_closed ws = is_closed (get_or ws 0 (opened 0 0))

-- at most so many rows, failed swaps counted in
abbrev pub rows_to_end : Sizes → List Word → Phase → ℕ
rows_to_end z ws p = rows_to_go (root_closed ws) p + fails_next ws (op z.fan p)

-- ---- rows until a thread is idle

abbrev is_nobody : Part → Bool
is_nobody as_nobody = true
is_nobody as_reader = false
is_nobody as_writer = false

-- Is it idle, or in an unlock, which ends so? It then counts as nobody and is not acquiring the lock.
unfoldable pub ends_idle : Phase → Bool
unfolding counts_as acquires
ends_idle p = is_nobody (counts_as p) && not (acquires p)

abbrev pub ends_idle_then : Then → Bool
ends_idle_then Leaving = true
ends_idle_then Upgrading = false
ends_idle_then (Inside n c) = false

pub departs-idle : (d : ℕ) (v : Word) (k : Then)
    → (ends_idle (Phase.Depart d k) ≡ ends_idle_then k) × (ends_idle (Phase.DepartSwap d k v) ≡ ends_idle_then k)
unfolding ends_idle
departs-idle d v Leaving = (refl, refl)
departs-idle d v Upgrading = (refl, refl)
departs-idle d v (Inside n c) = (refl, refl)

-- after the call under way: nothing, or a whole unlock
abbrev pub unlock_owed_by : Sizes → Bool → ℕ
unlock_owed_by z out = if out then 0 else 2 * z.nodes + 6

-- the call under way, at most
abbrev pub call_bound_by : Sizes → Bool → Standing → ℕ
call_bound_by z out Standing.Idle = 0
call_bound_by z out (Standing.Reading k) = 0
call_bound_by z out Standing.Writing = 0
call_bound_by z out Standing.Calling = if out then 2 * z.nodes + 5 else z.nodes * z.nodes + 3 * z.nodes + 4
call_bound_by z out Standing.Asleep = 0

abbrev pub unlock_owed : Sizes → Phase → ℕ
unlock_owed z p = unlock_owed_by z (ends_idle p)

abbrev pub call_bound : Sizes → Phase → ℕ
call_bound z p = call_bound_by z (ends_idle p) (standing p)

abbrev pub measure : Sizes → Phase → ℕ
measure z p = unlock_owed z p + call_bound z p

pub squared : (n : ℕ) → 1 ≤ n → n ≤ n * n
squared zero h = zero-le
squared (suc n) h = omega arith

-- who sleeps is in no unlock
pub sleeper-stays-on : (z : Sizes) (p : Phase) → 0 < (role z p).sleeps → ends_idle p ≡ false
unfolding ends_idle place
sleeper-stays-on z =
    by-seen (λ (p : Phase). 0 < (role z p).sleeps → ends_idle p ≡ false) (λ h. absurd (omega arith))
    (λ h. refl) (λ h. refl) (λ k h. refl) (λ p e c h. absurd (omega (arith, c.1 z)))
