-- Every row of a thread that is in a call and moves alone comes nearer to the call's end, also where its swap fails;
-- and an unlock stays one until it is over.
use Rattle.lock.proofs.Library.{ℕ, suc, ◌+◌, ◌*◌, ◌-◌, ◌≤◌, ◌<◌, ◌≡◌, refl, sym, ap, ◌∙◌, ◌≢◌, Bool, true, false, List}
use Rattle.lock.proofs.Library.{Option, none, some, arith, eqb, set, eqb-true, eqb-false, eq-eqb}
use Rattle.lock.proofs.Choice.{clash, if-both, not-both}
use Rattle.lock.proofs.Path.{parent-lt, on-le, toward-on, toward-lt}
use Rattle.std.specs.Prelude.{if◌then◌else◌}
use Rattle.laws.proofs.Lock.{Word, opened, closed, is_closed, is_zero, is_sole, same, down, down_direct}
use Rattle.laws.proofs.Lock.{parent, toward, Group, is_writer, next_group, writer_queued, Then, Leaving, Upgrading, Inside}
use Rattle.laws.proofs.Lock.{InRange, Phase, Standing, standing, Sizes, Op, begin, read, ask, swap, stay, note, store}
use Rattle.laws.proofs.Lock.{lock, release, join, next, take_readers, wake, refuse, op, looked, climbed, arrived}
use Rattle.laws.proofs.Lock.{settled, ended, departed, write_found, unlock_got, upgrade_found, State, word_at, granted}
use Rattle.laws.proofs.Lock.{retried}
use Rattle.laws.proofs.{Role.Path, Role.Under, Role.Follows, Role.place, Role.Right, Facts.same-eq}
use Rattle.progress.proofs.Measure.{way_down, way_step, way-le, way-most, after_departure, rows_to_go, swaps}
use Rattle.progress.proofs.Measure.{fails-le, rows_to_end, ends_idle, ends_idle_then, departs-idle, call_bound}
use Rattle.progress.proofs.Measure.{squared}

-- ---- what each operation has to show, of a call with n rows to go that is an unlock or not

-- t goes on to p, with the words ws
pub record Nears (z : Sizes) (ws : List Word) (n : ℕ) (out : Bool) (p : Phase) : Type 0 where
  pub less : rows_to_end z ws p < n
  pub keeps : out ≡ true → ends_idle p ≡ true

-- a failed swap is one row more
abbrev pub Onward : Sizes → State → ℕ → Bool → Op → Type 0
Onward z s n out (begin p) = ⊥
Onward z s n out (read w k) = Nears z s.words n out (k (word_at s w))
Onward z s n out (ask k p) = Nears z s.words n out (granted p (k (word_at s 0)))
Onward z s n out (swap w old new p back) =
    Nears z (set s.words w new) n out p
    × (same (word_at s w) old ≡ false → Nears z s.words (suc n) out (retried z back (word_at s w)))
Onward z s n out stay = ⊥
Onward z s n out note = ⊥
Onward z s n out (store f p) = Nears z (set s.words 0 (f (writer_queued s.queue))) n out p
Onward z s n out (lock p) = Nears z s.words n out p
Onward z s n out (release p) = Nears z s.words n out p
Onward z s n out (join e p) = Nears z s.words n out p
Onward z s n out (next last k) = Nears z s.words n out (k (next_group last s.queue))
Onward z s n out (take_readers k) = Nears z s.words n out (k s.queue.readers)
Onward z s n out (wake g p) = Nears z s.words n out p
Onward z s n out (refuse n') = ⊥

-- ---- facts

-- a call that is no unlock keeps nothing
free_of : {A : Type 0} → false ≡ true → A
free_of e = not-both false e refl

-- a swap from what the word has does not fail
fresh : (v : Word) → ◌≡◌ {A = ℕ} (if same v v then 0 else 1) 0
fresh v = rw (eq-eqb v.direct v.direct refl, eq-eqb v.tree v.tree refl, eq-eqb v.closed v.closed refl)

back-less : (shut : Bool) (n : ℕ) → rows_to_go shut (Phase.Look n) < rows_to_go shut (Phase.QueueBack n)
unfolding rows_to_go
back-less true n = omega arith
back-less false n = omega arith

take_less : (shut : Bool) (n : ℕ) → rows_to_go shut (Phase.QueueRead n) < rows_to_go shut (Phase.QueueTake n)
unfolding rows_to_go
take_less true n = omega arith
take_less false n = omega arith

module _ (z : Sizes) (i : InRange z) (s : State) where
  abbrev F : ℕ
  F = z.fan

  abbrev root : Word
  root = word_at s 0

  -- a row of a call that is no unlock, and of one that is
  near : {ws : List Word} {n : ℕ} {p : Phase} → rows_to_end z ws p < n → Nears z ws n false p
  near h = record { less = h; keeps = free_of }

  leave : {ws : List Word} {n : ℕ} {p : Phase} → rows_to_end z ws p < n → ends_idle p ≡ true → Nears z ws n true p
  leave h e = record { less = h; keeps = λ x. e }

  sq : z.nodes ≤ z.nodes * z.nodes
  sq = squared z.nodes i.nodes_least

  -- on its way to n, and before it
  path-most : (c n : ℕ) → Path z c n → (n < z.nodes) × (c ≤ n) × (way_down n + 2 ≤ z.nodes * z.nodes + z.nodes)
  path-most c n r = (r.route, on-le F n c r.on, way-most n z.nodes r.route)

  route-most : (n a b : ℕ) → n < z.nodes → a ≤ 8 → b ≤ 8
      → (if is_closed root then a else way_down n + n + b) + 0 ≤ z.nodes * z.nodes + 3 * z.nodes + 4
  route-most n a b r h k =
      if-both (λ (m : ℕ). m + 0 ≤ z.nodes * z.nodes + 3 * z.nodes + 4) (is_closed root) (λ q. omega (arith, sq))
      (λ q. omega (arith, way-most n z.nodes r))

  -- ---- a read, also by a failed swap

  looked-on : (n m : ℕ) → (is_closed root ≡ true → 4 < m) → (is_closed root ≡ false → n ≡ 0 → 4 < m)
      → (is_closed root ≡ false → n ≢ 0 → way_down n + n + 2 < m) → Nears z s.words m false (looked n root)
  unfolding rows_to_go op
  looked-on n m a b c =
      if-both P (is_closed root) (λ e. near (rw e (omega (arith, a e))))
      (λ e. if-both P (eqb n 0)
      (λ k. near (omega (arith, b e (eqb-true n 0 k), fresh root)))
      (λ k. near (omega (arith, c e (eqb-false n 0 k)))))
    where
      P : Phase → Type 0
      P = Nears z s.words m false

  -- the root found at (0, closed) on the way up
  shut-root : (c : ℕ) → eqb c 0 ≡ true → same (word_at s c) (closed 0 0) ≡ true → is_closed root ≡ true
  shut-root c i k =
      ap is_closed (ap (λ (x : ℕ). word_at s x) (sym (eqb-true c 0 i)) ∙ same-eq (word_at s c) (closed 0 0) k)

  climbed-on : (c n m : ℕ) → Path z c n → way_down n + c + 1 < m
      → Nears z s.words m false (climbed F c n (word_at s c))
  unfolding rows_to_go op
  climbed-on c n m h l =
      if-both P (eqb c 0)
      (λ i. if-both P (same (word_at s c) (closed 0 0))
      (λ k. near (rw (shut-root c i k) (omega (arith, way_step 0 n h.below))))
      (λ k. anew))
      (λ i. let pos : c ≢ 0 = eqb-false c 0 i in
      if-both P (same (word_at s c) (opened 0 0))
      (λ k. near (omega (arith, parent-lt F c (omega arith)))) (λ k. anew))
    where
      P : Phase → Type 0
      P = Nears z s.words m false

      anew : P (Phase.ClimbSwap c n (word_at s c))
      anew = near (omega (arith, fresh (word_at s c)))

  write-found-on : (m : ℕ) → 3 < m → Nears z s.words m false (write_found root)
  unfolding rows_to_go op
  write-found-on m l =
      if-both (Nears z s.words m false) (is_closed root) (λ e. near (omega arith))
      (λ e. near (omega (arith, fresh root)))

  upgrade-on : (m : ℕ) → 1 < m → Nears z s.words m false (granted (Phase.Reading 0) (upgrade_found root))
  unfolding rows_to_go op
  upgrade-on m l =
      if-both (λ (o : Option Phase). Nears z s.words m false (granted (Phase.Reading 0) o)) (is_sole root)
      (λ e. near (omega (arith, fresh root)))
      (λ e. near (omega arith))

  -- ---- the way down

  -- from c one node down
  down-less : (ws : List Word) (c n : ℕ) → Path z c n → c ≢ n
      → rows_to_end z ws (Phase.Descend (toward F n c) n) ≤ way_down n - way_down c
  unfolding rows_to_go op
  down-less ws c n u e =
      let h : c < n = omega (arith, on-le F n c u.on) in
      let d = toward F n c in
      omega (
        arith,
        way_step c d (toward-lt F n c h),
        way-le d n (on-le F n d (toward-on F n c h)),
        fails-le ws (op F (Phase.Descend d n)),
      )

  -- arrived at c
  arrived-on : (ws : List Word) (c n m : ℕ) → Path z c n → way_down n - way_down c < m
      → Nears z ws m false (arrived F c n)
  unfolding rows_to_go op
  arrived-on ws c n m u h =
      if-both (Nears z ws m false) (eqb c n) (λ i. near (omega arith))
      (λ i. near (omega (arith, down-less ws c n u (eqb-false c n i))))

  settled_on : (ws : List Word) (c n : ℕ) (v : Word) → Under z c n
      → Nears z ws (way_down n - way_down c + 2 * c + 1) false (settled F c n v)
  unfolding rows_to_go op
  settled_on ws c n v u =
      if-both (Nears z ws (way_down n - way_down c + 2 * c + 1) false) (is_zero v)
      (λ e. arrived-on ws c n _ u.0 (omega arith))
      (λ e. near (omega (arith, parent-lt F c u.1)))

  -- the departure is over
  ended-on : (ws : List Word) (k : Then) (last : Bool) (m : ℕ) → after_departure k < m → Follows z k
      → Nears z ws m (ends_idle_then k) (ended F k last)
  unfolding rows_to_go op ends_idle
  ended-on ws Leaving last m h f =
      if-both (Nears z ws m true) last (λ e. leave (omega arith) refl)
      (λ e. leave (omega arith) refl)
  ended-on ws Upgrading last m h f = near (omega arith)
  ended-on ws (Inside n c) last m h f = arrived-on ws c n m f.0 h

  departed-on : (ws : List Word) (d : ℕ) (k : Then) (v : Word) → Follows z k
      → Nears z ws (after_departure k + 2 * d + 1) (ends_idle_then k) (departed F d k v)
  unfolding rows_to_go op ends_idle
  departed-on ws d k v f =
      if-both P (eqb d 0) (λ e. ended-on ws k (same v (closed 0 0)) _ (omega arith) f)
      (λ e. let pos : d ≢ 0 = eqb-false d 0 e in
      if-both P (is_zero v)
      (λ q. record {
        less = omega (arith, parent-lt F d (omega arith));
        keeps = λ x. (departs-idle (parent F d) v k).0 ∙ x;
      })
      (λ q. ended-on ws k false _ (omega arith) f))
    where
      P : Phase → Type 0
      P = Nears z ws (after_departure k + 2 * d + 1) (ends_idle_then k)

  got-on : (g : Option Group) → Nears z s.words 4 true (unlock_got g)
  unfolding rows_to_go op ends_idle
  got-on none = leave (omega arith) refl
  got-on (some g) =
      if-both (Nears z s.words 4 true) (is_writer g) (λ e. leave (omega arith) refl)
      (λ e. leave (omega arith) refl)

  -- ---- the rows

  -- each within the bound of its call
  pub onward : (p : Phase) → standing p ≡ Standing.Calling → Right z p
      → (rows_to_go (is_closed root) p + swaps (op F p) ≤ call_bound z p)
      × Onward z s (rows_to_go (is_closed root) p) (ends_idle p) (op F p)
  unfolding op rows_to_go ends_idle place standing
  onward Phase.Idle e r = clash cc
  onward Phase.Writing e r = clash cc
  onward Phase.Asleep e r = clash cc
  onward (Phase.Reading k) e r = clash cc
  onward (Phase.Look n) _ r = (
    route-most n 5 5 r (omega arith) (omega arith),
    looked-on n _ (λ e. rw e (omega arith)) (λ e k. rw e (omega arith)) (λ e k. rw e (omega arith)),
  )
  onward (Phase.Enter v) _ r = (
    omega (arith, sq),
    (near (omega arith), λ e. looked-on 0 5 (λ q. omega arith) (λ q k. omega arith) (λ q k. absurd (k refl))),
  )
  onward (Phase.Climb c n) _ r = (omega (arith, path-most c n r), climbed-on c n _ r (omega arith))
  onward (Phase.ClimbSwap c n v) _ r = (
    omega (arith, path-most c n r.0),
    (arrived-on _ c n _ r.0 (omega arith), λ e. climbed-on c n _ r.0 (omega arith)),
  )
  onward (Phase.Descend c n) _ r = (
    omega (arith, path-most c n r.0),
    (arrived-on _ c n _ r.0 (omega arith), λ e. near (omega (arith, fresh (word_at s c)))),
  )
  onward (Phase.Again c n) _ r = (omega (arith, path-most c n r.0), near (omega (arith, fresh (word_at s c))))
  onward (Phase.AgainSwap c n v) _ r =
      (omega (arith, path-most c n r.0), (settled_on _ c n v r, λ e. near (omega (arith, fresh (word_at s c)))))
  onward (Phase.Depart d Leaving) _ r = (omega (arith, r.0, sq), leave (omega (arith, fresh (word_at s d))) refl)
  onward (Phase.Depart d Upgrading) _ r = (omega (arith, r.0, sq), near (omega (arith, fresh (word_at s d))))
  onward (Phase.Depart d (Inside n c)) _ r =
      (omega (arith, r.0, path-most c n r.1.0), near (omega (arith, fresh (word_at s d))))
  onward (Phase.DepartSwap d Leaving v) _ r = (
    omega (arith, r.0, sq),
    (departed-on _ d Leaving (down v) r.1, λ e. leave (omega (arith, fresh (word_at s d))) refl),
  )
  onward (Phase.DepartSwap d Upgrading v) _ r = (
    omega (arith, r.0, sq),
    (departed-on _ d Upgrading (down v) r.1, λ e. near (omega (arith, fresh (word_at s d)))),
  )
  onward (Phase.DepartSwap d (Inside n c) v) _ r = (
    omega (arith, r.0, path-most c n r.1.0),
    (departed-on _ d (Inside n c) (down v) r.1, λ e. near (omega (arith, fresh (word_at s d)))),
  )
  onward Phase.Leave _ r = (omega (arith, sq), leave (omega (arith, fresh root)) refl)
  onward (Phase.LeaveSwap v) _ r = (
    omega (arith, sq),
    (
      ended-on _ Leaving (same (down_direct v) (closed 0 0)) 6 (omega arith) tt,
      λ e. leave (omega (arith, fresh root)) refl,
    ),
  )
  onward (Phase.QueueTake n) _ r =
      (route-most n 4 8 r (omega arith) (omega arith), near (omega (arith, take_less (is_closed root) n)))
  onward (Phase.QueueRead n) _ r = (
    route-most n 3 7 r (omega arith) (omega arith),
    if-both (Nears z s.words (rows_to_go (is_closed root) (Phase.QueueRead n)) false) (is_closed root)
        (λ e. near (rw e (omega arith))) (λ e. near (rw e (omega arith))),
  )
  onward (Phase.QueueBack n) _ r =
      (route-most n 6 6 r (omega arith) (omega arith), near (omega (arith, back-less (is_closed root) n)))
  onward Phase.QueueJoin _ r = (omega (arith, sq), near (omega arith))
  onward Phase.Sleep _ r = (omega (arith, sq), near (omega arith))
  onward Phase.WriteLook _ r = (
    omega (arith, sq),
    if-both (Nears z s.words 6 false) (same root (opened 0 0))
        (λ e. near (rw e (omega arith))) (λ e. near (omega arith)),
  )
  onward Phase.WriteEnter _ r = (
    omega (arith, sq),
    (
      near (omega arith),
      λ e. if-both (Nears z s.words 6 false) (same root (opened 0 0))
          (λ k. not-both (same root (opened 0 0)) k e) (λ k. near (omega arith)),
    ),
  )
  onward Phase.WriteTake _ r = (omega (arith, sq), near (omega arith))
  onward Phase.WriteRead _ r = (omega (arith, sq), write-found-on 4 (omega arith))
  onward (Phase.WriteClose v) _ r = (
    omega (arith, sq),
    (
      if-both (Nears z _ 3 false) (is_zero v) (λ e. near (omega arith)) (λ e. near (omega arith)),
      λ e. write-found-on 4 (omega arith),
    ),
  )
  onward Phase.WriteHold _ r = (omega (arith, sq), near (omega arith))
  onward Phase.WriteJoin _ r = (omega (arith, sq), near (omega arith))
  onward Phase.UnlockTake _ r = (omega (arith, sq), leave (omega arith) refl)
  onward Phase.UnlockNext _ r = (omega (arith, sq), got-on (next_group false s.queue))
  onward Phase.UnlockOpen _ r = (omega (arith, sq), leave (omega arith) refl)
  onward Phase.UnlockEnd _ r = (omega (arith, sq), leave (omega arith) refl)
  onward (Phase.UnlockStore b) _ r = (omega (arith, sq), leave (omega arith) refl)
  onward Phase.LastTake _ r = (omega (arith, sq), leave (omega arith) refl)
  onward Phase.LastNext _ r = (omega (arith, sq), got-on (next_group true s.queue))
  onward (Phase.HandRelease g) _ r = (omega (arith, sq), leave (omega arith) refl)
  onward (Phase.HandWake g) _ r = (omega (arith, sq), leave (omega arith) refl)
  onward (Phase.UpgradeTrade n) _ r = (omega (arith, r, sq), near (omega (arith, fresh root)))
  onward (Phase.UpgradeEnter n v) _ r =
      (omega (arith, r, sq), (near (omega arith), λ e. near (omega (arith, fresh root))))
  onward Phase.UpgradeLook _ r = (omega (arith, sq), upgrade-on 2 (omega arith))
  onward (Phase.UpgradeSwap v) _ r = (omega (arith, sq), (near (omega arith), λ e. upgrade-on 2 (omega arith)))
  onward Phase.DowngradeTake _ r = (omega (arith, sq), near (omega arith))
  onward Phase.DowngradeNext _ r = (omega (arith, sq), near (omega arith))
  onward (Phase.DowngradeStore b) _ r = (omega (arith, sq), near (omega arith))
  onward (Phase.DowngradeRelease b) _ r = (
    omega (arith, sq),
    if-both (Nears z s.words 2 false) (eqb b 0) (λ e. near (omega arith)) (λ e. near (omega arith)),
  )
  onward (Phase.DowngradeWake b) _ r = (omega (arith, sq), near (omega arith))
