-- How far each phase is in a read-lock: before or past its last look, or past its success. What each row makes of that,
-- and of the root.
use Rattle.laws.proofs.Lock.{ℕ, zero, suc, ◌+◌, ◌<◌, ◌≡◌, refl, sym, subst, ap, ◌∙◌, ◌⊎◌, inl, inr, ◌≢◌, Bool}
use Rattle.laws.proofs.Lock.{true, false, List, Option, none, some, not-suc-le-zero, arith, ℕ_discrete, dec_lt}
use Rattle.laws.proofs.Lock.{eqb, length, get_or, set, length-set, take, List·getD-eq-default, get_or-set_same}
use Rattle.laws.proofs.Lock.{get_or-set_other, eqb-true, eqb-false, ◌≤◌, Looks, looks, again, state_at, row_at}
use Rattle.std.specs.Prelude.{if◌then◌else◌}
use Rattle.laws.proofs.Lock.{entry_at, clash, if-both, row-leads, dec-both, Word, opened, closed}
use Rattle.laws.proofs.Lock.{is_closed, is_zero, total, same, up, down, down_direct, toward, Group, is_writer}
use Rattle.laws.proofs.Lock.{Waiters, Entry, call_begun, swap_done, swap_failed, plain_store, sleepers_woken, Then}
use Rattle.laws.proofs.Lock.{Leaving, Upgrading, Inside, Phase, Thread, Sizes, Op, op, looked, climbed, arrived}
use Rattle.laws.proofs.Lock.{settled, ended, departed, unlock_got, upgrade_found, Order, State, fresh, fresh_thread}
use Rattle.laws.proofs.Lock.{word_at, thread_at, holding, woken, Outcome, taken, refused, granted, Row, step, run}
use Rattle.laws.proofs.Lock.{InRange, with_word, with_threads, readers, next_group}
use Rattle.laws.proofs.Sum.{bit_at}
use Rattle.laws.proofs.Role.{Path, Follows, place, role, Right, tot-mem, role_at, Inv, moves}
use Rattle.laws.proofs.Facts.{same-ne, path-in}
use Rattle.laws.proofs.Calls.{counted-root}
use Rattle.laws.proofs.Seen.{by-seen, Stage, apart, looking, climbing, after, reached, stage_then, stage}
use Rattle.laws.proofs.Orders.{Starts, row_makes}
use Rattle.laws.proofs.Runs.{held}
use Rattle.laws.proofs.Made.{Becomes}
use Rattle.laws.proofs.Wake.{woken-each}
use Rattle.laws.proofs.Next.{looked-each, climbed-each, departed-each, upgraded-each}

-- ---- stages

abbrev pub stage_at : State → ℕ → Stage
stage_at s u = stage (thread_at s u).phase

pub reading-stage : (n : ℕ) → 0 < n → stage (Phase.Reading n) ≡ after n
unfolding stage
reading-stage zero h = absurd (not-suc-le-zero h)
reading-stage (suc n) h = refl

pub woken-stage : stage (Phase.Reading 0) ≡ apart
unfolding stage
woken-stage = refl

pub idle-stage : stage Phase.Idle ≡ apart
unfolding stage
idle-stage = refl

-- who sleeps is at none
reading-awake : (z : Sizes) (k : ℕ) → 0 < (role z (Phase.Reading k)).sleeps → stage (Phase.Reading k) ≡ apart
unfolding place stage
reading-awake z zero h = refl
reading-awake z (suc k) h = absurd (not-suc-le-zero h)

dozes : (z : Sizes) (p : Phase) → 0 < (role z p).sleeps → stage p ≡ apart
unfolding place stage
dozes z =
    by-seen (λ (p : Phase). 0 < (role z p).sleeps → stage p ≡ apart) (λ h. refl) (λ h. refl) (λ h. refl)
    (reading-awake z) (λ p e c h. absurd (omega (arith, c.1 z)))

-- ---- what a row makes of its thread's stage

-- its own node's count stays, and it makes no look
pub data Moves : Stage → Stage → Type 0 where
  stays : (x : Stage) → Moves x x
  drops : (n : ℕ) → Moves (looking n) apart
  fails : (n : ℕ) → Moves (climbing n) (looking n)

-- or it looks, in the phase p with the entry e, and the root v is open
data Goes (p : Phase) (e : Entry) (v : Word) : Stage → Stage → Type 0 where
  calm : {x y : Stage} → Moves x y → Goes p e v x y
  enter : (n : ℕ) → Looks p e → is_closed v ≡ false → Goes p e v (looking n) (climbing n)

-- a word w that is not the read-lock's node; out of the tree there is none
abbrev pub Other : Stage → ℕ → Type 0
Other apart w = ⊥
Other (looking n) w = ⊥
Other (climbing n) w = w ≢ n
Other (after n) w = ⊥

abbrev pub Raises : List Word → List Word → ℕ → Type 0
Raises ws ws' w = (get_or ws w (opened 0 0)).tree < (get_or ws' w (opened 0 0)).tree

-- a row in the phase p with the entry e, of which the words become ws'
pub data Onward (p : Phase) (e : Entry) (ws ws' : List Word) : Stage → Stage → Type 0 where
  passes : {x y : Stage} → ((w : ℕ) → 0 < w → Raises ws ws' w → Other x w) → Moves x y → Onward p e ws ws' x y
  enters : (n : ℕ) → Looks p e → is_closed (get_or ws' 0 (opened 0 0)) ≡ false
      → ((w : ℕ) → 0 < w → Raises ws ws' w → ⊥) → Onward p e ws ws' (looking n) (climbing n)
  succeeds : (n : ℕ) → 0 < n → Raises ws ws' n → Onward p e ws ws' (climbing n) (after n)

-- past the last look no row is a look
pub no-look : (p : Phase) (e : Entry) (n : ℕ) → Looks p e → stage p ≢ climbing n
unfolding stage
no-look p e n (looks m) q = clash cc
no-look p e n (again v) q = clash cc

-- closed, with a count above 0
abbrev pub Shut : Word → Type 0
Shut v = (is_closed v ≡ true) × (0 < total v)

-- a call begins, by its order
pub data Begins (o : ℕ) : Stage → Type 0 where
  reads : (n : ℕ) → o ≡ 64 + n → Begins o (looking n)
  others : o < 64 → Begins o apart

-- ---- what a row of a call has to show

data Done (w : ℕ) (old new : Word) : Stage → Stage → Type 0 where
  passing : {x y : Stage} → (0 < w → old.tree < new.tree → Other x w) → Moves x y → Done w old new x y
  success : 0 < w → w < 32 → old.tree < new.tree → Done w old new (climbing w) (after w)

-- what a row with the entry e makes of the words, which become ws: how the root comes to be closed with a count above
-- 0; a row that raises a node's count leaves the root
pub record Written (s : State) (e : Entry) (ws : List Word) : Type 0 where
  pub shuts : Shut (get_or ws 0 (opened 0 0)) → Shut (word_at s 0) ⊎ ((is_closed (word_at s 0) ≡ false) ⊎ (e.kind ≡ 5))
  pub raised : (w : ℕ) → 0 < w → Raises s.words ws w → (get_or ws 0 (opened 0 0) ≡ word_at s 0) × (e.kind ≢ 5)

-- its thread goes on from p to p', in the state s₁; the others stay where they are: who is woken slept
record Traces (s : State) (p : Phase) (e : Entry) (s₁ : State) (p' : Phase) : Type 0 where
  own : Onward p e s.words s₁.words (stage p) (stage p')
  others : (u : ℕ) → stage_at s₁ u ≡ stage_at s u
  written : Written s e s₁.words

abbrev Traced : Sizes → State → ℕ → Phase → Op → Type 0
Traced z s t p = Becomes z s t (Traces s p)

unwritten : (s : State) (e : Entry) → Written s e s.words
unwritten s e = record { shuts = λ h. inl h; raised = λ w a h. absurd (omega arith) }

-- the words stay
words-stay : {p : Phase} {e : Entry} {x y : Stage} (ws : List Word)
    → Goes p e (get_or ws 0 (opened 0 0)) x y → Onward p e ws ws x y
words-stay ws (calm g) = passes (λ w a h. absurd (omega arith)) g
words-stay ws (enter n k o) = enters n k o (λ w a h. omega arith)

quiet : {s : State} {p : Phase} {e : Entry} {m : Option ℕ} {q : Waiters} {p' : Phase}
    → Goes p e (word_at s 0) (stage p) (stage p')
    → Traces s p e (record { words = s.words; mutex = m; queue = q; threads = s.threads }) p'
quiet {s} {e = e} g = record { own = words-stay s.words g; others = λ u. refl; written = unwritten s e }

-- and its thread makes no look
on : {s : State} {p : Phase} {e : Entry} {m : Option ℕ} {q : Waiters} {p' : Phase} → Moves (stage p) (stage p')
    → Traces s p e (record { words = s.words; mutex = m; queue = q; threads = s.threads }) p'
on g = quiet (calm g)

-- ---- the word w is written, and no other

module _ (s : State) (inv : length s.words ≡ 32) (p : Phase) where
  written : (w : ℕ) (new : Word) (u : ℕ)
      → Raises s.words (set s.words w new) u → (u ≡ w) × ((word_at s w).tree < new.tree)
  written w new u h =
      dec-both (ℕ_discrete u w)
      (λ e. (
        e,
        dec-both (dec_lt w (length s.words)) (λ a. rw (e, get_or-set_same s.words w new (opened 0 0) a) at h)
            (λ a. let q = List·getD-eq-default (set s.words w new) (opened 0 0) {n = u}
            (omega (arith, length-set s.words w new)) in
            absurd (omega (arith, ap (λ (v : Word). v.tree) q))),
      ))
      (λ n. absurd (omega (arith, ap (λ (v : Word). v.tree) (get_or-set_other s.words w u new (opened 0 0) n))))

  goes-done : (w : ℕ) (old new : Word) (e : Entry) {x y : Stage}
      → word_at s w ≡ old → Done w old new x y → Onward p e s.words (set s.words w new) x y
  goes-done w old new e {x} q (passing f g) =
      passes (λ u pos h. let (i, k) = written w new u h in
      subst (Other x) (sym i) (f (omega arith) (subst (λ (v : Word). v.tree < new.tree) q k))) g
  goes-done w old new e q (success pos low h) =
      succeeds w pos (rw (get_or-set_same s.words w new (opened 0 0) (omega arith), q) h)

  swapped : (w : ℕ) (old new : Word) → word_at s w ≡ old
      → (w ≡ 0 → word_at s w ≡ old → Shut new → Shut old ⊎ (is_closed old ≡ false))
      → Written s (swap_done w) (set s.words w new)
  swapped w old new q k = from (ℕ_discrete w 0)
    where
      from : Dec (w ≡ 0) → Written s (swap_done w) (set s.words w new)
      from (yes i) =
          record {
            shuts = λ h. at-root (k i q (subst Shut here h));
            raised = λ u a h. absurd (omega (arith, (written w new u h).0));
          }
        where
          here : get_or (set s.words w new) 0 (opened 0 0) ≡ new
          here = rw i (get_or-set_same s.words 0 new (opened 0 0) (omega arith))

          at-root : Shut old ⊎ (is_closed old ≡ false)
              → Shut (word_at s 0) ⊎ ((is_closed (word_at s 0) ≡ false) ⊎ ((swap_done w).kind ≡ 5))
          at-root (inl a) = inl (subst Shut (sym (rw i at q)) a)
          at-root (inr a) = inr (inl (subst (λ (v : Word). is_closed v ≡ false) (sym (rw i at q)) a))
      from (no i) = record { shuts = λ h. inl (subst Shut still h); raised = λ u a h. (still, λ j. omega arith) }
        where
          still : get_or (set s.words w new) 0 (opened 0 0) ≡ word_at s 0
          still = get_or-set_other s.words w 0 new (opened 0 0) (λ j. i (sym j))

-- ---- what follows a row

looked-goes : (p : Phase) (e : Entry) (n : ℕ) (v : Word) → Looks p e → Goes p e v (looking n) (stage (looked n v))
unfolding stage
looked-goes p e n v h =
    looked-each (λ (p' : Phase). Goes p e v (looking n) (stage p')) n v (λ q. calm (stays _))
    (λ q k. rw k (calm (stays _))) (λ q k. enter n h q)

climbed-goes : (F c n : ℕ) (u : Word) → Moves (climbing n) (stage (climbed F c n u))
unfolding stage
climbed-goes F c n u =
    climbed-each (λ (p' : Phase). Moves (climbing n) (stage p')) F c n u (λ k. fails n) (λ k q. stays _) (λ k. stays _)
    (λ k q. stays _)

arrived-stage : (F c n : ℕ) → 0 < n → stage (arrived F c n) ≡ reached c n
unfolding stage
arrived-stage F c n pos = from (eqb c n)
  where
    from : (b : Bool) → stage (if b then Phase.Reading n else Phase.Descend (toward F n c) n)
        ≡ (if b then after n else climbing n)
    from true = reading-stage n pos
    from false = refl

settled-stage : (F c n : ℕ) (v : Word) → 0 < n → stage (settled F c n v) ≡ reached c n
unfolding stage
settled-stage F c n v pos =
    if-both (λ (p : Phase). stage p ≡ reached c n) (is_zero v) (λ q. arrived-stage F c n pos) (λ q. refl)

-- a departure, inside an arrival or not
abbrev Routed : Then → Type 0
Routed Leaving = Unit {0}
Routed Upgrading = Unit {0}
Routed (Inside n c) = 0 < n

ended-stage : (F : ℕ) (k : Then) (last : Bool) → Routed k → stage (ended F k last) ≡ stage_then k
unfolding stage
ended-stage F Leaving last r = if-both (λ (p : Phase). stage p ≡ apart) last (λ q. refl) (λ q. refl)
ended-stage F Upgrading last r = refl
ended-stage F (Inside n c) last r = arrived-stage F c n r

departed-stage : (F d : ℕ) (k : Then) (u : Word) → Routed k → stage (departed F d k u) ≡ stage_then k
unfolding stage
departed-stage F d k u r =
    departed-each (λ (p : Phase). stage p ≡ stage_then k) F d k u (λ q. ended-stage F k _ r) (λ q i. refl)
    (λ q i. ended-stage F k false r)

routed : (z : Sizes) (k : Then) → Follows z k → Routed k
routed z Leaving r = tt
routed z Upgrading r = tt
routed z (Inside n c) r = r.0.below

-- where each of two phases is at the same stage
either : (x : Stage) (b : Bool) (p₁ p₂ : Phase) → stage p₁ ≡ x → stage p₂ ≡ x → Moves x (stage (if b then p₁ else p₂))
either x true p₁ p₂ h k = rw h (stays _)
either x false p₁ p₂ h k = rw k (stays _)

same-stage : {x y : Stage} → y ≡ x → Moves x y
same-stage {x} e = rw e (stays x)

unlock_got-stage : (g : Option Group) → stage (unlock_got g) ≡ apart
unfolding stage
unlock_got-stage none = refl
unlock_got-stage (some g) = if-both (λ (p : Phase). stage p ≡ apart) (is_writer g) (λ q. refl) (λ q. refl)

upgrade-stage : (v : Word) → stage (granted (Phase.Reading 0) (upgrade_found v)) ≡ apart
unfolding stage
upgrade-stage v = upgraded-each (λ (p : Phase). stage p ≡ apart) v (λ q. refl) refl

-- a swap that counts up at c, on the way to n
ups : (c n : ℕ) (old new : Word) → 0 < n → c < 32 → old.tree < new.tree → Done c old new (climbing n) (reached c n)
ups c n old new pos l h =
    if-both (λ (y : Stage). Done c old new (climbing n) y) (eqb c n)
    (λ q. let e = eqb-true c n q in
    subst (λ (m : ℕ). Done c old new (climbing m) (after m)) e (success (omega arith) l h))
    (λ q. passing (λ a b. eqb-false c n q) (stays _))

-- a swap that counts no node up
downs : (w : ℕ) (old new : Word) (x y : Stage) → (0 < w → old.tree < new.tree → ⊥) → Moves x y → Done w old new x y
downs w old new x y f g = passing (λ a b. absurd (f a b)) g

up-shuts : (v : Word) → same v (closed 0 0) ≡ false → Shut (up v) → Shut v ⊎ (is_closed v ≡ false)
up-shuts v e (c, h) =
    dec-both (dec_lt 0 (total v)) (λ a. inl (c, a))
    (λ a. absurd (same-ne v (closed 0 0) e (omega arith) (eqb-true _ _ c) (omega arith)))

-- ---- every row of a call

module _ (z : Sizes) (s : State) (t : ℕ) (inv : Inv z s) (l : t < 64) where
  -- the threads in a hand sleep
  dozing : (b : ℕ) → (role_at z s t).hand ≡ b → (u : ℕ) → 0 < bit_at b u → stage_at s u ≡ apart
  dozing b e u h =
      dozes z _ (omega (
        arith,
        inv.handed u,
        tot-mem z (λ r. bit_at r.hand u) s.threads t (omega (arith, inv.threads)),
        ap (λ (x : ℕ). bit_at x u) e,
      ))

  low : (c n : ℕ) → Path z c n → c < 32
  low c n h = omega (arith, path-in z c n h, inv.sizes.nodes)

  -- at the root, which is no node
  at-root : (old new : Word) (x y : Stage) → Moves x y → Done 0 old new x y
  at-root old new x y g = downs 0 old new x y (λ h. absurd (not-suc-le-zero h)) g

  swaps : {p : Phase} {w : ℕ} {old new : Word} {p₁ p₂ : Phase}
      → (w ≡ 0 → word_at s w ≡ old → Shut new → Shut old ⊎ (is_closed old ≡ false)) → Done w old new (stage p) (stage p₁)
      → Goes p (swap_failed w) (word_at s 0) (stage p) (stage p₂)
      → (word_at s w ≡ old → Traces s p (swap_done w) (with_word s w new) p₁)
      × (same (word_at s w) old ≡ false → Traces s p (swap_failed w) s p₂)
  swaps {p} {w} {old} {new} a b c = (
    λ q. record {
      own = goes-done s inv.words p w old new (swap_done w) q b;
      others = λ u. refl;
      written = swapped s inv.words p w old new q a;
    },
    λ q. quiet c,
  )

  stores : {p p' : Phase} (v : Word) → Moves (stage p) (stage p') → Traces s p (plain_store 0) (with_word s 0 v) p'
  stores {p} v g = record {
    own = goes-done s inv.words p 0 _ v (plain_store 0) refl (at-root _ _ _ _ g);
    others = λ u. refl;
    written = record {
      shuts = λ h. inr (inr refl);
      raised = λ w a h. absurd (omega (arith, (written s inv.words p 0 v w h).0));
    };
  }

  -- the group in hand sleeps, so it is at no stage
  wakes : {p p' : Phase} (g : Group) → (role_at z s t).hand ≡ g.members → Moves (stage p) (stage p')
      → Traces s p sleepers_woken (with_threads s (woken (holding g) g.members s.threads)) p'
  unfolding stage
  wakes {p} g e k = record {
    own = words-stay {p = p} s.words (calm k);
    others = λ u. woken-each (λ (x : Thread). stage x.phase ≡ stage_at s u) (holding g) g.members s.threads u
        (λ a. if-both (λ (p : Phase). stage p ≡ apart) (is_writer g) (λ q. refl) (λ q. refl) ∙ sym (dozing _ e u a))
        (λ n. refl);
    written = unwritten s sleepers_woken;
  }

  traced : (p : Phase) → (thread_at s t).phase ≡ p → Right z p → Traced z s t p (op z.fan p)
  unfolding op place stage
  traced Phase.Idle e r = tt
  traced Phase.Writing e r = tt
  traced Phase.Asleep e r = tt
  traced (Phase.Reading k) e r = tt
  traced (Phase.Look n) e r = quiet (looked-goes _ _ n (word_at s 0) (looks n))
  traced (Phase.Enter v) e r =
      swaps (λ q i h. inr r) (at-root _ _ _ _ (drops 0)) (looked-goes _ _ 0 (word_at s 0) (again v))
  traced (Phase.Climb c n) e r = on (climbed-goes z.fan c n (word_at s c))
  traced (Phase.ClimbSwap c n v) e r =
      swaps (λ q i. up-shuts v (r.1 q))
      (rw (arrived-stage z.fan c n r.0.below) (ups c n _ _ r.0.below (low c n r.0) (omega arith)))
      (calm (climbed-goes z.fan c n (word_at s c)))
  traced (Phase.Descend c n) e r =
      swaps (λ q i h. absurd (omega (arith, r.1)))
      (rw (arrived-stage z.fan c n r.0.below) (ups c n _ _ r.0.below (low c n r.0) (omega arith)))
      (calm (stays _))
  traced (Phase.Again c n) e r = on (stays _)
  traced (Phase.AgainSwap c n v) e r =
      swaps (λ q i h. absurd (omega (arith, r.1)))
      (rw (settled-stage z.fan c n v r.0.below) (ups c n _ _ r.0.below (low c n r.0) (omega arith)))
      (calm (stays _))
  traced (Phase.Depart d k) e r = on (stays _)
  traced (Phase.DepartSwap d k v) e r =
      swaps (λ q i h. inl (h.0, omega (arith, r.2)))
      (downs d _ _ _ _ (λ a b. omega arith)
      (same-stage (departed-stage z.fan d k (down v) (routed z k r.1))))
      (calm (stays _))
  traced Phase.Leave e r = on (stays _)
  traced (Phase.LeaveSwap v) e r =
      swaps (λ q i h. inl (h.0, omega (arith, r)))
      (at-root _ _ _ _ (same-stage (ended-stage z.fan Leaving (same (down_direct v) (closed 0 0)) tt)))
      (calm (stays _))
  traced (Phase.QueueTake n) e r = λ i. on (stays _)
  traced (Phase.QueueRead n) e r =
      on (if-both (λ (p : Phase). Moves (looking n) (stage p)) (is_closed (word_at s 0)) (λ q. drops n) (λ q. stays _))
  traced (Phase.QueueBack n) e r = on (stays _)
  traced Phase.QueueJoin e r = on (stays _)
  traced Phase.Sleep e r = on (stays _)
  traced Phase.WriteLook e r =
      on (either _ (same (word_at s 0) (opened 0 0)) Phase.WriteEnter Phase.WriteTake refl refl)
  traced Phase.WriteEnter e r =
      swaps (λ q i h. inr refl) (at-root _ _ _ _ (stays _))
      (calm (either _ (same (word_at s 0) (opened 0 0)) Phase.WriteEnter Phase.WriteTake refl refl))
  traced Phase.WriteTake e r = λ i. on (stays _)
  traced Phase.WriteRead e r =
      on (either _ (is_closed (word_at s 0)) Phase.WriteJoin (Phase.WriteClose (word_at s 0)) refl refl)
  traced (Phase.WriteClose v) e r =
      swaps (λ q i h. inr r) (at-root _ _ _ _ (either _ (is_zero v) Phase.WriteHold Phase.WriteJoin refl refl))
      (calm (either _ (is_closed (word_at s 0)) Phase.WriteJoin (Phase.WriteClose (word_at s 0)) refl refl))
  traced Phase.WriteHold e r = on (stays _)
  traced Phase.WriteJoin e r = on (stays _)
  traced Phase.UnlockTake e r = λ i. on (stays _)
  traced Phase.UnlockNext e r = on (same-stage (unlock_got-stage (next_group false s.queue)))
  traced Phase.UnlockOpen e r = stores _ (stays _)
  traced Phase.UnlockEnd e r = on (stays _)
  traced (Phase.UnlockStore b) e r = stores _ (stays _)
  traced Phase.LastTake e r = λ i. on (stays _)
  traced Phase.LastNext e r = on (same-stage (unlock_got-stage (next_group true s.queue)))
  traced (Phase.HandRelease g) e r = on (stays _)
  traced (Phase.HandWake g) e r = wakes g (ap (λ (p : Phase). (role z p).hand) e) (stays _)
  -- who upgrades with a node's ticket is counted there, and so at the root
  traced (Phase.UpgradeTrade n) e r = on (stays _)
  traced (Phase.UpgradeEnter n v) e r =
      swaps
      (λ q i h. inl (h.0, omega (arith, counted-root z s t inv l n (ap (role z) e), ap (λ (x : Word). x.tree) i)))
      (at-root _ _ _ _ (stays _)) (calm (stays _))
  traced Phase.UpgradeLook e r = on (same-stage (upgrade-stage (word_at s 0)))
  traced (Phase.UpgradeSwap v) e r =
      swaps (λ q i h. absurd (omega (arith, h.1))) (at-root _ _ _ _ (stays _))
      (calm (same-stage (upgrade-stage (word_at s 0))))
  traced Phase.DowngradeTake e r = λ i. on (stays _)
  traced Phase.DowngradeNext e r = on (stays _)
  traced (Phase.DowngradeStore b) e r = stores _ (stays _)
  traced (Phase.DowngradeRelease b) e r = on (either _ (eqb b 0) (Phase.Reading 0) (Phase.DowngradeWake b) refl refl)
  traced (Phase.DowngradeWake b) e r = wakes (readers b) (ap (λ (p : Phase). (role z p).hand) e) (stays _)

-- ---- one row

-- a row of order o in the phase p: a call begins, which leaves the words, or goes on
pub data Own (o : ℕ) (p : Phase) (e : Entry) (ws ws' : List Word) : Stage → Stage → Type 0 where
  starts : {x y : Stage} → e ≡ call_begun → Begins o y → ws' ≡ ws → Own o p e ws ws' x y
  goes_on : {x y : Stage} → e ≢ call_begun → Onward p e ws ws' x y → Own o p e ws ws' x y

-- Row r, with the entry e, leads from s to s': what it makes of its own thread, of another, and of the words.
pub record Told (s s' : State) (r : Row) (e : Entry) : Type 0 where
  pub own : Own r.order (thread_at s r.thread).phase e
      s.words s'.words (stage_at s r.thread) (stage_at s' r.thread)
  pub other : (u : ℕ) → u ≢ r.thread → stage_at s' u ≡ stage_at s u
  pub written : Written s e s'.words

abbrev pub Tells : State → Row → Outcome → Type 0
Tells s r (taken s' e) = Told s s' r e
Tells s r (refused n) = Unit {0}

-- an entry of another kind
no-begin : (e : Entry) → 0 < e.kind → e ≢ call_begun
no-begin e l q = omega (arith, ap (λ (y : Entry). y.kind) q)

module _ (s : State) (r : Row) where
  -- a row that moves nothing, as one that is held up and a booking
  idles : (e : Entry) → 0 < e.kind → Told s s r e
  idles e k = record {
    own = goes_on (no-begin e k) (words-stay s.words (calm (stays _)));
    other = λ u n. refl;
    written = unwritten s e;
  }

  moved : (e : Entry) (ws : List Word) (m : Option ℕ) (q : Waiters) (hs : List Thread) (p' : Phase) (f : ℕ)
      → r.thread < length hs → ((u : ℕ) → stage (get_or hs u fresh_thread).phase ≡ stage_at s u) → Written s e ws
      → Own r.order (thread_at s r.thread).phase e s.words ws (stage_at s r.thread) (stage p')
      → Told s (moves r.thread ws m q hs p' f) r e
  moved e ws m q hs p' f l rest k own = record {
    own = rw (get_or-set_same hs r.thread (record { phase = p'; failures = f }) fresh_thread l) own;
    other =
        λ u n. rw (get_or-set_other hs r.thread u (record { phase = p'; failures = f }) fresh_thread n) (rest u);
    written = k;
  }

starts-begins : {z : Sizes} {o : ℕ} {w : Order} {p p' : Phase} → Starts z o w p p' → Begins o (stage p')
unfolding stage
starts-begins (Starts.writes e) = others (omega arith)
starts-begins (Starts.reads n e l) = reads n e
starts-begins (Starts.leaves e) = others (omega arith)
starts-begins (Starts.departs k e) = others (omega arith)
starts-begins (Starts.unlocks e) = others (omega arith)
starts-begins (Starts.upgrades e) = others (omega arith)
starts-begins (Starts.trades k e) = others (omega arith)
starts-begins (Starts.lowers e) = others (omega arith)

pub tells : (z : Sizes) (s : State) (r : Row) → Inv z s → Tells s r (step z s r)
tells z s r inv =
    row_makes z s r inv (Traces s (thread_at s r.thread).phase) (Tells s r) (idles s r) (λ n. tt)
    (λ o e ws m q hs p f l i n k. moved s r e ws m q hs p f l k.others k.written (goes_on (no-begin e n) k.own))
    (λ w p' q k l. moved s r call_begun s.words s.mutex s.queue s.threads p' _ l (λ u. refl)
    (unwritten s call_begun) (starts refl (starts-begins k) refl))
    (λ l. traced z s r.thread inv l _ refl (inv.right r.thread))

-- ---- a row of a run from the fresh lock

module _ (z : Sizes) (range : InRange z) (rs : List Row) where
  pub inv_at : (i : ℕ) → Inv z (state_at z rs i)
  inv_at i = (held z range (take i rs)).inv

  pub told : (i : ℕ) → i < (run z fresh rs).taken
      → Told (state_at z rs i) (state_at z rs (suc i)) (row_at z rs i) (entry_at z rs i)
  told i l = subst (Tells (state_at z rs i) (row_at z rs i))
      (row-leads z fresh rs i _ _ l) (tells z (state_at z rs i) (row_at z rs i) (inv_at i))

  -- what row i, by t or not, makes of the stage of t
  pub data RowOf (t i : ℕ) : Stage → Stage → Type 0 where
    acts : {x y : Stage} → (row_at z rs i).thread ≡ t
        → Own (row_at z rs i).order (thread_at (state_at z rs i) (row_at z rs i).thread).phase
        (entry_at z rs i) (state_at z rs i).words (state_at z rs (suc i)).words x y → RowOf t i x y
    waits : (x : Stage) → (row_at z rs i).thread ≢ t → RowOf t i x x

  pub row_of : (t i : ℕ)
      → i < (run z fresh rs).taken → RowOf t i (stage_at (state_at z rs i) t) (stage_at (state_at z rs (suc i)) t)
  row_of t i l =
      dec-both (ℕ_discrete t (row_at z rs i).thread)
      (λ e. subst (λ (u : ℕ). RowOf t i (stage_at (state_at z rs i) u) (stage_at (state_at z rs (suc i)) u)) (sym e)
      (acts (sym e) (told i l).own))
      (λ e. rw ((told i l).other t e) (waits _ (λ q. e (sym q))))

  -- what every row keeps of the stage of t holds from state j on, where it holds in j
  pub kept_from : (t j : ℕ) (P : ℕ → Stage → Type 0) → P j (stage_at (state_at z rs j) t)
      → ((i : ℕ) (x y : Stage) → j ≤ i → i < (run z fresh rs).taken → stage_at (state_at z rs i) t ≡ x → RowOf t i x y
      → P i x → P (suc i) y)
      → (i : ℕ) → j ≤ i → i ≤ (run z fresh rs).taken → P i (stage_at (state_at z rs i) t)
  kept_from t j P h f zero a l = let e : j ≡ 0 = omega arith in subst (λ (k : ℕ). P k (stage_at (state_at z rs k) t)) e h
  kept_from t j P h f (suc i) a l =
      dec-both (ℕ_discrete j (suc i)) (λ e. subst (λ (k : ℕ). P k (stage_at (state_at z rs k) t)) e h)
      (λ e. let b : j ≤ i = omega arith in
      f i _ _ b l refl (row_of t i l) (kept_from t j P h f i b (omega arith)))
