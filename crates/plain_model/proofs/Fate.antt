-- The fate of a call: what a thread that is in a call, and moves alone, will end with. Every phase that it comes
-- to has a fate, and each row of the thread keeps it.
use Rattle.lock.proofs.Library.{ℕ, ◌-◌, ◌<◌, ◌≡◌, refl, sym, subst, ap, ◌∙◌, ◌≢◌, Bool, true, false, not, ◌&&◌, List}
use Rattle.lock.proofs.Library.{[], ◌∷◌, Option, none, some, le_refl, arith, ℕ_discrete, dec_lt, eqb, length, get_or, set}
use Rattle.lock.proofs.Library.{List·getD-eq-default, get_or-set_same, get_or-set_other, eqb-true, eqb-false, ne_eqb}
use Rattle.lock.proofs.Choice.{clash, if-both, not-both, there}
use Rattle.lock.proofs.Row.{at_set}
use Rattle.std.specs.Prelude.{if◌then◌else◌}
use Rattle.laws.proofs.Lock.{Word, opened, closed, is_closed, is_zero, total, same, down, down_direct, up}
use Rattle.laws.proofs.Lock.{up_direct, shut, parent, Group, readers, is_writer, Waiters, joined, next_group, left}
use Rattle.laws.proofs.Lock.{writer_queued, longest, size, Then, Phase, Standing, Leaving, Upgrading, Inside, standing}
use Rattle.laws.proofs.Lock.{ended, departed, stored, looked, climbed, arrived, unlock_got, op, Sizes, State, word_at}
use Rattle.laws.proofs.Lock.{thread_at, with_word, holding, Entry, Thread, word_read, swap_done, with_threads, with_queue}
use Rattle.laws.specs.Exclusion.{counts_as, Resting, Reads}
use Rattle.laws.proofs.Role.{NodeWord, Inv, place, role, Right, role_at}
use Rattle.laws.proofs.Facts.{zero-not, same-eq, up_root}
use Rattle.laws.{proofs.Lock.is_failure, proofs.Seen.by-seen, proofs.Cases.dec-both, proofs.Made.Becomes}
use Rattle.laws.{proofs.Locks.reads-count, proofs.Locks.locks-of, proofs.Calls.last-writer}
use Rattle.plain_model.specs.Equal.{OthersRest}
use Rattle.plain_model.proofs.Sight.{look_of, looks, looks-length, looks-at, looks-set, awake, reads, readers_in}
use Rattle.plain_model.proofs.Sight.{looks-woken, awake-set, readers-set, readers-mem, readers-none}

-- ---- what is seen of a state

pub record Sight : Type 0 where
  pub shut : Bool
  pub queue : Waiters
  pub all : List Standing

abbrev pub sight : Word → Waiters → List Standing → Sight
sight v q l = record { shut = is_closed v; queue = q; all = l }

-- the standings, with x at thread t
abbrev pub hole : State → ℕ → Standing → List Standing
hole s t x = set (looks s.threads) t x

-- ---- fates, over the root v, the queue q and the standings l with a hole for t's

-- t wakes g
abbrev pub woke : ℕ → Group → (Standing → List Standing) → List Standing
woke t g l = set (awake (look_of (holding g)) g.members (l Standing.Idle)) t Standing.Idle

abbrev pub passed : ℕ → Option Group → (Standing → List Standing) → List Standing
passed t none l = l Standing.Idle
passed t (some g) l = woke t g l

-- t leaves as a writer and has taken the group
abbrev pub handed_shut : Bool → Waiters → Option Group → Bool
handed_shut b q none = false
handed_shut b q (some g) = if is_writer g then b else writer_queued q

abbrev pub freed : ℕ → Word → Waiters → Option Group → (Standing → List Standing) → Sight
freed t v q o l = record { shut = handed_shut (is_closed v) q o; queue = q; all = passed t o l }

-- is it (0, 0, open)?
abbrev pub is_free : Word → Bool
is_free v = not (is_closed v) && is_zero v

module _ (t : ℕ) (v : Word) (q : Waiters) (l : Standing → List Standing) where
  -- the call ends so, and nothing else changes
  abbrev stands : Standing → Option Sight
  stands x = some (sight v q (l x))

  abbrev joins : Bool → Option Sight
  joins e = some (sight v (joined e t q) (l Standing.Asleep))

  abbrev looking : Option Sight
  looking = if is_closed v then joins false else stands (Standing.Reading 0)

  -- who moves alone found the root open, or closed
  abbrev entering : Option Sight
  entering = if is_closed v then none else stands (Standing.Reading 0)

  abbrev queueing : Option Sight
  queueing = if is_closed v then joins false else none

  abbrev wanting : Option Sight
  wanting =
      if is_free v then some (record { shut = true; queue = q; all = l Standing.Writing })
      else some (record { shut = true; queue = joined true t q; all = l Standing.Asleep })

  abbrev lastly : Option Sight
  lastly = some (sight v (left true q) (passed t (next_group true q) l))

  abbrev going : Option Sight
  going = if eqb (readers_in (l Standing.Idle)) 0 && is_closed v then lastly else stands Standing.Idle

  abbrev departing : Then → Option Sight
  departing Leaving = going
  departing Upgrading = none
  departing (Inside n c) = none

  abbrev unlocking : Option Sight
  unlocking = some (freed t v (left false q) (next_group false q) l)

  abbrev waking : Group → Option Sight
  waking g = some (sight v q (woke t g l))

  -- of each phase; none where who moves alone does not come
  unfoldable pub fate_of : Phase → Option Sight
  fate_of Phase.Idle = stands Standing.Idle
  fate_of Phase.Writing = stands Standing.Writing
  fate_of Phase.Asleep = stands Standing.Asleep
  fate_of (Phase.Reading k) = stands (Standing.Reading 0)
  fate_of (Phase.Look n) = looking
  fate_of (Phase.Enter v) = entering
  fate_of (Phase.Climb c n) = entering
  fate_of (Phase.ClimbSwap c n v) = entering
  fate_of (Phase.Descend c n) = stands (Standing.Reading 0)
  fate_of (Phase.Again c n) = none
  fate_of (Phase.AgainSwap c n v) = none
  fate_of (Phase.Depart d k) = departing k
  fate_of (Phase.DepartSwap d k v) = departing k
  fate_of Phase.Leave = going
  fate_of (Phase.LeaveSwap v) = going
  fate_of (Phase.QueueTake n) = queueing
  fate_of (Phase.QueueRead n) = queueing
  fate_of (Phase.QueueBack n) = none
  fate_of Phase.QueueJoin = joins false
  fate_of Phase.Sleep = stands Standing.Asleep
  fate_of Phase.WriteLook = wanting
  fate_of Phase.WriteEnter = wanting
  fate_of Phase.WriteTake = wanting
  fate_of Phase.WriteRead = wanting
  fate_of (Phase.WriteClose v) = wanting
  fate_of Phase.WriteHold = stands Standing.Writing
  fate_of Phase.WriteJoin = joins true
  fate_of Phase.UnlockTake = unlocking
  fate_of Phase.UnlockNext = unlocking
  fate_of Phase.UnlockOpen = some (record { shut = false; queue = q; all = l Standing.Idle })
  fate_of Phase.UnlockEnd = stands Standing.Idle
  fate_of (Phase.UnlockStore b) = some (record { shut = writer_queued q; queue = q; all = woke t (readers b) l })
  fate_of Phase.LastTake = lastly
  fate_of Phase.LastNext = lastly
  fate_of (Phase.HandRelease g) = waking g
  fate_of (Phase.HandWake g) = waking g
  fate_of (Phase.UpgradeTrade n) = none
  fate_of (Phase.UpgradeEnter n v) = none
  fate_of Phase.UpgradeLook = none
  fate_of (Phase.UpgradeSwap v) = none
  fate_of Phase.DowngradeTake = none
  fate_of Phase.DowngradeNext = none
  fate_of (Phase.DowngradeStore b) = none
  fate_of (Phase.DowngradeRelease b) = none
  fate_of (Phase.DowngradeWake b) = none

-- ---- what each operation of a thread that moves alone has to show

-- t leaves the state s and goes on to p: its fate is f
abbrev pub Goes : ℕ → Sight → State → Phase → Type 0
Goes t f s p = fate_of t (word_at s 0) s.queue (hole s t) p ≡ some f

-- the state s once t is at p, with n failures
abbrev pub moved : State → ℕ → Phase → ℕ → State
moved s t p n = with_threads s (set s.threads t (record { phase = p; failures = n }))

-- this is to be shown of every entry but that of a failed swap, which who moves alone does not make
abbrev pub Fated : Sizes → ℕ → Sight → Entry → State → Phase → Type 0
Fated z t f e s p = is_failure e ≡ false → (n : ℕ) → Inv z (moved s t p n) → Goes t f s p

-- ---- facts

and-false : (b : Bool) → (b && false) ≡ false
and-false true = refl
and-false false = refl

pub stored-closed : (n : ℕ) (w : Bool) → is_closed (stored n w) ≡ w
stored-closed n true = refl
stored-closed n false = refl

-- a thread's look is that of a reader only if it reads
pub look-reads : (p : Phase) → ((k : ℕ) → p ≢ Phase.Reading k) → reads (look_of p) ≡ 0
unfolding look_of standing
look-reads =
    by-seen (λ (p : Phase). ((k : ℕ) → p ≢ Phase.Reading k) → reads (look_of p) ≡ 0) (λ h. refl) (λ h. refl) (λ h. refl)
    (λ k h. absurd (h k refl)) (λ p e c h. rw e)

-- where the root's count is 0, none reads
pub none_read : (z : Sizes) (s : State) → Inv z s → total (word_at s 0) ≡ 0 → readers_in (looks s.threads) ≡ 0
unfolding counts_as
none_read z s inv h =
    readers-none (looks s.threads) (λ u. ap reads (looks-at s.threads u)
    ∙ look-reads (thread_at s u).phase (λ k e. omega (arith, reads-count z s inv u (ap counts_as e))))

-- who reads is counted
pub some_read : (s : State) → Reads s → 0 < readers_in (looks s.threads)
unfolding look_of standing
some_read s r =
    let e : get_or (looks s.threads) r.thread Standing.Idle ≡ Standing.Reading 0 =
    looks-at s.threads r.thread ∙ ap look_of r.reads in
    omega (arith, readers-mem (looks s.threads) r.thread, ap reads e)

module _ (z : Sizes) (s : State) (t : ℕ) (inv : Inv z s) (l : t < 64) where
  in_words : 0 < length s.words
  in_words = omega (arith, inv.words)

  in-threads : t < length s.threads
  in-threads = omega (arith, inv.threads)

  in-looks : t < length (looks s.threads)
  in-looks = omega (arith, in-threads, looks-length s.threads)

  -- the root is set to v
  put : (v : Word) → word_at (with_word s 0 v) 0 ≡ v
  put v = get_or-set_same s.words 0 v (opened 0 0) in_words

  -- a swap that keeps a word's flag keeps the root's
  still : (w : ℕ) (new : Word) → is_closed new ≡ is_closed (word_at s w)
      → is_closed (word_at (with_word s w new) 0) ≡ is_closed (word_at s 0)
  still w new e =
      dec-both (ℕ_discrete 0 w)
      (λ q. subst (λ (x : ℕ). is_closed (word_at (with_word s x new) 0) ≡ is_closed (word_at s 0)) q
      (ap is_closed (put new) ∙ e ∙ ap (λ (x : ℕ). is_closed (word_at s x)) (sym q)))
      (λ q. ap is_closed (get_or-set_other s.words w 0 new (opened 0 0) q))

  module _ (rest : OthersRest s t) (f : Sight) where
    abbrev root : Word
    root = word_at s 0

    -- ---- a reader departs, swapping d from v to u with the flag kept

    module _ (d : ℕ) (v u : Word) (e : word_at s d ≡ v) (g : is_closed u ≡ is_closed v)
        (met : Goes t f s Phase.Leave) where
      abbrev s₁ : State
      s₁ = with_word s d u

      abbrev root' : Word
      root' = word_at s₁ 0

      kept : is_closed root' ≡ is_closed root
      kept = still d u (g ∙ ap is_closed (sym e))

      at-root : d ≡ 0 → root' ≡ u
      at-root i = rw i (put u)

      abbrev After : Phase → Type 0
      After p = (n : ℕ) → Inv z (moved s₁ t p n) → Goes t f s₁ p

      -- the last
      depart-last : d ≡ 0 → u ≡ closed 0 0 → After Phase.LastTake
      unfolding fate_of look_of standing
      depart-last i q n inv' = rw (kept, shut-root) (rw (shut-root, none_left) at met)
        where
          shut-root : is_closed root ≡ true
          shut-root = sym kept ∙ ap is_closed (at-root i ∙ q)

          none_left : readers_in (hole s t Standing.Idle) ≡ 0
          none_left =
              let a = rw (looks-set s.threads t (record { phase = Phase.LastTake; failures = n }))
              at (none_read z (moved s₁ t Phase.LastTake n) inv' (ap total (at-root i ∙ q))) in
              omega (
                arith,
                a,
                readers-set (looks s.threads) t Standing.Idle in-looks,
                readers-set (looks s.threads) t Standing.Calling in-looks,
              )

      -- not the last: where the root is closed, others read
      depart-idle : ((n : ℕ) → Inv z (moved s₁ t Phase.Idle n) → is_closed root ≡ true → 0 < total root')
          → After Phase.Idle
      unfolding fate_of look_of standing
      depart-idle more n inv' = from (is_closed root) refl
        where
          s' : State
          s' = moved s₁ t Phase.Idle n

          at_rest : Resting s'
          at_rest u =
              at_set (λ (h : Thread). standing h.phase ≢ Standing.Calling) s.threads t u _ in-threads
              (λ i q. clash cc) (rest u)

          others : is_closed root ≡ true → 0 < readers_in (hole s t Standing.Idle)
          others c =
              rw (looks-set s.threads t (record { phase = Phase.Idle; failures = n }))
              at (some_read s' (((locks-of z s' inv').counted at_rest).0 (more n inv' c)))

          from : (b : Bool) → is_closed root ≡ b → Goes t f s₁ Phase.Idle
          from true c =
              rw (kept, c)
              (rw (c, ne_eqb (readers_in (hole s t Standing.Idle)) 0 (λ q. omega (arith, others c))) at met)
          from false c = rw (kept, c) (rw (c, and-false) at met)

      -- on to the parent
      depart-up : After (Phase.Depart (parent z.fan d) Leaving)
      unfolding fate_of
      depart-up n inv' = rw kept met

      -- at the root: the departure is the last, or not
      ends : d ≡ 0 → After (ended z.fan Leaving (same u (closed 0 0)))
      ends i =
          if-both After (same u (closed 0 0)) (λ k. depart-last i (same-eq u (closed 0 0) k))
          (λ k. depart-idle (λ n inv' c.
          let h : 1 - total u ≡ 0 = rw (sym (ap is_closed (at-root i)) ∙ kept ∙ c) at (zero-not u k) in
          omega (arith, ap total (at-root i))))

    -- by the tree
    departs : (d : ℕ) (v : Word) (e : word_at s d ≡ v) → 0 < v.tree → (met : Goes t f s Phase.Leave)
        → After d v (down v) e refl met (departed z.fan d Leaving (down v))
    departs d v e h met =
        if-both P (eqb d 0) (λ i. ends d v (down v) e refl met (eqb-true d 0 i))
        (λ i. if-both P (is_zero (down v)) (λ k. depart-up d v (down v) e refl met)
        (λ k. depart-idle d v (down v) e refl met (above (eqb-false d 0 i) (eqb-false _ _ k))))
      where
        P : Phase → Type 0
        P = After d v (down v) e refl met

        in_tree : d < length s.words
        in_tree =
            dec-both (dec_lt d (length s.words)) (λ a. a)
            (λ a. let q = List·getD-eq-default s.words (opened 0 0) {n = d} (omega arith) in
            absurd (omega (arith, ap (λ (u : Word). u.tree) (sym e ∙ q))))

        above : d ≢ 0 → total (down v) ≢ 0 → (n : ℕ) → Inv z (moved (with_word s d (down v)) t Phase.Idle n)
            → is_closed root ≡ true → 0 < total (word_at (with_word s d (down v)) 0)
        above i k n inv' c =
            let g : get_or (set s.words d (down v)) d (opened 0 0) ≡ down v =
            get_or-set_same s.words d (down v) (opened 0 0) (omega (arith, in_tree)) in
            let j : NodeWord v = subst NodeWord e (inv.plainly d (omega arith)) in
            omega (
              arith,
              inv'.counts 0,
              up_root z (moved (with_word s d (down v)) t Phase.Idle n) inv' d d
                  (le_refl d) (omega arith) (omega (arith, in_tree, ap (λ (x : Word). x.tree) g)),
            )

    -- ---- every row

    abbrev F : ℕ
    F = z.fan

    -- by the entry e, in the state s₁, to p
    abbrev To : Entry → State → Phase → Type 0
    To e s₁ p = Fated z t f e s₁ p

    looked-on : (n : ℕ) → Goes t f s (Phase.Look n) → To (word_read 0) s (looked n root)
    unfolding fate_of
    looked-on n g =
        if-both (To (word_read 0) s) (is_closed root) (λ e _ _ _. rw e (rw e at g))
        (λ e. if-both (To (word_read 0) s) (eqb n 0) (λ k _ _ _. rw e (rw e at g)) (λ k _ _ _. rw e (rw e at g)))

    -- where the root is closed the fate is none
    climbed-on : (c n : ℕ) → Goes t f s (Phase.Climb c n) → To (word_read c) s (climbed F c n (word_at s c))
    unfolding fate_of
    climbed-on c n g =
        if-both (To (word_read c) s) (eqb c 0)
        (λ i. if-both (To (word_read c) s) (same (word_at s c) (closed 0 0))
        (λ k. not-both (is_closed root)
        (ap is_closed (ap (λ (x : ℕ). word_at s x) (sym (eqb-true c 0 i)) ∙ same-eq (word_at s c) (closed 0 0) k))
        (there (is_closed root) g).0)
        (λ k _ _ _. g))
        (λ i. if-both (To (word_read c) s) (same (word_at s c) (opened 0 0)) (λ k _ _ _. g) (λ k _ _ _. g))

    -- c was swapped to a word with the same flag, and is arrived at
    arrived-on : (c n : ℕ) (new : Word) → is_closed new ≡ is_closed (word_at s c) → Goes t f s (Phase.Reading n)
        → To (swap_done c) (with_word s c new) (arrived F c n)
    unfolding fate_of
    arrived-on c n new e g =
        if-both (To (swap_done c) (with_word s c new)) (eqb c n) (λ i _ _ _. rw (still c new e) g)
        (λ i _ _ _. rw (still c new e) g)

    unlock-on : (q : Waiters) (o : Option Group) → some (freed t root q o (hole s t)) ≡ some f
        → Goes t f (with_queue s q) (unlock_got o)
    unfolding fate_of
    unlock-on q none g = g
    unlock-on q (some o) g =
        if-both (Goes t f (with_queue s q)) (is_writer o) (λ e. rw e (rw e at g)) (λ e. rw e at g)

    -- the last reader finds a writer
    last_on : (q : Waiters) (ws : List ℕ) → 0 < length ws
        → some (sight root q (passed t (longest ws) (hole s t))) ≡ some f
        → Goes t f (with_queue s q) (unlock_got (longest ws))
    unfolding fate_of
    last_on q [] h g = absurd (omega arith)
    last_on q (w ∷ ws) h g = g

    -- to a phase without a fate it does not come; told from the equation alone, since with all that `onward` has opened
    -- the search takes longer than the rest of the crate
    absent : {A : Type 0} → none ≡ some f → A
    absent e = clash cc

    -- no swap fails
    no-miss : {A : Type 0} → true ≡ false → A
    no-miss e = not-both true refl e

    pub onward : (p : Phase) → Right z p → role_at z s t ≡ role z p → Goes t f s p → Becomes z s t (Fated z t f) (op F p)
    unfolding op fate_of place standing
    onward Phase.Idle r q g = tt
    onward Phase.Writing r q g = tt
    onward Phase.Asleep r q g = tt
    onward (Phase.Reading k) r q g = tt
    onward (Phase.Look n) r q g = looked-on n g
    onward (Phase.Enter v) r q g = (
      λ e _ _ _. rw (still 0 (up_direct v) (ap is_closed (sym e))) (ap some (there (is_closed root) g).1),
      λ e. no-miss,
    )
    onward (Phase.Climb c n) r q g = climbed-on c n g
    onward (Phase.ClimbSwap c n v) r q g =
        (λ e. arrived-on c n (up v) (ap is_closed (sym e)) (ap some (there (is_closed root) g).1), λ e. no-miss)
    onward (Phase.Descend c n) r q g = (λ e. arrived-on c n (opened 0 1) (ap is_closed (sym e)) g, λ e. no-miss)
    onward (Phase.Again c n) r q g = absent g
    onward (Phase.AgainSwap c n v) r q g = absent g
    onward (Phase.Depart d Leaving) r q g = λ _ _ _. g
    onward (Phase.Depart d (Inside n b)) r q g = absent g
    onward (Phase.DepartSwap d Leaving v) r q g = (λ e _. departs d v e r.2 g, λ e. no-miss)
    onward (Phase.DepartSwap d (Inside n b) v) r q g = absent g
    onward (Phase.Depart d Upgrading) r q g = absent g
    onward (Phase.DepartSwap d Upgrading v) r q g = absent g
    onward Phase.Leave r q g = λ _ _ _. g
    onward (Phase.LeaveSwap v) r q g = (λ e _. ends 0 v (down_direct v) e refl g refl, λ e. no-miss)
    onward (Phase.QueueTake n) r q g = λ _ _ _ _. g
    onward (Phase.QueueRead n) r q g =
        if-both (To (word_read 0) s) (is_closed root) (λ e _ _ _. rw e (rw e at g))
        (λ e. absent (rw e at g))
    onward (Phase.QueueBack n) r q g = absent g
    onward Phase.QueueJoin r q g = λ _ _ _. g
    onward Phase.Sleep r q g = λ _ _ _. g
    onward Phase.WriteLook r q g =
        if-both (To (word_read 0) s) (same root (opened 0 0)) (λ e _ _ _. g) (λ e _ _ _. g)
    onward Phase.WriteEnter r q g = (λ e _ _ _. rw (put (closed 0 0)) (rw e at g), λ e. no-miss)
    onward Phase.WriteTake r q g = λ _ _ _ _. g
    onward Phase.WriteRead r q g =
        if-both (To (word_read 0) s) (is_closed root) (λ e _ _ _. rw e (rw e at g)) (λ e _ _ _. g)
    onward (Phase.WriteClose v) r q g = (
      λ e. if-both (To (swap_done 0) (with_word s 0 (shut v))) (is_zero v)
          (λ k _ _ _. rw (put (shut v)) (rw (e, r, k) at g)) (λ k _ _ _. rw (put (shut v)) (rw (e, r, k) at g)),
      λ e. no-miss,
    )
    onward Phase.WriteHold r q g = λ _ _ _. g
    onward Phase.WriteJoin r q g = λ _ _ _. g
    onward Phase.UnlockTake r q g = λ _ _ _ _. g
    onward Phase.UnlockNext r q g = λ _ _ _. unlock-on (left false s.queue) (next_group false s.queue) g
    onward Phase.UnlockOpen r q g = λ _ _ _. rw (put (opened 0 0)) g
    onward Phase.UnlockEnd r q g = λ _ _ _. g
    onward (Phase.UnlockStore b) r q g =
        λ _ _ _. rw (put (stored (size b) (writer_queued s.queue)), stored-closed) g
    onward Phase.LastTake r q g = λ _ _ _ _. g
    onward Phase.LastNext r q g =
        λ _ _ _. last_on (left true s.queue) s.queue.writers (last-writer z s t inv l q) g
    onward (Phase.HandRelease h) r q g = λ _ _ _. g
    onward (Phase.HandWake h) r q g =
        λ _ _ _. rw (looks-woken (holding h) h.members s.threads) (rw awake-set at g)
    onward (Phase.UpgradeTrade n) r q g = absent g
    onward (Phase.UpgradeEnter n v) r q g = absent g
    onward Phase.UpgradeLook r q g = absent g
    onward (Phase.UpgradeSwap v) r q g = absent g
    onward Phase.DowngradeTake r q g = absent g
    onward Phase.DowngradeNext r q g = absent g
    onward (Phase.DowngradeStore b) r q g = absent g
    onward (Phase.DowngradeRelease b) r q g = absent g
    onward (Phase.DowngradeWake b) r q g = absent g
