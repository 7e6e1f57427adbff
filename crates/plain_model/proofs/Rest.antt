-- Both engines at rest, with the same to be seen; and how many read in the plain engine.
use Rattle.lock.proofs.Library.{ℕ, ◌+◌, ◌-◌, ◌^◌, ◌<◌, ◌≡◌, refl, sym, subst, ap, ◌∙◌, Bool, true, false, not}
use Rattle.lock.proofs.Library.{◌&&◌, List, [], ◌∷◌, Option, none, some, arith, dec_lt, eqb, length, get_or, set, set_out}
use Rattle.lock.{proofs.Library.eqb-true, proofs.Library.eq-eqb, proofs.Library.ne_eqb, proofs.Choice.if-both}
use Rattle.lock.{proofs.Choice.not-both, proofs.Memory.Fits, proofs.Row.at_set, proofs.Row.recalls}
use Rattle.std.specs.Prelude.{if◌then◌else◌}
use Rattle.laws.proofs.Lock.{is_closed, is_zero, total, Group, writer, is_writer, Waiters, next_group}
use Rattle.laws.proofs.Lock.{writer_queued, size, longest, Phase, Standing, Thread, Idle, Writing, Asleep, Reading}
use Rattle.laws.proofs.Lock.{standing, Sizes, State, fresh_thread, word_at, thread_at, holding, woken}
use Rattle.laws.{specs.Exclusion.Resting, proofs.Sum.bit_at, proofs.Staying.woken-at, proofs.Locks.locks-of}
use Rattle.plain_model.specs.Root.{Root, is_shut, is_free, is_spent, less, storing}
use Rattle.plain_model.specs.Plain.{Plain, plain_at, ended, ends, wakes, passes, read_locks, write_locks, handed}
use Rattle.plain_model.specs.{Plain.reader_leaves, Equal.Same}
use Rattle.plain_model.proofs.Sight.{look_of, looks, looks-at, looks-set, looks-woken, awake, awake-length}
use Rattle.plain_model.proofs.Sight.{awake-out, reads, readers_in, readers-set, readers-awake, readers-woken}
use Rattle.plain_model.proofs.Fate.{Sight, sight, none_read, some_read}
use Rattle.progress.{proofs.Kept.Kept, proofs.Progress.owner-calls}

abbrev pub plain_sight : Plain → Sight
plain_sight p = record { shut = is_shut p.root; queue = p.queue; all = looks p.threads }

abbrev pub Counts : Plain → Type 0
Counts p = p.root.count ≡ readers_in (looks p.threads)

-- the readers are without a ticket
abbrev pub Bare : List Thread → Type 0
Bare hs = (u : ℕ) → standing (get_or hs u fresh_thread).phase ≡ look_of (get_or hs u fresh_thread).phase

pub record Sound (p : Plain) : Type 0 where
  pub counted : Counts p
  pub bare : Bare p.threads

pub record Rest (z : Sizes) (s : State) (p : Plain) : Type 0 where
  pub kept : Kept z s
  pub fits : (u : ℕ) → Fits z.fan (recalls s u)
  pub rested : Resting s
  pub unfailed : (u : ℕ) → (thread_at s u).failures ≡ 0
  pub seen : sight (word_at s 0) s.queue (looks s.threads) ≡ plain_sight p
  pub sound : Sound p

module _ (z : Sizes) (s : State) (p : Plain) (rest : Rest z s p) where
  pub shut-same : is_closed (word_at s 0) ≡ is_shut p.root
  shut-same = ap (λ (x : Sight). x.shut) rest.seen

  pub queue-same : s.queue ≡ p.queue
  queue-same = ap (λ (x : Sight). x.queue) rest.seen

  pub looks-same : looks s.threads ≡ looks p.threads
  looks-same = ap (λ (x : Sight). x.all) rest.seen

  -- the plain surplus is the number of readers, and so is 0 exactly where the tree's count is
  pub zero_same : eqb p.root.count 0 ≡ is_zero (word_at s 0)
  zero_same = from (dec_lt 0 (total (word_at s 0)))
    where
      c : p.root.count ≡ readers_in (looks s.threads)
      c = rest.sound.counted ∙ ap readers_in (sym looks-same)

      from : Dec (0 < total (word_at s 0)) → eqb p.root.count 0 ≡ is_zero (word_at s 0)
      from (yes a) =
          let k = some_read s (((locks-of z s rest.kept.inv).counted rest.rested).0 a) in
          ne_eqb p.root.count 0 (λ q. omega (arith, c)) ∙ sym (ne_eqb (total (word_at s 0)) 0 (λ q. omega arith))
      from (no a) =
          let k = none_read z s rest.kept.inv (omega arith) in
          eq-eqb p.root.count 0 (omega (arith, c)) ∙ sym (eq-eqb (total (word_at s 0)) 0 (omega arith))

  pub look-same : (t : ℕ) → look_of (plain_at p t).phase ≡ look_of (thread_at s t).phase
  look-same t = sym (looks-at p.threads t)
      ∙ ap (λ (x : List Standing). get_or x t Standing.Idle) (sym looks-same) ∙ looks-at s.threads t

  pub same_of : Same s p
  unfolding look_of
  same_of =
      record {
        standings = λ t. rest.sound.bare t ∙ look-same t;
        queue = sym queue-same;
        flag = sym shut-same;
        zero = zero_same;
        mutex = free s.mutex refl;
        unfailed = rest.unfailed;
      }
    where
      free : (o : Option ℕ) → s.mutex ≡ o → o ≡ none
      free none e = refl
      free (some u) e = absurd (rest.rested u (owner-calls z s rest.kept u e))

-- ---- the readers stay without a ticket

abbrev Ticketless : Phase → Type 0
Ticketless x = standing x ≡ look_of x

pub bare_ends : (t : ℕ) (x : Phase) (hs : List Thread) → Ticketless x → Bare hs → Bare (ends t x hs)
bare_ends t x hs h k u = elim (dec_lt t (length hs)) [
  | yes a ↦ at_set (λ (y : Thread). Ticketless y.phase) hs t u (ended t x hs) a (λ e. h) (λ n. k u)
  | no a ↦ subst (λ (y : List Thread). Ticketless (get_or y u fresh_thread).phase)
      (sym (set_out hs t (ended t x hs) (omega arith))) (k u)
]

pub bare-passes : (t : ℕ) (o : Option Group) (hs : List Thread) → Bare hs → Bare (passes t o hs)
unfolding look_of standing
bare-passes t none hs k = bare_ends t Idle hs refl k
bare-passes t (some g) hs k = bare_ends t Idle (woken (holding g) g.members hs) refl
    (λ u. woken-at Ticketless (holding g) g.members hs u (from (is_writer g)) (k u))
  where
    from : (b : Bool) → Ticketless (if b then Writing else Reading 0)
    from true = refl
    from false = refl

-- ---- and how many read, after each call

module _ (p : Plain) (t : ℕ) (sound : Sound p) (len : t < length (looks p.threads)) where
  abbrev l : List Standing
  l = looks p.threads

  end-looks : (x : Phase) → looks (ends t x p.threads) ≡ set l t (look_of x)
  end-looks x = looks-set p.threads t (ended t x p.threads)

  wake-looks : (g : Group)
      → looks (wakes t g p.threads) ≡ set (awake (look_of (holding g)) g.members l) t (look_of Idle)
  wake-looks g =
      looks-set (woken (holding g) g.members p.threads) t
      (ended t Idle (woken (holding g) g.members p.threads))
      ∙ ap (λ (x : List Standing). set x t (look_of Idle)) (looks-woken (holding g) g.members p.threads)

  end-count : (x : Phase) (n : ℕ) → n + reads (get_or l t Standing.Idle) ≡ p.root.count + reads (look_of x)
      → n ≡ readers_in (looks (ends t x p.threads))
  end-count x n h = omega (arith, sound.counted, readers-set l t (look_of x) len, ap readers_in (end-looks x))

  -- the call ends in the phase x, with the root r
  end-sound : (x : Phase) (r : Root) (q : Waiters) → Ticketless x
      → r.count + reads (get_or l t Standing.Idle) ≡ p.root.count + reads (look_of x)
      → Sound (record { root = r; queue = q; threads = ends t x p.threads })
  end-sound x r q h n =
      record { counted = end-count x r.count n; bare = bare_ends t x p.threads h sound.bare }

  pub read-sound : get_or l t Standing.Idle ≡ Standing.Idle → Sound (read_locks p t)
  unfolding look_of standing
  read-sound e =
      let o = ap reads e in
      if-both Sound (is_shut p.root) (λ k. end-sound Asleep _ _ refl (omega arith))
      (λ k. end-sound (Reading 0) _ _ refl (omega arith))

  pub write-sound : get_or l t Standing.Idle ≡ Standing.Idle → Sound (write_locks p t)
  unfolding look_of standing
  write-sound e =
      let o = ap reads e in
      if-both Sound (is_free p.root) (λ k. end-sound Writing _ _ refl (omega (arith, free (is_shut p.root) k)))
      (λ k. end-sound Asleep _ _ refl (omega arith))
    where
      free : (b : Bool) → (not b && eqb p.root.count 0) ≡ true → p.root.count ≡ 0
      free true q = not-both true refl (sym q)
      free false q = eqb-true p.root.count 0 q

  -- t reads: without it the surplus is one less
  pub less_one : get_or l t Standing.Idle ≡ Standing.Reading 0 → p.root.count - 1 ≡ readers_in (set l t Standing.Idle)
  less_one e = omega (arith, sound.counted, readers-set l t Standing.Idle len, ap reads e)

  pub leave-sound : get_or l t Standing.Idle ≡ Standing.Reading 0 → Sound (reader_leaves p t)
  unfolding look_of standing
  leave-sound e =
      if-both Sound (is_spent (less p.root))
      (λ k. record {
        counted = last p.queue.writers (and_left _ _ k);
        bare = bare-passes t (next_group true p.queue) p.threads sound.bare;
      })
      (λ k. record {
        counted = less_one e ∙ ap readers_in (sym (end-looks Idle));
        bare = bare_ends t Idle p.threads refl sound.bare;
      })
    where
      and_left : (a b : Bool) → (a && b) ≡ true → a ≡ true
      and_left true b q = refl
      and_left false b q = q

      last : (ws : List ℕ) → eqb (p.root.count - 1) 0 ≡ true
          → p.root.count - 1 ≡ readers_in (looks (passes t (longest ws) p.threads))
      last [] k = less_one e ∙ ap readers_in (sym (end-looks Idle))
      last (w ∷ ws) k =
          let z : p.root.count - 1 ≡ 0 = eqb-true _ _ k in
          omega (
            arith,
            less_one e,
            readers-awake Standing.Writing refl (2 ^ w) l t Standing.Idle,
            ap readers_in (wake-looks (writer (2 ^ w))),
          )

  -- t writes, and none reads: a set of readers that it takes is all that reads then
  abbrev pub Taken : Option Group → Type 0
  Taken none = Unit {0}
  Taken (some g) = is_writer g ≡ false → (bit_at g.members t ≡ 0) × (g.members < 2 ^ length l)

  pub hand-counts : (o : Option Group) (q : Waiters)
      → p.root.count ≡ 0 → get_or l t Standing.Idle ≡ Standing.Writing → Taken o
      → (handed p.root q o).count ≡ readers_in (looks (passes t o p.threads))
  unfolding look_of standing
  hand-counts none q n e h = end-count Idle 0 (omega (arith, ap reads e))
  hand-counts (some g) q n e h = from (is_writer g) refl h
    where
      still : readers_in (set l t Standing.Idle) ≡ 0
      still = omega (arith, sound.counted, readers-set l t Standing.Idle len, ap reads e)

      stored : (w : Bool) → (storing (size g.members) w).count ≡ size g.members
      stored true = refl
      stored false = refl

      from : (b : Bool) → is_writer g ≡ b → (b ≡ false → (bit_at g.members t ≡ 0) × (g.members < 2 ^ length l))
          → (if b then p.root else storing (size g.members) (writer_queued q)).count
          ≡ readers_in (looks (wakes t g p.threads))
      from true w h =
          let a : readers_in (looks (wakes t g p.threads))
          ≡ readers_in (set (awake Standing.Writing g.members l) t Standing.Idle) = rw (wake-looks g, w) in
          omega (arith, still, readers-awake Standing.Writing refl g.members l t Standing.Idle)
      from false w h =
          let a : readers_in (looks (wakes t g p.threads))
          ≡ readers_in (set (awake (Standing.Reading 0) g.members l) t Standing.Idle) = rw (wake-looks g, w) in
          let b = readers-woken 0 g.members l (h refl).1 (omega (arith, sound.counted)) in
          let d = readers-set (awake (Standing.Reading 0) g.members l) t Standing.Idle
          (omega (arith, awake-length (Standing.Reading 0) g.members l)) in
          let i = ap reads (awake-out (Standing.Reading 0) g.members l t (h refl).0 ∙ e) in
          omega (arith, stored (writer_queued q))
